-- The bits of a channel's control word.
use Rattle.std.specs.Prelude.{ℕ, Bool, false, not, cond, ◌&&◌, ◌||◌}
use Rattle.ranks.specs.Ranks.{bit}
use Rattle.ctc_channel.specs.declared.control.Control.{Control}

-- a byte that is not awaited is a control word if bit 0 is set
abbrev pub is_control_word : ℕ → Bool
is_control_word b = bit b 0

abbrev pub stops : ℕ → Bool
stops b = bit b 1

abbrev pub constant_follows : ℕ → Bool
constant_follows b = bit b 2

-- what the channel keeps of it
abbrev pub control_of : ℕ → Control
control_of b = record { interrupt = bit b 7; counter_mode = bit b 6; by_256 = bit b 5; rising_edge = bit b 4; start_on_trigger = bit b 3 }

abbrev pub cleared : Control
cleared = record { interrupt = false; counter_mode = false; by_256 = false; rising_edge = false; start_on_trigger = false }

abbrev pub divisor_of : Control → ℕ
divisor_of c = cond c.by_256 256 16

abbrev pub differ : Bool → Bool → Bool
differ x y = cond x (not y) y

-- a change of bit 5 or of bit 6 zeroes the prescaler count
abbrev pub prescaler_restarts : Control → Control → Bool
prescaler_restarts c d = differ c.by_256 d.by_256 || differ c.counter_mode d.counter_mode

-- a constant arms a stopped channel in timer mode with bit 3 set
abbrev pub starts_armed : Control → Bool
starts_armed c = not c.counter_mode && c.start_on_trigger

-- a change of the trigger line to a new level is an edge; with bit 4 set the rising edge acts, else the falling edge
abbrev pub edge_acts : Control → Bool → Bool → Bool
edge_acts c from to = differ from to && not (differ to c.rising_edge)
