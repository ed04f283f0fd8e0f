-- What the calls make of one channel.
use Rattle.std.specs.Prelude.{ℕ, Bool, true, false, not, cond, ◌&&◌}
use Rattle.count_stage.specs.declared.CountStage.{CountStage}
use Rattle.count_stage.specs.Stage.{started, with_constant, prescaler_cleared, step_times_out, stepped, clock_times_out, clocked}
use Rattle.ctc_channel.specs.declared.channel.Phase.{Phase}
use Rattle.ctc_channel.specs.declared.channel.Phase.TheVariants.{Stopped, Armed, Running}
use Rattle.ctc_channel.specs.declared.channel.Channel.{Channel}
use Rattle.ctc_channel.specs.ControlWords.{stops, constant_follows, control_of, cleared, divisor_of, prescaler_restarts, starts_armed, edge_acts}

abbrev pub is_stopped : Phase → Bool
is_stopped Stopped = true
is_stopped Armed = false
is_stopped Running = false

abbrev pub is_armed : Phase → Bool
is_armed Stopped = false
is_armed Armed = true
is_armed Running = false

abbrev pub is_running : Phase → Bool
is_running Stopped = false
is_running Armed = false
is_running Running = true

-- stopped, with all else 0
abbrev pub new_channel : Channel
new_channel = record { stage = started 0; control = cleared; phase = Stopped; awaits = false; level = false }

-- a reset stops it, clears control and prescaler count, and awaits no constant; the constant, the counter and the outside
-- level stay
abbrev pub channel_reset : Channel → Channel
channel_reset c = record { stage = prescaler_cleared c.stage; control = cleared; phase = Stopped; awaits = false; level = c.level }

-- a constant starts a stopped channel afresh; in another it takes effect at the next time-out
abbrev pub constant_taken : ℕ → Channel → Channel
constant_taken b c =
    record {
      stage = cond (is_stopped c.phase) (started b) (with_constant b c.stage);
      control = c.control;
      phase = cond (is_stopped c.phase) (cond (starts_armed c.control) Armed Running) c.phase;
      awaits = false;
      level = c.level;
    }

abbrev pub control_taken : ℕ → Channel → Channel
control_taken b c =
    record {
      stage = cond (prescaler_restarts c.control (control_of b)) (prescaler_cleared c.stage) c.stage;
      control = control_of b;
      phase = cond (stops b) Stopped c.phase;
      awaits = constant_follows b;
      level = c.level;
    }

abbrev pub with_stage : CountStage → Channel → Channel
with_stage s c = record { stage = s; control = c.control; phase = c.phase; awaits = c.awaits; level = c.level }

-- a channel that runs in timer mode counts clocks
abbrev pub counts_clocks : Channel → Bool
counts_clocks c = is_running c.phase && not c.control.counter_mode

abbrev pub channel_clocked : Channel → Channel
channel_clocked c = with_stage (cond (counts_clocks c) (clocked (divisor_of c.control) c.stage) c.stage) c

-- a time-out with bit 7 set raises the channel's request: it makes it wait
abbrev pub clock_raises : Channel → Bool
clock_raises c = (counts_clocks c && clock_times_out (divisor_of c.control) c.stage) && c.control.interrupt

-- an edge that acts sets an armed channel running, and is a count step in one that already runs in counter mode
abbrev pub acts : Bool → Channel → Bool
acts high c = edge_acts c.control c.level high

abbrev pub counts_edge : Bool → Channel → Bool
counts_edge high c = (acts high c && is_running c.phase) && c.control.counter_mode

abbrev pub line_changed : Bool → Channel → Channel
line_changed high c =
    record {
      stage = cond (counts_edge high c) (stepped c.stage) c.stage;
      control = c.control;
      phase = cond (acts high c && is_armed c.phase) Running c.phase;
      awaits = c.awaits;
      level = high;
    }

abbrev pub line_raises : Bool → Channel → Bool
line_raises high c = (counts_edge high c && step_times_out c.stage) && c.control.interrupt
