-- When a channel requests: laws over runs of clocks and of trigger pulses.
use Rattle.std.specs.Prelude.{◌≡◌, ℕ, zero, suc, ◌*◌, ◌<◌, Bool, true, false, not, ◌&&◌, ◌||◌, length, nat_le}
use Rattle.ranks.specs.RankSets.{ranks}
use Rattle.count_stage.specs.Stage.{count_of}
use Rattle.ctc_channel.specs.declared.channel.Phase.TheVariants.{Stopped}
use Rattle.ctc_channel.specs.declared.control.Control.{Control}
use Rattle.ctc.specs.declared.chip.Ctc.{Ctc}
use Rattle.ctc_channel.specs.ControlWords.{divisor_of, starts_armed}
use Rattle.ctc.specs.Numbers.{channel_of, rank_of}
use Rattle.ctc.specs.Chip.{takes, channel_at, waiting_set, written, ctc_clocked, line_set}

-- the card after n rounds of next
unfoldable pub after : ℕ → (Ctc → Ctc) → Ctc → Ctc
after zero next c = c
after (suc n) next c = next (after n next c)

abbrev pub control_at : ℕ → Ctc → Control
control_at port c = (channel_at (channel_of port) c).control

-- a pulse: the trigger line of the port's channel is changed to the level from which the acting edge starts, and then to the
-- other
abbrev pub pulsed : ℕ → Ctc → Ctc
pulsed port c =
    let acting : Bool = (control_at port c).rising_edge in
    line_set (line_set c port (channel_of port) (not acting)) port (channel_of port) acting

-- the request of channel k waits
abbrev pub requests : ℕ → Ctc → Bool
requests k c = ranks (waiting_set c) (rank_of k)

-- a constant that, written to the port, sets its channel running at once
pub record Starts (c : Ctc) (port constant : ℕ) : Type 0 where
  -- a list of channels, as definitions have it, may have any length
  pub four_channels : length c.channels ≡ 4
  pub takes_port : takes c port ≡ true
  pub is_byte : constant < 256
  pub awaited : (channel_at (channel_of port) c).awaits ≡ true
  pub stopped : (channel_at (channel_of port) c).phase ≡ Stopped
  pub not_armed : starts_armed (control_at port c) ≡ false

-- In timer mode the channel then requests, if bit 7 is set, from clock divisor × constant on and not before, unless its
-- request waited already; a constant of 0 counts as 256.
abbrev pub TimersRequestOnTime : Type 0
TimersRequestOnTime =
    (c : Ctc) (port constant n : ℕ) → Starts c port constant → (control_at port c).counter_mode ≡ false
    → requests (channel_of port) (after n ctc_clocked (written c port constant))
    ≡ (requests (channel_of port) c || ((control_at port c).interrupt && nat_le (divisor_of (control_at port c) * count_of constant) n))

-- In counter mode it does so from pulse constant on.
abbrev pub CountersRequestOnTime : Type 0
CountersRequestOnTime =
    (c : Ctc) (port constant n : ℕ) → Starts c port constant → (control_at port c).counter_mode ≡ true
    → requests (channel_of port) (after n (pulsed port) (written c port constant))
    ≡ (requests (channel_of port) c || ((control_at port c).interrupt && nat_le (count_of constant) n))
