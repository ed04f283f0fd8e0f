-- A channel that a constant starts in counter mode requests on time.
use Rattle.std.proofs.Common.{◌≡◌, ℕ, zero, suc, Bool, true, false, not, ◌&&◌, ◌||◌, arith}
use Rattle.std.proofs.lemmas.Bool.Decides.{nat_tests}
use Rattle.count_stage.specs.declared.CountStage.{CountStage}
use Rattle.count_stage.specs.Stage.{count_of, started, stepped, step_times_out}
use Rattle.count_stage.specs.Runs.{after_steps}
use Rattle.count_stage.proofs.TimeOuts.{count_positive, steps_at_every_multiple}
use Rattle.ctc_channel.specs.declared.control.Control.{Control}
use Rattle.ctc_channel.specs.declared.channel.Phase.TheVariants.{Running}
use Rattle.ctc_channel.specs.declared.channel.Channel.{Channel}
use Rattle.ctc.specs.declared.chip.Ctc.{Ctc}
use Rattle.ctc_channel.specs.Channels.{line_changed, line_raises}
use Rattle.ctc.specs.Numbers.{channel_of}
use Rattle.ctc.specs.Chip.{channel_at, line_set, written}
use Rattle.ctc.specs.Runs.{pulsed, control_at, requests, CountersRequestOnTime}
use Rattle.ctc.proofs.Requests.{Seen, seen_became, seen_after, seen_started}

seen_line : (port : ℕ) (c : Ctc) {x : Channel} {w : Bool} → Seen port c x w → (high : Bool) → Seen port (line_set c port (channel_of port) high) (line_changed high x) (line_raises high x || w)
seen_line port c {x} s high = grind (arith, nat_tests, seen_became port (channel_of port) s (omega arith) (line_changed high x) (line_raises high x))

-- a channel that runs in counter mode
module _ (g : Control) (counter : g.counter_mode ≡ true) where
  abbrev at : CountStage → Bool → Channel
  at s level = record { stage = s; control = g; phase = Running; awaits = false; level = level }

  -- of the two halves of a pulse the second acts alone
  seen_pulse : (port : ℕ) (c : Ctc) (s : CountStage) (level w : Bool) → Seen port c (at s level) w → Seen port (pulsed port c) (at (stepped s) g.rising_edge) ((step_times_out s && g.interrupt) || w)
  seen_pulse port c s level w h =
      let a : Bool = (control_at port c).rising_edge in
      grind (arith, seen_line port _ (seen_line port c h (not a)) a)

  -- the level of its line after n pulses
  level_after : Bool → ℕ → Bool
  level_after level zero = level
  level_after level (suc n) = g.rising_edge

pub counters_request_on_time : CountersRequestOnTime
unfolding after_steps level_after
counters_request_on_time c port t n starts counter =
    let x : Channel = channel_at (channel_of port) c in
    let level : ℕ → Bool = level_after x.control counter x.level in
    let stage : ℕ → CountStage = λ m. after_steps m (started t) in
    (seen_after port (count_of t) x.control.interrupt (count_positive t starts.is_byte) (pulsed port) (λ m. at x.control counter (stage m) (level m))
    (λ m e w s. rw (← steps_at_every_multiple t starts.is_byte m) (seen_pulse x.control counter port e (stage m) (level m) w s))
    (written c port t) (requests (channel_of port) c) (seen_started c port t starts) n).requested
