-- A channel that a constant starts in timer mode requests on time.
use Rattle.std.proofs.Common.{ℕ, suc, ◌*◌, ◌<◌, ◌≤◌, Bool, cond, ◌||◌, ltb, arith}
use Rattle.std.proofs.lemmas.Bool.{lt-ltb, le-ltb}
use Rattle.std.proofs.lemmas.Bool.Decides.{nat_tests}
use Rattle.count_stage.specs.Stage.{count_of, started}
use Rattle.count_stage.specs.Runs.{after_clocks}
use Rattle.count_stage.proofs.TimeOuts.{period_positive, clocks_at_every_multiple}
use Rattle.ctc_channel.specs.declared.channel.Channel.{Channel}
use Rattle.ctc.specs.declared.chip.Ctc.{Ctc}
use Rattle.ctc_channel.specs.ControlWords.{divisor_of}
use Rattle.ctc_channel.specs.Channels.{with_stage, channel_clocked, clock_raises}
use Rattle.ctc.specs.Numbers.{channel_of}
use Rattle.ctc.specs.Chip.{channel_at, clocked_at, ctc_clocked, written}
use Rattle.ctc.specs.Runs.{requests, TimersRequestOnTime}
use Rattle.ctc.proofs.Requests.{Seen, seen_became, seen_after, begun, seen_started}

-- the channel, and whether it requests, when the clock has gone to the channels below j
abbrev Clocked : ℕ → ℕ → Channel → Bool → Ctc → Type 0
Clocked port j x w c = let t : Bool = ltb (channel_of port) j in Seen port c (cond t (channel_clocked x) x) (cond t (clock_raises x || w) w)

one_more : (port j : ℕ) (x : Channel) (w : Bool) (c : Ctc) → j < 4 → Clocked port j x w c → Clocked port (suc j) x w (clocked_at j c)
one_more port j x w c h s = grind (arith, nat_tests, seen_became port j s h (channel_clocked (channel_at j c)) (clock_raises (channel_at j c)))

-- a clock of the card is a clock of each channel
seen_clock : (port : ℕ) (c : Ctc) (x : Channel) (w : Bool) → Seen port c x w → Seen port (ctc_clocked c) (channel_clocked x) (clock_raises x || w)
seen_clock port c x w s =
    rw (lt-ltb (channel_of port) 4 (omega arith))
    at (one_more port 3 x w _ (omega arith) (one_more port 2 x w _ (omega arith) (one_more port 1 x w _ (omega arith) (one_more port 0 x w c (omega arith) (rw (le-ltb (channel_of port) 0 (omega arith)) s)))))

pub timers_request_on_time : TimersRequestOnTime
unfolding after_clocks
timers_request_on_time c port t n starts timer =
    let x : Channel = begun t (channel_at (channel_of port) c) in
    let d : ℕ = divisor_of x.control in
    let some : 1 ≤ d = grind arith in
    let ran : ℕ → Channel = λ m. with_stage (after_clocks d m (started t)) x in
    (seen_after port (d * count_of t) x.control.interrupt (period_positive d t starts.is_byte some) ctc_clocked ran
    (λ m e w s. rw (timer, clocks_at_every_multiple d t starts.is_byte some m) at (seen_clock port e (ran m) w s))
    (written c port t) (requests (channel_of port) c) (seen_started c port t starts) n).requested
