use Rattle.std.proofs.Common.{◌≡◌, drop}
use Rattle.std.specs.List.{fold}
use Rattle.ctc.specs.Chip.{clocked_at, ctc_clocked}
use Rattle.ctc.proofs.chip.Ctc.clock_all.Given as goal

-- the clocks that are still to come complete that of the card
abbrev pub invariant-loop-channel : goal.invariant-loop-channel
invariant-loop-channel l = fold (λ c k. clocked_at k c) l.self (drop l.channel-index l.channel-items) ≡ ctc_clocked l.fn.self
