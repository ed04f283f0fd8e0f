use Rattle.std.proofs.Common.{arith}
use Rattle.card.specs.Meaning.{rank_returned}
use Rattle.ctc.specs.FourRanks.{highest_of_four}
use Rattle.ctc.proofs.chain.CtcChain.return_from_interrupt.Goals as goal

pub returns-in-Some : goal.returns-in-Some
unfolding rank_returned
returns-in-Some c = grind (arith, highest_of_four)

pub returns-in_default : goal.returns-in_default
unfolding rank_returned
returns-in_default c = grind (arith, highest_of_four)
