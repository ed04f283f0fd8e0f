use Rattle.std.proofs.Common.{arith}
use Rattle.card.specs.Meaning.{ieo_during_return, serves}
use Rattle.ctc.specs.FourRanks.{highest_of_four}
use Rattle.ctc.proofs.chain.CtcChain.ieo_during_return.Goals as goal

pub returns : goal.returns
unfolding ieo_during_return serves
returns c = grind (arith, highest_of_four)
