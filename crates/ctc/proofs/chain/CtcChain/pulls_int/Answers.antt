use Rattle.std.proofs.Common.{arith}
use Rattle.card.specs.Meaning.{pulls, asks}
use Rattle.ctc.specs.FourRanks.{highest_of_four}
use Rattle.ctc.proofs.chain.CtcChain.pulls_int.Goals as goal

pub returns : goal.returns
unfolding pulls asks
returns c = grind (arith, highest_of_four)
