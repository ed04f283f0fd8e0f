use Rattle.std.proofs.Common.{arith}
use Rattle.card.specs.Meaning.{ieo_of, quiet, waits, serves}
use Rattle.ctc.specs.FourRanks.{highest_of_four}
use Rattle.ctc.proofs.chain.CtcChain.ieo.Goals as goal

pub returns : goal.returns
unfolding ieo_of quiet waits serves
returns c = grind (arith, highest_of_four)
