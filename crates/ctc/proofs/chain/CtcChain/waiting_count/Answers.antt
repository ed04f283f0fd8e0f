use Rattle.std.proofs.Common.{arith}
use Rattle.ctc.specs.FourRanks.{how_many_of_four}
use Rattle.ctc.proofs.chain.CtcChain.waiting_count.Goals as goal

pub returns : goal.returns
returns c = grind (arith, how_many_of_four)
