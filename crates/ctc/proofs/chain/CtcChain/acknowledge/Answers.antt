use Rattle.std.proofs.Common.{arith}
use Rattle.card.specs.Meaning.{rank_acknowledged, vector_answered, vector_of, pulls, asks}
use Rattle.ctc.specs.FourRanks.{highest_of_four}
use Rattle.ctc.proofs.chain.CtcChain.acknowledge.Goals as goal

pub returns-in_err-rank : goal.returns-in_err-rank
unfolding rank_acknowledged vector_answered vector_of pulls asks
returns-in_err-rank c = grind (arith, highest_of_four)

pub returns : goal.returns
unfolding rank_acknowledged vector_answered vector_of pulls asks
returns c = grind (arith, highest_of_four)
