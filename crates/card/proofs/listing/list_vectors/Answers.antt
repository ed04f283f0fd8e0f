use Rattle.std.proofs.Common.{arith}
use Rattle.std.proofs.lemmas.Bool.Decides.{nat_tests}
use Rattle.ranks.proofs.Sets.{from_the_top_length}
use Rattle.ranks.proofs.RankLists.{rank_list_length, map_rank_list}
use Rattle.card.proofs.listing.list_vectors.Goals as goal

pub returns-in_err-count-clause-bytes : goal.returns-in_err-count-clause-bytes
returns-in_err-count-clause-bytes g c = grind (arith, nat_tests, from_the_top_length)

pub put_vectors-requires : goal.put_vectors-requires
put_vectors-requires g c = grind (arith, nat_tests, rank_list_length)

pub returns-clause-bytes : goal.returns-clause-bytes
returns-clause-bytes g c = grind (arith, nat_tests, from_the_top_length, rank_list_length, map_rank_list)
