-- Laws of the list of a set's ranks.
use Rattle.std.proofs.Common.{◌≡◌, ℕ, [], ◌∷◌, length, map, Some, None}
use Rattle.ranks.specs.declared.set.RankSet.{RankSet}
use Rattle.ranks.specs.Ranks.{removing, highest, how_many, from_the_top}
use Rattle.ranks.specs.RankSets.{ranks}
use Rattle.ranks.specs.RankLists.{rank_list}
use Rattle.ranks.proofs.Sets.{from_the_top_none, from_the_top_first, from_the_top_length, map_from_the_top}

pub rank_list_none : (s : RankSet) → None ≡ highest 16 (ranks s) → rank_list s ≡ []
unfolding rank_list
rank_list_none s e = from_the_top_none 16 (ranks s) (λ rank. rank) e

pub rank_list_first : (s t : RankSet) (r : ℕ) → Some r ≡ highest 16 (ranks s) → ranks t ≡ removing r (ranks s) → rank_list s ≡ r ∷ rank_list t
unfolding rank_list
rank_list_first s t r e gone = rw gone (from_the_top_first 16 (ranks s) (λ rank. rank) r e)

pub rank_list_length : (s : RankSet) → length (rank_list s) ≡ how_many 16 (ranks s)
unfolding rank_list
rank_list_length s = from_the_top_length 16 (ranks s) (λ rank. rank)

pub map_rank_list : (v : ℕ → ℕ) (s : RankSet) → map v (rank_list s) ≡ from_the_top 16 (ranks s) v
unfolding rank_list
map_rank_list v s = map_from_the_top 16 (ranks s) v
