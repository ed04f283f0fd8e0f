-- A set of ranks 0 to 15 that is cut to the four ranks of a CTC.
use Rattle.std.specs.Prelude.{◌≡◌, ℕ, ◌<◌, Bool, true, nat_lt}
use Rattle.std.proofs.Common.{arith}
use Rattle.std.proofs.lemmas.Bool.Decides.{nat_tests}
use Rattle.ranks.specs.declared.set.RankSet.{RankSet}
use Rattle.ranks.specs.Ranks.{highest, how_many, from_the_top}
use Rattle.ranks.specs.RankSets.{ranks, intersected}
use Rattle.ranks.proofs.RankSets.{ranks_intersected, ranks_lowest}
use Rattle.ctc.specs.Chip.{four_ranks}

-- the ranks that a CTC has
pub four : (k : ℕ) → ranks four_ranks k ≡ nat_lt k 4
four k = ranks_lowest 4 k (omega arith)

-- what is left of a set when it is cut to these
module _ (s : RankSet) where
  abbrev cut : ℕ → Bool
  cut = ranks (intersected s four_ranks)

  pub below_four : (k : ℕ) → cut k ≡ true → k < 4
  below_four k h = grind (arith, nat_tests, ranks_intersected s four_ranks k, four k)

  pub highest_of_four : highest 16 cut ≡ highest 4 cut
  unfolding highest
  highest_of_four = grind (arith, below_four)

  pub how_many_of_four : how_many 16 cut ≡ how_many 4 cut
  unfolding how_many
  how_many_of_four = grind (arith, below_four)

  pub from_the_top_of_four : (v : ℕ → ℕ) → from_the_top 16 cut v ≡ from_the_top 4 cut v
  unfolding from_the_top
  from_the_top_of_four v = grind (arith, below_four)
