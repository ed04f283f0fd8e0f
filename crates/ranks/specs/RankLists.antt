-- The ranks of a set as a list.
use Rattle.std.specs.Prelude.{ℕ, List}
use Rattle.ranks.specs.declared.set.RankSet.{RankSet}
use Rattle.ranks.specs.declared.from_the_top.FromTheTop.{FromTheTop}
use Rattle.ranks.specs.Ranks.{from_the_top}
use Rattle.ranks.specs.RankSets.{ranks}

-- the ranks of a set, the highest first
unfoldable pub rank_list : RankSet → List ℕ
rank_list s = from_the_top 16 (ranks s) (λ rank. rank)

-- all ranks of a set are still to come
abbrev pub all_to_come : RankSet → FromTheTop
all_to_come s = record { left = s }

-- the ranks that are still to come
abbrev pub ranks_left : FromTheTop → List ℕ
ranks_left it = rank_list it.left
