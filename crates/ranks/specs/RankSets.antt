-- What the operations on a set of ranks 0 to 15 make of its bits.
use Rattle.std.specs.Prelude.{ℕ, ◌-◌, ◌^◌, Bool, cond, bit_and, bit_or, nat_lt}
use Rattle.ranks.specs.declared.set.RankSet.{RankSet}
use Rattle.ranks.specs.Ranks.{bit, below}

-- the ranks of a set
abbrev pub ranks : RankSet → ℕ → Bool
ranks s = below 16 (bit s.bits)

-- the set of the ranks whose bits a number has
abbrev pub set_of : ℕ → RankSet
set_of b = record { bits = b }

abbrev pub no_ranks : RankSet
no_ranks = record { bits = 0 }

-- the bit of a rank, and none above 15
abbrev pub mask_of : ℕ → ℕ
mask_of r = cond (nat_lt r 16) (2 ^ r) 0

abbrev pub inserted : ℕ → RankSet → RankSet
inserted r s = record { bits = bit_or s.bits (mask_of r) }

abbrev pub removed : ℕ → RankSet → RankSet
removed r s = record { bits = bit_and s.bits (65535 - mask_of r) }

abbrev pub intersected : RankSet → RankSet → RankSet
intersected s t = record { bits = bit_and s.bits t.bits }
