-- What the operations on a set of ranks 0 to 15 make of its ranks.
use Rattle.std.proofs.Common.{◌≡◌, ℕ, ◌-◌, ◌^◌, ◌<◌, ◌≤◌, Bool, true, false, cond, not, ◌&&◌, eqb, ltb, Some, None, is_some, refl, w16, mod-eq_of_lt, arith}
use mathlib.Core.Bool.{and_assoc}
use mathlib.Core.Path.{fun_ext}
use lib.Count.{count_leading_zeros, ones, leading_of_zero, leading_le}
use Rattle.std.proofs.lemmas.Bool.Decides.{nat_tests}
use Rattle.std.proofs.lemmas.Nat.{pow_below}
use Rattle.std.proofs.lemmas.Nat.Bits.{bit_at_and, bit_at_or, bit_at-zero, bit_at-pow_same, bit_at-pow_other, bit_at_not, bit_at-lt, bit_at_above, bit_at_ones, bit_at_ones_above}
use Rattle.ranks.specs.declared.set.RankSet.{RankSet}
use Rattle.ranks.specs.Ranks.{empty, adding, removing, both, below, bit, highest, how_many, above}
use Rattle.ranks.specs.RankSets.{ranks, no_ranks, mask_of, inserted, removed, intersected}
use Rattle.ranks.proofs.Digits.{highest_bit, how_many_bits}
use borrow.Author.Numbers.{leading_lt}

mask_bit : (r k : ℕ) → k < 16 → bit (mask_of r) k ≡ eqb k r
unfolding bit
mask_bit r k h = grind (arith, nat_tests, bit_at-zero, bit_at-pow_same, bit_at-pow_other)

pub ranks_none : ranks no_ranks ≡ empty
unfolding below empty bit
ranks_none = fun_ext (λ k. grind (arith, nat_tests, bit_at-zero))

pub ranks_inserted : (r : ℕ) (s : RankSet) → ranks (inserted r s) ≡ below 16 (adding r (ranks s))
unfolding below adding bit
ranks_inserted r s = fun_ext (λ k. grind (arith, nat_tests, bit_at_or, bit_at-lt, mask_bit))

pub ranks_removed : (r : ℕ) (s : RankSet) → ranks (removed r s) ≡ removing r (ranks s)
unfolding below removing bit
ranks_removed r s =
    fun_ext (λ k. grind (arith, nat_tests, bit_at_and, bit_at-lt s.bits, bit_at_not w16 (mask_of r) k, pow_below r 16, mask_bit r k))

pub ranks_intersected : (s t : RankSet) (k : ℕ) → ranks (intersected s t) k ≡ (ranks s k && ranks t k)
unfolding below bit
ranks_intersected s t k = grind (arith, nat_tests, bit_at_and, bit_at-lt)

pub ranks_both : (s t : RankSet) → ranks (intersected s t) ≡ both (ranks s) (ranks t)
unfolding both
ranks_both s t = fun_ext (ranks_intersected s t)

-- a rank leaves what two sets share where it leaves the first, and enters it there if it is in the second
pub removed_from_both : (r : ℕ) (s t : RankSet) → ranks (intersected (removed r s) t) ≡ removing r (ranks (intersected s t))
unfolding both removing
removed_from_both r s t = simp (ranks_both, ranks_removed) (fun_ext (λ k. and_assoc (not (eqb k r)) (ranks s k) (ranks t k)))

pub inserted_in_both : (r : ℕ) (s t : RankSet) → r < 16 → ranks t r ≡ true → ranks (intersected (inserted r s) t) ≡ adding r (ranks (intersected s t))
unfolding both adding below
inserted_in_both r s t h e = simp (ranks_both, ranks_inserted) (fun_ext (λ k. grind (arith, nat_tests)))

-- the ranks below n, for n up to 16
pub ranks_lowest : (n k : ℕ) → n ≤ 16 → ranks (record { bits = 2 ^ n - 1 }) k ≡ ltb k n
unfolding below bit
ranks_lowest n k h = grind (arith, nat_tests, bit_at_ones, bit_at_ones_above)

-- what is found in the bits of a number below 2 ^ 16
all_bits : (a : ℕ) → a < 65536 → below 16 (bit a) ≡ bit a
unfolding below bit
all_bits a h = fun_ext (λ k. grind (arith, nat_tests, bit_at_above a 16))

none_found : highest 16 (bit 0) ≡ None
unfolding highest bit
none_found = refl

pub top_found : (a : ℕ) → a < 65536 → cond (eqb a 0) None (Some (15 - count_leading_zeros 16 a)) ≡ highest 16 (below 16 (bit a))
top_found a h = rw (all_bits a h) (grind (arith, nat_tests, none_found, highest_bit))

pub empty_tested : (a : ℕ) → a < 65536 → eqb a 0 ≡ not (is_some (highest 16 (below 16 (bit a))))
empty_tested a h = rw (← top_found a h) (grind (arith, nat_tests))

-- a set that is not empty has its highest rank below its leading zeros
module _ (a : ℕ) (h : a < 65536) (some : not (is_some (highest 16 (below 16 (bit a)))) ≡ false) where
  pub leading_few : count_leading_zeros 16 a ≤ 15
  leading_few = grind (arith, nat_tests, empty_tested a, leading_lt 16 a)

  pub leading_found : Some (15 - count_leading_zeros 16 a) ≡ highest 16 (below 16 (bit a))
  leading_found = grind (arith, nat_tests, empty_tested a, top_found a)

pub outranking_tested : (a b : ℕ) → a < 65536 → b < 65536 → ltb (count_leading_zeros 16 a) (count_leading_zeros 16 b) ≡ above (highest 16 (below 16 (bit a))) (highest 16 (below 16 (bit b)))
unfolding above
outranking_tested a b h g = rw (← top_found a h, ← top_found b g) (grind (arith, nat_tests, leading_of_zero, leading_lt, leading_le))

pub outranking_found : (a b : ℕ) (r : Bool) → a < 65536 → b < 65536 → r ≡ ltb (count_leading_zeros 16 a) (count_leading_zeros 16 b)
    → r ≡ above (highest 16 (below 16 (bit a))) (highest 16 (below 16 (bit b)))
outranking_found a b r h g e = rw e (outranking_tested a b h g)

pub all_counted : (a : ℕ) → a < 65536 → ones a ≡ how_many 16 (below 16 (bit a))
all_counted a h = rw (all_bits a h, how_many_bits 16 a, mod-eq_of_lt h)
