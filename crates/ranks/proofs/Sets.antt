-- Laws of sets of ranks.
use Rattle.std.proofs.Common.{◌≡◌, ℕ, zero, suc, ◌+◌, ◌<◌, ◌≤◌, Bool, true, false, [], ◌∷◌, length, map, Some, None, sym, refl, ap, ◌∙◌, suc-add, zero-add, arith}
use Rattle.std.proofs.lemmas.Bool.Decides.{nat_tests}
use Rattle.ranks.specs.Ranks.{removing, highest, how_many, from_the_top}

pub highest_none : (n : ℕ) (p : ℕ → Bool) → ((k : ℕ) → k < n → p k ≡ false) → highest n p ≡ None
unfolding highest
highest_none zero p h = refl
highest_none (suc n) p h = grind (arith, highest_none n p)

pub highest_is : (n : ℕ) (p : ℕ → Bool) (r : ℕ) → r < n → p r ≡ true → ((k : ℕ) → k < n → r < k → p k ≡ false) → highest n p ≡ Some r
unfolding highest
highest_is zero p r l e h = absurd (omega arith)
highest_is (suc n) p r l e h = grind (arith, highest_is n p r)

-- a rank that is found is in the set, and below n
pub highest_in : (n : ℕ) (p : ℕ → Bool) (r : ℕ) → Some r ≡ highest n p → (r < n) × (p r ≡ true)
unfolding highest
highest_in zero p r e = cc
highest_in (suc n) p r e = grind (arith, highest_in n p r)

-- two sets that agree below n
pub highest_agrees : (n : ℕ) (p q : ℕ → Bool) → ((k : ℕ) → k < n → p k ≡ q k) → highest n p ≡ highest n q
unfolding highest
highest_agrees zero p q h = refl
highest_agrees (suc n) p q h = grind (arith, highest_agrees n p q)

from_the_top_agrees : (n : ℕ) (p q : ℕ → Bool) (v : ℕ → ℕ) → ((k : ℕ) → k < n → p k ≡ q k) → from_the_top n p v ≡ from_the_top n q v
unfolding from_the_top
from_the_top_agrees zero p q v h = refl
from_the_top_agrees (suc n) p q v h = grind (arith, from_the_top_agrees n p q v)

-- a set that ends below n
module _ (p : ℕ → Bool) (n : ℕ) (ends : (k : ℕ) → n ≤ k → p k ≡ false) where
  pub highest_wider : (d : ℕ) → highest (d + n) p ≡ highest n p
  unfolding highest
  highest_wider zero = rw (zero-add n)
  highest_wider (suc d) = rw (suc-add d n, ends (d + n) (omega arith)) (highest_wider d)

  pub from_the_top_wider : (v : ℕ → ℕ) (d : ℕ) → from_the_top (d + n) p v ≡ from_the_top n p v
  unfolding from_the_top
  from_the_top_wider v zero = rw (zero-add n)
  from_the_top_wider v (suc d) = rw (suc-add d n, ends (d + n) (omega arith)) (from_the_top_wider v d)

-- the count is the length of the list
pub from_the_top_length : (n : ℕ) (p : ℕ → Bool) (v : ℕ → ℕ) → length (from_the_top n p v) ≡ how_many n p
unfolding from_the_top how_many
from_the_top_length zero p v = refl
from_the_top_length (suc n) p v = grind (arith, from_the_top_length n p v)

pub from_the_top_none : (n : ℕ) (p : ℕ → Bool) (v : ℕ → ℕ) → None ≡ highest n p → from_the_top n p v ≡ []
unfolding from_the_top highest
from_the_top_none zero p v e = refl
from_the_top_none (suc n) p v e = grind (arith, from_the_top_none n p v)

-- the highest comes first, and then the set without it
pub from_the_top_first : (n : ℕ) (p : ℕ → Bool) (v : ℕ → ℕ) (r : ℕ) → Some r ≡ highest n p → from_the_top n p v ≡ v r ∷ from_the_top n (removing r p) v
unfolding from_the_top highest removing
from_the_top_first zero p v r e = cc
from_the_top_first (suc n) p v r e = grind (arith, nat_tests, from_the_top_first n p v r, from_the_top_agrees n (removing n p) p v)

-- the list of v's values is v of the list of ranks
pub map_from_the_top : (n : ℕ) (p : ℕ → Bool) (v : ℕ → ℕ) → map v (from_the_top n p (λ rank. rank)) ≡ from_the_top n p v
unfolding from_the_top
map_from_the_top zero p v = refl
map_from_the_top (suc n) p v = grind (arith, map_from_the_top n p v)

-- the count, by that list
pub how_many_agrees : (n : ℕ) (p q : ℕ → Bool) → ((k : ℕ) → k < n → p k ≡ q k) → how_many n p ≡ how_many n q
how_many_agrees n p q h = sym (from_the_top_length n p (λ k. k)) ∙ ap length (from_the_top_agrees n p q (λ k. k) h) ∙ from_the_top_length n q (λ k. k)

pub how_many_wider : (p : ℕ → Bool) (n : ℕ) → ((k : ℕ) → n ≤ k → p k ≡ false) → (d : ℕ) → how_many (d + n) p ≡ how_many n p
how_many_wider p n ends d = sym (from_the_top_length (d + n) p (λ k. k)) ∙ ap length (from_the_top_wider p n ends (λ k. k) d) ∙ from_the_top_length n p (λ k. k)

pub one_fewer : (n : ℕ) (p : ℕ → Bool) (r : ℕ) → Some r ≡ highest n p → how_many n p ≡ suc (how_many n (removing r p))
one_fewer n p r e = sym (from_the_top_length n p (λ k. k)) ∙ ap length (from_the_top_first n p (λ k. k) r e) ∙ ap suc (from_the_top_length n (removing r p) (λ k. k))
