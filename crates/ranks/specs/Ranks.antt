-- Sets of ranks, each by the test for its members.
use Rattle.std.specs.Prelude.{ℕ, zero, suc, ◌+◌, ◌/◌, ◌%◌, ◌^◌, Bool, true, false, cond, not, ◌&&◌, ◌||◌, List, [], ◌∷◌, Some, None, Option, ◌==◌, nat_lt}

-- no rank
unfoldable pub empty : ℕ → Bool
empty k = false

unfoldable pub adding : ℕ → (ℕ → Bool) → ℕ → Bool
adding r p k = k == r || p k

unfoldable pub removing : ℕ → (ℕ → Bool) → ℕ → Bool
removing r p k = not (k == r) && p k

-- those that two sets share
unfoldable pub both : (ℕ → Bool) → (ℕ → Bool) → ℕ → Bool
both p q k = p k && q k

-- those of a set that are below n
unfoldable pub below : ℕ → (ℕ → Bool) → ℕ → Bool
below n p k = nat_lt k n && p k

-- the highest rank of a set, of those below n
unfoldable pub highest : ℕ → (ℕ → Bool) → Option ℕ
highest zero p = None
highest (suc n) p = cond (p n) (Some n) (highest n p)

-- how many ranks below n a set has
unfoldable pub how_many : ℕ → (ℕ → Bool) → ℕ
how_many zero p = 0
how_many (suc n) p = cond (p n) 1 0 + how_many n p

-- what v gives for each rank below n of a set, the highest rank's first
unfoldable pub from_the_top : ℕ → (ℕ → Bool) → (ℕ → ℕ) → List ℕ
from_the_top zero p v = []
from_the_top (suc n) p v = cond (p n) (v n ∷ from_the_top n p v) (from_the_top n p v)

-- whether the first rank is there, and above the second where that is there
unfoldable pub above : Option ℕ → Option ℕ → Bool
above None o = false
above (Some r) None = true
above (Some r) (Some s) = nat_lt s r

-- bit k of a number, and so the set of its bits
unfoldable pub bit : ℕ → ℕ → Bool
bit a k = a / 2 ^ k % 2 == 1
