-- The waiting list: vectors put into a caller's buffer.
use Rattle.std.specs.Prelude.{◌≡◌, ℕ, ◌+◌, min, cond, List, [], ◌∷◌, ◌++◌, length, drop, Ok, Err, Result, ◌==◌, nat_lt}
use Rattle.card.specs.declared.refusals.Refusal.{Refusal}
use Rattle.card.specs.declared.refusals.Refusal.TheVariants.{TooFewPlaces}

-- the places of a buffer
abbrev pub places_of : List ℕ → ℕ
places_of buffer = min (length buffer) 4096

-- a list of n bytes is refused exactly when n exceeds the places
abbrev pub list_answer : ℕ → List ℕ → Result ℕ Refusal
list_answer n buffer = cond (nat_lt (places_of buffer) n) (Err TooFewPlaces) (Ok n)

-- accepted, it stands at the front of the buffer, and no byte beyond is touched
abbrev pub listed_into : List ℕ → List ℕ → List ℕ
listed_into bytes buffer = cond (nat_lt (places_of buffer) (length bytes)) buffer (bytes ++ drop (length bytes) buffer)

-- how often a byte stands in a list
unfoldable pub occurs : ℕ → List ℕ → ℕ
occurs v [] = 0
occurs v (x ∷ xs) = cond (x == v) 1 0 + occurs v xs

-- the same bytes, each as often, in any order
abbrev pub SameBytes : List ℕ → List ℕ → Type 0
SameBytes xs ys = (v : ℕ) → occurs v xs ≡ occurs v ys
