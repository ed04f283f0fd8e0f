-- The front of bytes that are longer than any session tells what the whole tells.
use Rattle.std.proofs.Common.{◌≡◌, ℕ, ◌+◌, ◌*◌, ◌≤◌, ltb, cond, List, [], ◌∷◌, length, take, Err, inl, inr, sym, refl, ap, ◌∙◌, arith, length-take}
use Rattle.std.proofs.lemmas.Bool.{cases_lt}
use Rattle.std.proofs.lemmas.Bool.Decides.{nat_tests}
use Rattle.std.proofs.lemmas.List.{take_all}
use Rattle.session_format.specs.Reading.{most_calls, counted}
use Rattle.session_format.specs.Laws.{FrontDecides}
use Rattle.session_format.specs.declared.refusals.FormatRefusal.TheVariants.{TooManyCalls, BytesLeftOver}

left_over : (count : ℕ) (bytes : List ℕ) → 12289 ≤ length bytes → counted count bytes ≡ cond (ltb most_calls count) (Err TooManyCalls) (Err BytesLeftOver)
left_over count bytes long = grind (arith, nat_tests)

counted_front : (count : ℕ) (bytes : List ℕ) → counted count (take 12289 bytes) ≡ counted count bytes
counted_front count bytes = elim (cases_lt (length bytes) 12289) [
  | inl short ↦ ap (counted count) (take_all 12289 bytes (omega arith))
  | inr long ↦ left_over count (take 12289 bytes) (simp length-take (omega arith)) ∙ sym (left_over count bytes long)
]

pub front_decides : (bytes : List ℕ) → FrontDecides bytes
front_decides [] = refl
front_decides (low ∷ []) = refl
front_decides (low ∷ high ∷ bytes) = counted_front (low + 256 * high) bytes
