-- What bytes begin with, as a slice pattern takes them apart, how many calls they hold, and what their chunks of three say.
use Rattle.std.proofs.Common.{◌≡◌, ℕ, ◌+◌, ◌-◌, ◌*◌, ◌/◌, ◌%◌, ◌<◌, ◌≤◌, Bool, true, ◌&&◌, ◌==◌, zero, suc, List, [], ◌∷◌, ◌++◌, length, get_or, take, drop, is_ok, Some, None, Ok, Err, Result, refl, ap, ◌∙◌, arith}
use Rattle.std.proofs.Math.Bool.{and_assoc, and_comm}
use Rattle.std.specs.List.{list_all}
use Rattle.std.specs.Result.{result_ok}
use Rattle.std.specs.Simd.{first_chunks}
use Rattle.std.proofs.lemmas.Bool.Decides.{nat_tests}
use Rattle.std.proofs.lemmas.List.{take_rest}
use Rattle.session_format.specs.declared.encoding.Call.{Call}
use Rattle.session_format.specs.declared.refusals.FormatRefusal.{FormatRefusal}
use Rattle.session_format.specs.Encoding.{call_of, call_of_bytes}
use Rattle.session_format.specs.Splits.{Begins, BeginsNone}
use Rattle.session_format.specs.Reading.{well_formed, calls_in, followed_by}

-- the bytes after the first n, as a slice pattern's rest has them
abbrev pub after : ℕ → List ℕ → List ℕ
after n bytes = take (length bytes - n) (drop n bytes)

pub begins_with : (bytes rest : List ℕ) (call : Call) → call_of_bytes bytes ≡ Ok call → Begins (bytes ++ rest) call rest
unfolding well_formed calls_in
begins_with (letter ∷ first ∷ second ∷ []) rest call e = record {
  calls = ap (λ r. followed_by r (calls_in rest)) e;
  formed = ap (λ r. is_ok r && well_formed rest) e;
  follows = refl;
  shorter = omega arith;
}
begins_with [] rest call e = cc
begins_with (letter ∷ []) rest call e = cc
begins_with (letter ∷ first ∷ []) rest call e = cc
begins_with (letter ∷ first ∷ second ∷ third ∷ more) rest call e = cc

-- what the first three bytes say
abbrev pub first_call : List ℕ → Result Call FormatRefusal
first_call bytes = call_of (get_or bytes 0 0) (get_or bytes 1 0) (get_or bytes 2 0)

pub begins_at : (bytes : List ℕ) (r : Result Call FormatRefusal) (call : Call) → 3 ≤ length bytes → r ≡ first_call bytes → result_ok r ≡ Some call
    → Begins bytes call (after 3 bytes)
begins_at (letter ∷ first ∷ second ∷ rest) (Ok it) call long e some =
    rw take_rest (begins_with (letter ∷ first ∷ second ∷ []) rest call (cc))
begins_at (letter ∷ first ∷ second ∷ rest) (Err why) call long e some = cc
begins_at _ r call long e some = absurd (omega arith)

pub begins_malformed : (bytes : List ℕ) (r : Result Call FormatRefusal) → 3 ≤ length bytes → r ≡ first_call bytes → result_ok r ≡ None
    → BeginsNone bytes
unfolding well_formed calls_in
begins_malformed (letter ∷ first ∷ second ∷ rest) (Ok call) long e none = cc
begins_malformed (letter ∷ first ∷ second ∷ rest) (Err why) long e none = record { calls = grind (arith, nat_tests); formed = grind (arith, nat_tests) }
begins_malformed _ r long e none = absurd (omega arith)

pub begins_short : (bytes : List ℕ) → length bytes < 3 → BeginsNone bytes
unfolding well_formed calls_in
begins_short [] short = record { calls = refl; formed = refl }
begins_short (letter ∷ []) short = record { calls = refl; formed = refl }
begins_short (letter ∷ first ∷ []) short = record { calls = refl; formed = refl }
begins_short _ short = absurd (omega arith)

length_more : (r : Result Call FormatRefusal) (rest : List ℕ) → (is_ok r && well_formed rest) ≡ true
    → (well_formed rest ≡ true → 3 * length (calls_in rest) ≡ length rest) → 3 * length (followed_by r (calls_in rest)) ≡ 3 + length rest
length_more (Ok call) rest formed more = omega (arith, more formed)
length_more (Err why) rest formed more = cc

-- well-formed bytes hold a call in every three
pub length_formed : (bytes : List ℕ) → well_formed bytes ≡ true → 3 * length (calls_in bytes) ≡ length bytes
unfolding well_formed calls_in
length_formed [] formed = refl
length_formed (letter ∷ []) formed = cc
length_formed (letter ∷ first ∷ []) formed = cc
length_formed (letter ∷ first ∷ second ∷ rest) formed = length_more (call_of letter first second) rest formed (length_formed rest) ∙ omega arith

-- bytes are well formed if the slice of all of them is
pub formed_whole : (bytes : List ℕ) → well_formed (after 0 bytes) ≡ true → well_formed bytes ≡ true
formed_whole bytes h = grind (arith, take_rest bytes 0, h)

-- whether these are the three bytes of a call
abbrev pub is_call : List ℕ → Bool
is_call bytes = is_ok (call_of_bytes bytes)

formed_in_chunks : (n left : ℕ) (bytes : List ℕ) → length bytes ≡ n * 3 + left → left < 3
    → (list_all is_call (first_chunks 3 n bytes) && left == 0) ≡ well_formed bytes
unfolding well_formed
formed_in_chunks zero left [] e few = grind (arith, nat_tests)
formed_in_chunks zero left (letter ∷ []) e few = grind (arith, nat_tests)
formed_in_chunks zero left (letter ∷ first ∷ []) e few = grind (arith, nat_tests)
formed_in_chunks (suc n) left (letter ∷ first ∷ second ∷ rest) e few =
    let one = is_ok (call_of letter first second) in
    and_assoc one _ _ ∙ ap (λ b. one && b) (formed_in_chunks n left rest (omega arith) few)
formed_in_chunks _ _ _ e few = absurd (omega arith)

-- Bytes are well formed if no byte is left after their chunks of three and each chunk is a call.
pub formed_by_chunks : (none : Bool) (bytes left : List ℕ) (chunks : List (List ℕ)) → none ≡ (length left == 0)
    → chunks ≡ first_chunks 3 (length bytes / 3) bytes → length left ≡ length bytes % 3 → (none && list_all is_call chunks) ≡ well_formed bytes
formed_by_chunks none bytes left chunks empty front back =
    and_comm none (list_all is_call chunks) ∙ rw (empty, front) (formed_in_chunks (length bytes / 3) (length left) bytes (omega arith) (omega arith))
