-- Writing what was read gives the bytes, and what was read can be written.
use Rattle.std.proofs.Common.{◌≡◌, ℕ, suc, ◌+◌, ◌*◌, ◌/◌, ◌%◌, ◌<◌, true, ◌&&◌, List, [], ◌∷◌, length, get_or, All, is_ok, IfOk, Ok, Err, Result, sym, refl, ap, ◌∙◌, arith, w8, Fits}
use Rattle.std.proofs.lemmas.Bool.Decides.{nat_tests}
use Rattle.std.proofs.lemmas.List.Elements.{All-nil, All-cons}
use Rattle.session_format.proofs.Shapes.{length_formed}
use Rattle.session_format.specs.Encoding.{call_of, call_bytes}
use Rattle.session_format.specs.Laws.{HoldsCall, Holdable, WritesWhatWasRead}
use Rattle.session_format.specs.Reading.{counted, well_formed, calls_in, followed_by}
use Rattle.session_format.specs.Views.{calls_left}
use Rattle.session_format.specs.Writing.{bytes_of_calls}
use Rattle.session_format.specs.declared.encoding.Call.{Call}
use Rattle.session_format.specs.declared.refusals.FormatRefusal.{FormatRefusal}
use Rattle.session_format.specs.declared.view.Calls.{Calls}

-- what the type of a slice of bytes says of it
abbrev AreBytes : List ℕ → Type 0
AreBytes bytes = (i : ℕ) → Fits w8 (get_or bytes i 0)

-- ---- one call

writes_call : (letter first second : ℕ) → second < 256 → IfOk (call_of letter first second) (λ call. call_bytes call ≡ letter ∷ first ∷ second ∷ [])
writes_call letter first second small = grind (arith, nat_tests)

holds_call : (letter first second : ℕ) → IfOk (call_of letter first second) HoldsCall
holds_call letter first second = grind (arith, nat_tests)

-- ---- the calls

writes_more : (letter first second : ℕ) (rest : List ℕ) (r : Result Call FormatRefusal)
    → IfOk r (λ call. call_bytes call ≡ letter ∷ first ∷ second ∷ []) → (is_ok r && well_formed rest) ≡ true
    → (well_formed rest ≡ true → bytes_of_calls (calls_in rest) ≡ rest)
    → bytes_of_calls (followed_by r (calls_in rest)) ≡ letter ∷ first ∷ second ∷ rest
writes_more letter first second rest (Ok call) one formed more = let others = more formed in cc
writes_more letter first second rest (Err why) one formed more = cc

writes_calls : (bytes : List ℕ) → AreBytes bytes → well_formed bytes ≡ true → bytes_of_calls (calls_in bytes) ≡ bytes
unfolding well_formed calls_in
writes_calls [] typed formed = refl
writes_calls (letter ∷ []) typed formed = cc
writes_calls (letter ∷ first ∷ []) typed formed = cc
writes_calls (letter ∷ first ∷ second ∷ rest) typed formed =
    writes_more letter first second rest (call_of letter first second) (writes_call letter first second (typed 2).fits) formed
    (writes_calls rest (λ i. typed (suc (suc (suc i)))))

holds_more : (r : Result Call FormatRefusal) (calls : List Call) → IfOk r HoldsCall → All HoldsCall calls → All HoldsCall (followed_by r calls)
holds_more (Ok call) calls one others = All-cons HoldsCall call calls one others
holds_more (Err why) calls one others = All-nil HoldsCall

holds_calls : (bytes : List ℕ) → All HoldsCall (calls_in bytes)
unfolding calls_in
holds_calls [] = All-nil HoldsCall
holds_calls (letter ∷ []) = All-nil HoldsCall
holds_calls (letter ∷ first ∷ []) = All-nil HoldsCall
holds_calls (letter ∷ first ∷ second ∷ rest) = holds_more (call_of letter first second) (calls_in rest) (holds_call letter first second) (holds_calls rest)

-- ---- the session

-- what a count and bytes are that are read as these calls
record Accepted (count : ℕ) (bytes : List ℕ) (calls : List Call) : Type 0 where
  long : length bytes ≡ 3 * count
  formed : well_formed bytes ≡ true
  read : calls_in bytes ≡ calls

accepted : (count : ℕ) (bytes : List ℕ) (calls : List Call) → counted count bytes ≡ Ok calls → Accepted count bytes calls
accepted count bytes calls e = grind (arith, nat_tests)

pub writes_what_was_read : (bytes : List ℕ) → AreBytes bytes → WritesWhatWasRead bytes
writes_what_was_read [] typed calls e = cc
writes_what_was_read (low ∷ []) typed calls e = cc
writes_what_was_read (low ∷ high ∷ bytes) typed calls e =
    let a : Accepted (low + 256 * high) bytes calls = accepted (low + 256 * high) bytes calls e in
    let count : length calls ≡ low + 256 * high = omega (arith, length_formed bytes a.formed, ap length a.read, a.long) in
    let lower : length calls % 256 ≡ low = omega (arith, (typed 0).fits) in
    let upper : length calls / 256 ≡ high = omega (arith, (typed 0).fits) in
    let all : bytes_of_calls calls ≡ bytes = ap bytes_of_calls (sym a.read) ∙ writes_calls bytes (λ i. typed (suc (suc i))) a.formed in
    λ i. lower i ∷ upper i ∷ all i

pub holdable_answer : (r : Result Calls FormatRefusal) → IfOk r (λ view. Holdable (calls_left view))
holdable_answer (Ok view) = record { few = view.few; each = holds_calls view.bytes.now }
holdable_answer (Err why) = tt
