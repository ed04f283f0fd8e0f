-- Reading what was written gives the calls.
use Rattle.std.proofs.Common.{◌≡◌, ℕ, ◌*◌, ◌≤◌, true, List, [], ◌∷◌, ◌++◌, length, All, Ok, refl, ap, ◌∙◌, arith, length-append}
use Rattle.std.proofs.lemmas.Bool.Decides.{nat_tests}
use Rattle.std.proofs.lemmas.List.Elements.{All-head, All-tail}
use Rattle.session_format.proofs.Shapes.{begins_with}
use Rattle.session_format.specs.Encoding.{call_of_bytes, call_bytes}
use Rattle.session_format.specs.Laws.{HoldsCall, ReadsWhatIsWritten}
use Rattle.session_format.specs.Reading.{most_calls, counted, well_formed, calls_in}
use Rattle.session_format.specs.Splits.{Begins}
use Rattle.session_format.specs.Writing.{bytes_of_calls}
use Rattle.session_format.specs.declared.encoding.Call.{Call}

call_back : (call : Call) → HoldsCall call → call_of_bytes (call_bytes call) ≡ Ok call
call_back call holds = grind (arith, nat_tests)

begins_back : (call : Call) (rest : List ℕ) → HoldsCall call → Begins (call_bytes call ++ rest) call rest
begins_back call rest holds = begins_with (call_bytes call) rest call (call_back call holds)

formed_back : (calls : List Call) → All HoldsCall calls → well_formed (bytes_of_calls calls) ≡ true
unfolding well_formed
formed_back [] h = refl
formed_back (call ∷ calls) h = (begins_back call (bytes_of_calls calls) (All-head HoldsCall call calls h)).formed ∙ formed_back calls (All-tail HoldsCall call calls h)

calls_back : (calls : List Call) → All HoldsCall calls → calls_in (bytes_of_calls calls) ≡ calls
unfolding calls_in
calls_back [] h = refl
calls_back (call ∷ calls) h = (begins_back call (bytes_of_calls calls) (All-head HoldsCall call calls h)).calls ∙ ap (λ l. call ∷ l) (calls_back calls (All-tail HoldsCall call calls h))

length_call : (call : Call) → length (call_bytes call) ≡ 3
length_call call = grind arith

pub length_calls : (calls : List Call) → length (bytes_of_calls calls) ≡ 3 * length calls
length_calls [] = refl
length_calls (call ∷ calls) = simp length-append (omega (arith, length_call call, length_calls calls))

counted_back : (count : ℕ) (bytes : List ℕ) → count ≤ most_calls → length bytes ≡ 3 * count → well_formed bytes ≡ true
    → counted count bytes ≡ Ok (calls_in bytes)
counted_back count bytes few long formed = grind (arith, nat_tests)

pub reads_what_is_written : ReadsWhatIsWritten
reads_what_is_written calls h =
    ap (λ n. counted n (bytes_of_calls calls)) (omega arith)
    ∙ counted_back (length calls) (bytes_of_calls calls) h.few (length_calls calls) (formed_back calls h.each)
    ∙ ap (λ l. Ok l) (calls_back calls h.each)
