-- From the bytes of a session to its calls, or to the refusal.
use Rattle.std.specs.Prelude.{ℕ, ◌+◌, ◌*◌, Bool, true, false, cond, ◌&&◌, List, [], ◌∷◌, length, is_ok, Ok, Err, Result, nat_lt}
use Rattle.session_format.specs.Encoding.{call_of}
use Rattle.session_format.specs.declared.encoding.Call.{Call}
use Rattle.session_format.specs.declared.refusals.FormatRefusal.{FormatRefusal}
use Rattle.session_format.specs.declared.refusals.FormatRefusal.TheVariants.{EndsInsideCount, TooManyCalls, EndsInsideCall, BytesLeftOver, MalformedCall}

-- the most calls that a session holds
abbrev pub most_calls : ℕ
most_calls = 4096

-- whether the bytes are whole calls, three bytes each, and none is malformed
unfoldable pub well_formed : List ℕ → Bool
well_formed [] = true
well_formed (letter ∷ []) = false
well_formed (letter ∷ first ∷ []) = false
well_formed (letter ∷ first ∷ second ∷ rest) = is_ok (call_of letter first second) && well_formed rest

-- a call and those after it; a malformed one ends the list
abbrev pub followed_by : Result Call FormatRefusal → List Call → List Call
followed_by (Ok call) calls = call ∷ calls
followed_by (Err e) calls = []

-- the calls that the bytes hold, up to the first that is malformed
unfoldable pub calls_in : List ℕ → List Call
calls_in [] = []
calls_in (letter ∷ []) = []
calls_in (letter ∷ first ∷ []) = []
calls_in (letter ∷ first ∷ second ∷ rest) = followed_by (call_of letter first second) (calls_in rest)

-- what a count of calls and the bytes after it say
abbrev pub counted : ℕ → List ℕ → Result (List Call) FormatRefusal
counted count bytes =
    cond (nat_lt most_calls count) (Err TooManyCalls)
    (cond (nat_lt (length bytes) (3 * count)) (Err EndsInsideCall)
    (cond (nat_lt (3 * count) (length bytes)) (Err BytesLeftOver)
    (cond (well_formed bytes) (Ok (calls_in bytes))
    (Err MalformedCall))))

-- what a session's bytes say: the count comes first, its low byte before its high byte
abbrev pub session_of : List ℕ → Result (List Call) FormatRefusal
session_of [] = Err EndsInsideCount
session_of (low ∷ []) = Err EndsInsideCount
session_of (low ∷ high ∷ bytes) = counted (low + 256 * high) bytes
