-- From calls to the bytes of a session.
use Rattle.std.specs.Prelude.{ℕ, ◌/◌, ◌%◌, List, [], ◌∷◌, ◌++◌, length}
use Rattle.session_format.specs.Encoding.{call_bytes}
use Rattle.session_format.specs.declared.encoding.Call.{Call}

-- the calls one after another, three bytes each
abbrev pub bytes_of_calls : List Call → List ℕ
bytes_of_calls [] = []
bytes_of_calls (call ∷ calls) = call_bytes call ++ bytes_of_calls calls

-- a session's bytes: the count, its low byte before its high byte, and the calls
abbrev pub session_bytes : List Call → List ℕ
session_bytes calls = length calls % 256 ∷ length calls / 256 ∷ bytes_of_calls calls
