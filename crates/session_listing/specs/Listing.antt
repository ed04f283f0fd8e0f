-- The whole text of a listing.
use Rattle.std.specs.Prelude.{ℕ, ◌+◌, List, [], ◌∷◌, ◌++◌, length, Ok, Err, Result}
use Rattle.session_format.specs.Reading.{session_of}
use Rattle.session_format.specs.declared.encoding.Call.{Call}
use Rattle.session_format.specs.declared.refusals.FormatRefusal.{FormatRefusal}
use Rattle.session_listing.specs.Lines.{call_line, count_line, refusal_line}

-- a line and the line feed that ends it
abbrev pub ended : List ℕ → List ℕ
ended line = line ++ 10 ∷ []

-- the calls from an offset on, three bytes apart
unfoldable pub call_lines : ℕ → List Call → List ℕ
call_lines offset [] = []
call_lines offset (call ∷ calls) = ended (call_line offset call) ++ call_lines (offset + 3) calls

-- the first call stands behind the two bytes of the count
abbrev pub listed_calls : List Call → List ℕ
listed_calls calls = ended (count_line (length calls)) ++ call_lines 2 calls

-- the listing of what the reader answers
abbrev pub listed : Result (List Call) FormatRefusal → List ℕ
listed (Ok calls) = listed_calls calls
listed (Err refusal) = ended (refusal_line refusal)

-- the listing of a session's bytes
abbrev pub listing_of : List ℕ → List ℕ
listing_of bytes = listed (session_of bytes)
