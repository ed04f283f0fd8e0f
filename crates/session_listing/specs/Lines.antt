-- The lines of a listing, without their line feeds.
use Rattle.std.specs.Prelude.{ℕ, ◌-◌, ◌/◌, ◌%◌, Bool, cond, List, [], ◌∷◌, ◌++◌, length, replicate, codes, decimal, slice_index}
use Prim.Native.String.{String}
use Rattle.session_format.specs.Encoding.{ascii, call_bytes}
use Rattle.session_format.specs.Refusals.{number_of, reason}
use Rattle.session_format.specs.declared.encoding.Call.{Call}
use Rattle.session_format.specs.declared.encoding.Call.TheVariants.{Write, Read, Line, Clocks, Acknowledge, Fetch, AskInt, Reset}
use Rattle.session_format.specs.declared.refusals.FormatRefusal.{FormatRefusal}
use Rattle.session_listing.specs.Hex.{hex_byte, hex_word}

-- a text of pieces, one after another
abbrev pub text : List (List ℕ) → List ℕ
text [] = []
text (piece ∷ []) = piece
text (piece ∷ next ∷ pieces) = piece ++ text (next ∷ pieces)

-- a name before its operands, which stand in a column of their own: 13 places on, two behind the longest name
abbrev pub named : String → List ℕ
named name = codes name ++ replicate (13 - length (codes name)) (ascii " ")

abbrev pub level : Bool → List ℕ
level high = cond high (codes "high") (codes "low")

-- what a call asks for
abbrev pub operation : Call → List ℕ
operation (Write port byte) = text (named "write" ∷ codes "port " ∷ hex_byte port ∷ codes "h, byte " ∷ hex_byte byte ∷ codes "h" ∷ [])
operation (Read port) = text (named "read" ∷ codes "port " ∷ hex_byte port ∷ codes "h" ∷ [])
operation (Line port line high) =
    text (named "line" ∷ codes "port " ∷ hex_byte port ∷ codes "h, line " ∷ decimal line ∷ codes " " ∷ level high ∷ [])
operation (Clocks number) = text (named "clocks" ∷ decimal number ∷ [])
operation Acknowledge = codes "acknowledge"
operation (Fetch byte) = text (named "fetch" ∷ codes "byte " ∷ hex_byte byte ∷ codes "h" ∷ [])
operation AskInt = codes "int"
operation Reset = codes "reset"

-- the text of the k-th of a call's three bytes, from 0 on
abbrev pub byte_text : Call → ℕ → List ℕ
byte_text call k = hex_byte (slice_index (call_bytes call) k)

-- where the call stands in the session, its three bytes, and what it asks for
abbrev pub call_line : ℕ → Call → List ℕ
call_line offset call =
    text (hex_word offset ∷ codes "  " ∷ byte_text call 0 ∷ codes " " ∷ byte_text call 1 ∷ codes " " ∷ byte_text call 2 ∷ codes "  " ∷ operation call ∷ [])

-- the session's first line: its two bytes of count, the low one first, and the count
abbrev pub count_line : ℕ → List ℕ
count_line count =
    text (hex_word 0 ∷ codes "  " ∷ hex_byte (count % 256) ∷ codes " " ∷ hex_byte (count / 256) ∷ codes "     " ∷ named "count" ∷ decimal count ∷ [])

-- the only line of what is no session
abbrev pub refusal_line : FormatRefusal → List ℕ
refusal_line refusal = text (codes "refused " ∷ decimal (number_of refusal) ∷ codes ": " ∷ reason refusal ∷ [])
