-- One call of a session as three bytes: a letter and two operands.
use Rattle.std.specs.Prelude.{ℕ, ◌+◌, ◌/◌, ◌%◌, Bool, true, false, cond, ◌&&◌, List, [], ◌∷◌, Ok, Err, codes, Result, ◌==◌, nat_le, slice_index}
use Prim.Native.String.{String}
use Rattle.session_format.specs.declared.encoding.Call.{Call}
use Rattle.session_format.specs.declared.encoding.Call.TheVariants.{Write, Read, Line, Clocks, Acknowledge, Fetch, AskInt, Reset}
use Rattle.session_format.specs.declared.refusals.FormatRefusal.{FormatRefusal}
use Rattle.session_format.specs.declared.refusals.FormatRefusal.TheVariants.{MalformedCall}

-- the byte that stands for a letter in ASCII
abbrev pub ascii : String → ℕ
ascii letter = slice_index (codes letter) 0

-- an operand that a call does not use is 0
abbrev pub is_unused : ℕ → Bool
is_unused operand = operand == 0

-- The second operand of a line change is a byte with the line's number in bits 3 to 0, nothing in bits 6 to 4, and the level in bit 7.
abbrev pub bits_3_to_0 : ℕ → ℕ
bits_3_to_0 operand = operand % 16

abbrev pub bits_6_to_4 : ℕ → ℕ
bits_6_to_4 operand = operand / 16 % 8

abbrev pub bit_7 : ℕ → Bool
bit_7 operand = nat_le 128 operand

abbrev pub line_operand : ℕ → Bool → ℕ
line_operand line high = bits_3_to_0 line + cond high 128 0

-- the call, if what it asks of its operands holds
abbrev pub well_formed_if : Bool → Call → Result Call FormatRefusal
well_formed_if true call = Ok call
well_formed_if false call = Err MalformedCall

-- what a letter and two operands say
abbrev pub call_of : ℕ → ℕ → ℕ → Result Call FormatRefusal
call_of letter first second =
    cond (letter == ascii "W") (Ok (Write first second))
    (cond (letter == ascii "R") (well_formed_if (is_unused second) (Read first))
    (cond (letter == ascii "L") (well_formed_if (bits_6_to_4 second == 0) (Line first (bits_3_to_0 second) (bit_7 second)))
    (cond (letter == ascii "C") (well_formed_if (is_unused second) (Clocks first))
    (cond (letter == ascii "A") (well_formed_if (is_unused first && is_unused second) Acknowledge)
    (cond (letter == ascii "F") (well_formed_if (is_unused second) (Fetch first))
    (cond (letter == ascii "I") (well_formed_if (is_unused first && is_unused second) AskInt)
    (cond (letter == ascii "Z") (well_formed_if (is_unused first && is_unused second) Reset)
    (Err MalformedCall))))))))

-- what three bytes say, a letter and two operands
abbrev pub call_of_bytes : List ℕ → Result Call FormatRefusal
call_of_bytes (letter ∷ first ∷ second ∷ []) = call_of letter first second
call_of_bytes _ = Err MalformedCall

-- the three bytes of a call
abbrev pub call_bytes : Call → List ℕ
call_bytes (Write port byte) = ascii "W" ∷ port ∷ byte ∷ []
call_bytes (Read port) = ascii "R" ∷ port ∷ 0 ∷ []
call_bytes (Line port line high) = ascii "L" ∷ port ∷ line_operand line high ∷ []
call_bytes (Clocks number) = ascii "C" ∷ number ∷ 0 ∷ []
call_bytes Acknowledge = ascii "A" ∷ 0 ∷ 0 ∷ []
call_bytes (Fetch byte) = ascii "F" ∷ byte ∷ 0 ∷ []
call_bytes AskInt = ascii "I" ∷ 0 ∷ 0 ∷ []
call_bytes Reset = ascii "Z" ∷ 0 ∷ 0 ∷ []
