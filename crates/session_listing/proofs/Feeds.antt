-- The line feeds of a listing are those that end its lines.
use Rattle.std.proofs.Common.{◌≡◌, ℕ, zero, suc, ◌+◌, ◌/◌, ◌%◌, ◌≤◌, Bool, true, false, cond, eqb, ltb, List, [], ◌∷◌, ◌++◌, length, Ok, Err, decimal, Result, sym, refl, ap, ◌∙◌, zero-add, arith, ne_eqb}
use Rattle.std.proofs.lemmas.Bool.{cond_both}
use Rattle.std.specs.Fmt.{digits, digit_glyph, digits_onto}
use Rattle.session_format.specs.Reading.{session_of}
use Rattle.session_format.specs.Refusals.{reason}
use Rattle.session_format.specs.declared.encoding.Call.{Call}
use Rattle.session_format.specs.declared.encoding.Call.TheVariants.{Write, Read, Line, Clocks, Acknowledge, Fetch, AskInt, Reset}
use Rattle.session_format.specs.declared.refusals.FormatRefusal.{FormatRefusal}
use Rattle.session_format.specs.declared.refusals.FormatRefusal.TheVariants.{EndsInsideCount, TooManyCalls, EndsInsideCall, BytesLeftOver, MalformedCall}
use Rattle.session_listing.specs.Hex.{hex_digit}
use Rattle.session_listing.specs.Laws.{line_feeds, feeds_due, LineFeedEach}
use Rattle.session_listing.specs.Lines.{level, operation, call_line, count_line, refusal_line}
use Rattle.session_listing.specs.Listing.{ended, call_lines, listed}

-- ---- a text before another

feeds_more : (b : Bool) (m n k : ℕ) → m ≡ n + k → cond b (suc m) m ≡ cond b (suc n) n + k
feeds_more true m n k e = omega arith
feeds_more false m n k e = e

feeds_append : (front back : List ℕ) → line_feeds (front ++ back) ≡ line_feeds front + line_feeds back
feeds_append [] back = sym (zero-add (line_feeds back))
feeds_append (byte ∷ front) back = feeds_more (eqb byte 10) _ _ _ (feeds_append front back)

-- ---- digits

-- up to 9 they stand from 48 on, and the letters that follow still higher
digit_no_feed : (letters d : ℕ) → 48 ≤ letters → eqb (cond (ltb d 10) (48 + d) (letters + d)) 10 ≡ false
digit_no_feed letters d h =
    cond_both (ltb d 10) (48 + d) (letters + d) (λ byte. eqb byte 10 ≡ false) (λ e. ne_eqb (48 + d) 10 (λ z. omega arith)) (λ e. ne_eqb (letters + d) 10 (λ z. omega arith))

hex_no_feed : (n : ℕ) → eqb (hex_digit n) 10 ≡ false
hex_no_feed n = digit_no_feed 55 n (omega arith)

feeds_spelled : (k n : ℕ) (after : List ℕ) → line_feeds (digits_onto k 10 false n after) ≡ line_feeds after
feeds_spelled zero n after = refl
feeds_spelled (suc k) n after =
    let digit : List ℕ = digit_glyph false (n % 10) ∷ after in
    let last : line_feeds digit ≡ line_feeds after = rw (digit_no_feed 87 (n % 10) (omega arith)) in
    cond_both (eqb (n / 10) 0) digit (digits_onto k 10 false (n / 10) digit) (λ text. line_feeds text ≡ line_feeds after) (λ e. last) (λ e. feeds_spelled k (n / 10) digit ∙ last)

feeds_number : (n : ℕ) → line_feeds (decimal n) ≡ 0
unfolding digits
feeds_number n = feeds_spelled 64 n []

feeds_decimal : (n : ℕ) (rest : List ℕ) → line_feeds (decimal n ++ rest) ≡ line_feeds rest
feeds_decimal n rest = omega (arith, feeds_append (decimal n) rest, feeds_number n)

-- ---- lines

feeds_level : (high : Bool) → line_feeds (level high) ≡ 0
feeds_level true = refl
feeds_level false = refl

feeds_operation : (call : Call) → line_feeds (operation call) ≡ 0
feeds_operation (Write port byte) = simp hex_no_feed
feeds_operation (Read port) = simp hex_no_feed
feeds_operation (Line port line high) = simp (hex_no_feed, feeds_decimal, feeds_level)
feeds_operation (Clocks number) = simp feeds_number
feeds_operation Acknowledge = refl
feeds_operation (Fetch byte) = simp hex_no_feed
feeds_operation AskInt = refl
feeds_operation Reset = refl

feeds_call_line : (offset : ℕ) (call : Call) → line_feeds (call_line offset call) ≡ 0
feeds_call_line offset call = simp (hex_no_feed, feeds_operation)

feeds_count_line : (count : ℕ) → line_feeds (count_line count) ≡ 0
feeds_count_line count = simp (hex_no_feed, feeds_number)

feeds_reason : (refusal : FormatRefusal) → line_feeds (reason refusal) ≡ 0
feeds_reason EndsInsideCount = refl
feeds_reason TooManyCalls = refl
feeds_reason EndsInsideCall = refl
feeds_reason BytesLeftOver = refl
feeds_reason MalformedCall = refl

feeds_refusal_line : (refusal : FormatRefusal) → line_feeds (refusal_line refusal) ≡ 0
feeds_refusal_line refusal = simp (feeds_decimal, feeds_reason)

-- ---- the text

-- a line without a line feed, and more text after it
feeds_ended : (line rest : List ℕ) → line_feeds line ≡ 0 → line_feeds (ended line ++ rest) ≡ suc (line_feeds rest)
feeds_ended line rest none =
    feeds_append (ended line) rest ∙ omega (arith, feeds_append line (10 ∷ []), none)

feeds_call_lines : (offset : ℕ) (calls : List Call) → line_feeds (call_lines offset calls) ≡ length calls
unfolding call_lines
feeds_call_lines offset [] = refl
feeds_call_lines offset (call ∷ calls) =
    feeds_ended (call_line offset call) (call_lines (offset + 3) calls) (feeds_call_line offset call) ∙ ap suc (feeds_call_lines (offset + 3) calls)

feeds_listed : (r : Result (List Call) FormatRefusal) → line_feeds (listed r) ≡ feeds_due r
feeds_listed (Ok calls) =
    feeds_ended (count_line (length calls)) (call_lines 2 calls) (feeds_count_line (length calls))
    ∙ omega (arith, feeds_call_lines 2 calls)
feeds_listed (Err refusal) = omega (arith, feeds_append (refusal_line refusal) (10 ∷ []), feeds_refusal_line refusal)

pub line_feed_each : (bytes : List ℕ) → LineFeedEach bytes
line_feed_each bytes = feeds_listed (session_of bytes)
