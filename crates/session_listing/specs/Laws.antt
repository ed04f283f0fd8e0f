-- What holds of every listing.
use Rattle.std.specs.Prelude.{◌≡◌, ℕ, suc, ◌+◌, cond, List, [], ◌∷◌, length, Ok, Err, Result, ◌==◌}
use Rattle.session_format.specs.Reading.{session_of}
use Rattle.session_format.specs.declared.encoding.Call.{Call}
use Rattle.session_format.specs.declared.refusals.FormatRefusal.{FormatRefusal}
use Rattle.session_listing.specs.Listing.{listing_of}

-- how many line feeds a text has
abbrev pub line_feeds : List ℕ → ℕ
line_feeds [] = 0
line_feeds (byte ∷ bytes) = cond (byte == 10) (suc (line_feeds bytes)) (line_feeds bytes)

-- one for the count and one for each call, or one for the refusal
abbrev pub feeds_due : Result (List Call) FormatRefusal → ℕ
feeds_due (Ok calls) = 1 + length calls
feeds_due (Err refusal) = 1

-- A listing has one line feed for the count and one for each call, or one for the refusal, and no other.
abbrev pub LineFeedEach : List ℕ → Type 0
LineFeedEach bytes = line_feeds (listing_of bytes) ≡ feeds_due (session_of bytes)
