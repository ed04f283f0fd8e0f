-- What a list's answer tells of the places, and what is then in the buffer.
use Rattle.std.proofs.Common.{◌≡◌, ℕ, ◌≤◌, true, false, ltb, List, ◌++◌, length, drop, Ok, Err, arith}
use Rattle.std.proofs.lemmas.Bool.Decides.{nat_tests}
use Rattle.card.specs.declared.refusals.Refusal.{Refusal}
use Rattle.card.specs.Listing.{places_of, list_answer, listed_into}

pub refused_for_places : (n : ℕ) (buffer : List ℕ) (why : Refusal) → Err why ≡ list_answer n buffer → ltb (places_of buffer) n ≡ true
refused_for_places n buffer why e = grind arith

pub accepted_for_places : (n k : ℕ) (buffer : List ℕ) → Ok k ≡ list_answer n buffer → ltb (places_of buffer) n ≡ false
accepted_for_places n k buffer e = grind arith

pub accepted_fits : (n m k : ℕ) (buffer : List ℕ) → m ≡ n → Ok k ≡ list_answer m buffer → n ≤ length buffer
accepted_fits n m k buffer p e = grind (arith, nat_tests, accepted_for_places m k buffer e)

pub not_listed : (n : ℕ) (bytes buffer : List ℕ) → length bytes ≡ n → ltb (places_of buffer) n ≡ true → buffer ≡ listed_into bytes buffer
not_listed n bytes buffer k t = rw (k, t)

pub listed : (n : ℕ) (bytes buffer now : List ℕ) → length bytes ≡ n → ltb (places_of buffer) n ≡ false → now ≡ bytes ++ drop n buffer → now ≡ listed_into bytes buffer
listed n bytes buffer now k t h = rw (k, t, h)
