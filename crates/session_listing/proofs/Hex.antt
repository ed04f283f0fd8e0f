-- What a hole `{n:02X}` or `{n:04X}` writes is the digits of the definitions.
use Rattle.std.proofs.Common.{◌≡◌, ℕ, suc, ◌-◌, ◌/◌, ◌%◌, ◌^◌, ◌≤◌, ◌<◌, true, false, List, [], ◌∷◌, Some, sym, ap, ◌∙◌, arith, eq-eqb, ne_eqb, inl, inr}
use Rattle.std.proofs.lemmas.Bool.{cases_lt}
use Rattle.std.proofs.lemmas.Fmt as library
use Rattle.std.specs.Fmt.{char_count, digits, digits_onto, digits_output, format_spec, padded_integral, styled_digits_output}
use Rattle.session_listing.specs.Hex.{hex_digit, hex_byte, hex_word}

-- ---- the digits of numbers that have three and four of them

digit_more : (k n : ℕ) (after : List ℕ) → 16 ≤ n → digits_onto (suc k) 16 true n after ≡ digits_onto k 16 true (n / 16) (hex_digit (n % 16) ∷ after)
digit_more k n after h = rw (ne_eqb (n / 16) 0 (λ e. omega arith))

digit_last : (k n : ℕ) (after : List ℕ) → n < 16 → digits_onto (suc k) 16 true n after ≡ hex_digit (n % 16) ∷ after
digit_last k n after h = rw (eq-eqb (n / 16) 0 (omega arith))

three_digits : (n : ℕ) → 256 ≤ n → n < 4096 → digits 16 true n ≡ hex_digit (n / 16 / 16 % 16) ∷ hex_digit (n / 16 % 16) ∷ hex_digit (n % 16) ∷ []
unfolding digits
three_digits n large small = digit_more 63 n _ (omega arith) ∙ digit_more 62 (n / 16) _ (omega arith) ∙ digit_last 61 (n / 16 / 16) _ (omega arith)

four_digits : (n : ℕ) → 4096 ≤ n → n < 65536
    → digits 16 true n ≡ hex_digit (n / 16 / 16 / 16 % 16) ∷ hex_digit (n / 16 / 16 % 16) ∷ hex_digit (n / 16 % 16) ∷ hex_digit (n % 16) ∷ []
unfolding digits
four_digits n large small =
    digit_more 63 n _ (omega arith) ∙ digit_more 62 (n / 16) _ (omega arith) ∙ digit_more 61 (n / 16 / 16) _ (omega arith) ∙ digit_last 60 (n / 16 / 16 / 16) _ (omega arith)

-- ---- what stands with its leading zeros

word_of : (n a b c d : ℕ) → n / 256 / 16 ≡ a → n / 256 % 16 ≡ b → n % 256 / 16 ≡ c → n % 256 % 16 ≡ d
    → hex_digit a ∷ hex_digit b ∷ hex_digit c ∷ hex_digit d ∷ [] ≡ hex_word n
word_of n a b c d p q r s = sym (λ i. hex_digit (p i) ∷ hex_digit (q i) ∷ hex_digit (r i) ∷ hex_digit (s i) ∷ [])

word_text : (n : ℕ) → n < 65536 → padded_integral (format_spec 32 0 4 4 (2 ^ 64 - 1)) false [] (digits 16 true n) ≡ hex_word n
unfolding padded_integral char_count
word_text n small =
    elim (cases_lt n 16) [
      | inl one ↦ rw (library.hex_one_digit true n one) (word_of n 0 0 0 n (omega arith) (omega arith) (omega arith) (omega arith))
      | inr more ↦ elim (cases_lt n 256) [
        | inl two ↦ rw (library.hex_two_digits true n more two) (word_of n 0 0 (n / 16) (n % 16) (omega arith) (omega arith) (omega arith) (omega arith))
        | inr more ↦ elim (cases_lt n 4096) [
          | inl three ↦ rw (three_digits n more three) (word_of n 0 _ _ _ (omega arith) (omega arith) (omega arith) (omega arith))
          | inr four ↦ rw (four_digits n four small) (word_of n _ _ _ _ (omega arith) (omega arith) (omega arith) (omega arith))
        ]
      ]
    ]

-- ---- a hole that a `write!` fills with n

pub byte_shown : (d : _) (s : _) (n : ℕ) → digits_output d ≡ Some (digits 16 true n) → s ≡ format_spec 32 0 4 2 (2 ^ 64 - 1) → n < 256
    → styled_digits_output d s ≡ Some (hex_byte n)
byte_shown d s n is spec small = rw (spec, is) (ap Some (library.hex_byte true n small))

pub word_shown : (d : _) (s : _) (n : ℕ) → digits_output d ≡ Some (digits 16 true n) → s ≡ format_spec 32 0 4 4 (2 ^ 64 - 1) → n < 65536
    → styled_digits_output d s ≡ Some (hex_word n)
word_shown d s n is spec small = rw (spec, is) (ap Some (word_text n small))
