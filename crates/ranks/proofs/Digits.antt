-- The bits of a number.
use Rattle.std.proofs.Common.{◌≡◌, ℕ, zero, suc, ◌-◌, ◌/◌, ◌%◌, ◌^◌, ◌<◌, false, not, ◌&&◌, ◌||◌, eqb, Some, one-add, pow-suc, pow_pos, arith}
use native.Mathlib.Nat.{div-eq_of_lt-le, mod-one}
use lib.Bits.{bit_and, bit_or}
use lib.Count.{count_leading_zeros, ones, ones_in, ones_cat}
use Rattle.std.proofs.lemmas.Bool.Decides.{nat_tests}
use Rattle.std.proofs.lemmas.Nat.{leading_top, ones_le_self, zero_from_ones, mod-pow-add}
use Rattle.std.proofs.lemmas.Nat.Bits.{bit_at_lowest, bit_at-suc, bit_at_and, bit_at_or, bit_at-zero, bit_at-pow_same, bit_at-pow_other, bit_at-lt, bit_at_above}
use Rattle.ranks.specs.Ranks.{bit, highest, how_many}
use Rattle.ranks.proofs.Sets.{highest_is}

pub bit-bit_and : (a b k : ℕ) → bit (bit_and a b) k ≡ (bit a k && bit b k)
unfolding bit
bit-bit_and a b k = grind (arith, nat_tests, bit_at_and, bit_at-lt)

pub bit-bit_or : (a b k : ℕ) → bit (bit_or a b) k ≡ (bit a k || bit b k)
unfolding bit
bit-bit_or a b k = grind (arith, nat_tests, bit_at_or, bit_at-lt)

pub bit_zero : (k : ℕ) → bit 0 k ≡ false
unfolding bit
bit_zero k = grind (arith, nat_tests, bit_at-zero)

pub bit_pow : (r k : ℕ) → bit (2 ^ r) k ≡ eqb k r
unfolding bit
bit_pow r k = grind (arith, nat_tests, bit_at-pow_same, bit_at-pow_other)

-- no bit from k on in a number below 2 ^ k
pub bit_past : (a k : ℕ) → a < 2 ^ k → bit a k ≡ false
unfolding bit
bit_past a k h = grind (arith, nat_tests, bit_at_above a k k h)

-- the bits of the complement at w bits
pub bit_not : (w a k : ℕ) → a < 2 ^ w → k < w → bit (2 ^ w - 1 - a) k ≡ not (bit a k)
unfolding bit
bit_not zero a k h l = absurd (omega arith)
bit_not (suc w) a zero h l =
    let e : (2 ^ suc w - 1 - a) % 2 ≡ 1 - a % 2 = omega (arith, pow-suc 2 w) in
    rw (bit_at_lowest (2 ^ suc w - 1 - a), bit_at_lowest a, e) (grind (arith, nat_tests))
bit_not (suc w) a (suc k) h l =
    let e : (2 ^ suc w - 1 - a) / 2 ≡ 2 ^ w - 1 - a / 2 = omega (arith, pow-suc 2 w) in
    rw (bit_at-suc (2 ^ suc w - 1 - a) k, bit_at-suc a k, e) (bit_not w (a / 2) k (omega (arith, pow-suc 2 w)) (omega arith))

-- the highest bit, by the leading zeros at w bits
pub highest_bit : (w a : ℕ) → 0 < a → a < 2 ^ w → highest w (bit a) ≡ Some (w - 1 - count_leading_zeros w a)
unfolding bit
highest_bit w a p h =
    let t = leading_top w a p h in
    let e : t.0 ≡ w - 1 - count_leading_zeros w a = omega (arith, t.1) in
    let q : a / 2 ^ t.0 ≡ 1 = div-eq_of_lt-le (2 ^ t.0) (omega (arith, t.2)) (omega (arith, t.3)) in
    rw (← e) (highest_is w (bit a) t.0 (omega (arith, t.1)) (rw q) (λ k l g. rw (bit_at_above a (suc t.0) k t.3 g)))

-- the number of bits that are set
pub how_many_bits : (n a : ℕ) → how_many n (bit a) ≡ ones (a % 2 ^ n)
unfolding how_many bit ones ones_in
how_many_bits zero a = rw (mod-one a)
how_many_bits (suc n) a =
    let q : ℕ = a / 2 ^ n % 2 in
    grind (arith, nat_tests, how_many_bits n a, mod-pow-add a 1 n, one-add n, ones_cat n q (a % 2 ^ n), pow_pos, ones_le_self q, zero_from_ones q)
