-- From a fresh start, the time-outs are the clocks whose number is a multiple of divisor × constant, and the count steps
-- whose number is a multiple of the constant.
use Rattle.std.proofs.Common.{◌≡◌, ℕ, zero, suc, ◌+◌, ◌-◌, ◌*◌, ◌%◌, ◌<◌, ◌≤◌, cond, eqb, ◌≢◌, refl, ◌∙◌, mod-eq_of_lt, mul-pos, mul-suc, one-mul, add-one, le-mul_of_pos_right, arith}
use native.Mathlib.Nat.{suc-mod, mod_self}
use Rattle.std.proofs.lemmas.Bool.Decides.{nat_tests}
use Rattle.count_stage.specs.declared.CountStage.{CountStage}
use Rattle.count_stage.specs.Stage.{count_of, one_lower, started, step_times_out, clock_times_out, clocked}
use Rattle.count_stage.specs.Runs.{after_clocks, after_steps}

-- s is a stage with the constant c, whose next time-out is the l-th clock from now
record Due (d c l : ℕ) (s : CountStage) : Type 0 where
  constant : s.constant ≡ c
  byte : s.counter < 256
  inside : s.prescaler < d
  left : l + s.prescaler ≡ d * count_of s.counter

pub count_positive : (c : ℕ) → c < 256 → 0 < count_of c
count_positive c h = grind (arith, nat_tests)

-- of the clocks that are left, d come until a counter other than 1 makes its count step, and d or more after that
one_step : (d b : ℕ) → b < 256 → b ≢ 1 → (d * count_of b ≡ d * count_of (one_lower b) + d) × (d ≤ d * count_of (one_lower b))
one_step d b h n =
    let e : count_of b ≡ suc (count_of (one_lower b)) = grind (arith, nat_tests) in
    rw e (mul-suc d _, le-mul_of_pos_right d (count_positive (one_lower b) (omega arith)))

-- what a clock answers there, and when the time-out after it is due
clock : (d c l : ℕ) (s : CountStage) → c < 256 → Due d c l s → (clock_times_out d s ≡ eqb l 1) × Due d c (cond (eqb l 1) (d * count_of c) (l - 1)) (clocked d s)
clock d c l s k h = grind (arith, nat_tests, one_step d s.counter)

-- a number that falls from P to 1 and starts over at P
next_multiple : (P n : ℕ) → 0 < P → (eqb (P - n % P) 1 ≡ eqb (suc n % P) 0) × (cond (eqb (P - n % P) 1) P (P - n % P - 1) ≡ P - suc n % P)
next_multiple P n h = rw suc-mod (grind (arith, nat_tests, mod_self P, mod-eq_of_lt))

module _ (d c : ℕ) (few : c < 256) (some : 1 ≤ d) where
  abbrev period : ℕ
  period = d * count_of c

  pub period_positive : 0 < period
  period_positive = mul-pos some (count_positive c few)

  due : (n : ℕ) → Due d c (period - n % period) (after_clocks d n (started c))
  unfolding after_clocks
  due zero = omega arith
  due (suc n) = rw (← (next_multiple period n period_positive).1) (clock d c _ _ few (due n)).1

  pub clocks_at_every_multiple : (n : ℕ) → clock_times_out d (after_clocks d n (started c)) ≡ eqb ((n + 1) % period) 0
  clocks_at_every_multiple n = rw (add-one n) ((clock d c _ _ few (due n)).0 ∙ (next_multiple period n period_positive).0)

-- a clock by 1 is a count step
same_by_1 : (c n : ℕ) → (after_clocks 1 n (started c) ≡ after_steps n (started c)) × ((after_steps n (started c)).prescaler ≡ 0)
unfolding after_clocks after_steps
same_by_1 c zero = (refl, refl)
same_by_1 c (suc n) = grind (arith, nat_tests, same_by_1 c n)

pub steps_at_every_multiple : (c : ℕ) → c < 256 → (n : ℕ) → step_times_out (after_steps n (started c)) ≡ eqb ((n + 1) % count_of c) 0
steps_at_every_multiple c few n = grind (arith, nat_tests, clocks_at_every_multiple 1 c few (omega arith) n, same_by_1 c n, one-mul (count_of c))
