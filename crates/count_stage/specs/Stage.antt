-- What a count stage does at a clock and at a count step.
use Rattle.std.specs.Prelude.{ℕ, ◌+◌, ◌%◌, Bool, false, cond, ◌==◌, nat_lt}
use Rattle.count_stage.specs.declared.CountStage.{CountStage}

-- a fresh start: the counter takes the constant, and the prescaler count is 0
abbrev pub started : ℕ → CountStage
started c = record { constant = c; counter = c; prescaler = 0 }

abbrev pub with_constant : ℕ → CountStage → CountStage
with_constant c s = record { constant = c; counter = s.counter; prescaler = s.prescaler }

abbrev pub with_counter : ℕ → CountStage → CountStage
with_counter n s = record { constant = s.constant; counter = n; prescaler = s.prescaler }

abbrev pub with_prescaler : ℕ → CountStage → CountStage
with_prescaler n s = record { constant = s.constant; counter = s.counter; prescaler = n }

abbrev pub prescaler_cleared : CountStage → CountStage
prescaler_cleared s = with_prescaler 0 s

-- what a counter byte stands for
abbrev pub count_of : ℕ → ℕ
count_of b = cond (b == 0) 256 b

-- the counter byte one lower, 255 below 0
abbrev pub one_lower : ℕ → ℕ
one_lower b = (b + 255) % 256

-- a count step: one at counter 1 is a time-out, at which the counter takes the constant
abbrev pub step_times_out : CountStage → Bool
step_times_out s = s.counter == 1

abbrev pub stepped : CountStage → CountStage
stepped s = with_counter (cond (step_times_out s) s.constant (one_lower s.counter)) s

-- a clock: it adds 1 to the prescaler count; at the divisor or above it that becomes 0, and a count step is made (a
-- divisor of 0 acts as 1)
abbrev pub below_divisor : ℕ → CountStage → Bool
below_divisor d s = nat_lt (s.prescaler + 1) d

abbrev pub clock_times_out : ℕ → CountStage → Bool
clock_times_out d s = cond (below_divisor d s) false (step_times_out s)

abbrev pub clocked : ℕ → CountStage → CountStage
clocked d s = cond (below_divisor d s) (with_prescaler (s.prescaler + 1) s) (stepped (prescaler_cleared s))
