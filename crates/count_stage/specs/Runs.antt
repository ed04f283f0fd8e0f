-- Runs of clocks and of count steps, from a fresh start.
use Rattle.std.specs.Prelude.{◌≡◌, ℕ, zero, suc, ◌+◌, ◌*◌, ◌%◌, ◌≤◌, ◌==◌}
use Rattle.count_stage.specs.declared.CountStage.{CountStage}
use Rattle.count_stage.specs.Stage.{count_of, step_times_out, stepped, clock_times_out, clocked}

-- the stage after n clocks
unfoldable pub after_clocks : ℕ → ℕ → CountStage → CountStage
after_clocks d zero s = s
after_clocks d (suc n) s = clocked d (after_clocks d n s)

-- Of the clocks from s on, counted from 1, exactly those are time-outs whose number is a multiple of divisor × constant,
-- a constant of 0 counted as 256: the first comes at that number and not before, and then one comes every so many.
abbrev pub ClocksTimeOutAtEveryMultiple : ℕ → CountStage → Type 0
ClocksTimeOutAtEveryMultiple c s =
    (d n : ℕ) → 1 ≤ d → clock_times_out d (after_clocks d n s) ≡ ((n + 1) % (d * count_of c) == 0)

-- the stage after n count steps
unfoldable pub after_steps : ℕ → CountStage → CountStage
after_steps zero s = s
after_steps (suc n) s = stepped (after_steps n s)

-- The same of the count steps, where steps alone are made: the multiples of the constant are time-outs.
abbrev pub StepsTimeOutAtEveryMultiple : ℕ → CountStage → Type 0
StepsTimeOutAtEveryMultiple c s = (n : ℕ) → step_times_out (after_steps n s) ≡ ((n + 1) % count_of c == 0)
