-- The numbers of the four channels, by port, by line and by rank.
use Rattle.std.specs.Prelude.{ℕ, ◌-◌, ◌%◌, cond, Ok, Err, Result, nat_lt}
use Rattle.card.specs.declared.refusals.Refusal.{Refusal}
use Rattle.card.specs.declared.refusals.Refusal.TheVariants.{NoSuchLine}

abbrev pub channel_of : ℕ → ℕ
channel_of port = port % 4

-- line k is the trigger of channel k
abbrev pub channel_of_line : ℕ → Result ℕ Refusal
channel_of_line line = cond (nat_lt 3 line) (Err NoSuchLine) (Ok line)

abbrev pub rank_of : ℕ → ℕ
rank_of channel = 3 - channel

abbrev pub channel_ranked : ℕ → ℕ
channel_ranked rank = 3 - rank
