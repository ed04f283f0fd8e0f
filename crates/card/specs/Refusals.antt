-- The number of each refusal, and the result of a call that may be refused.
use Rattle.std.specs.Prelude.{ℕ, Bool, true, false, Some, None, Ok, Err, Option, Result, ◌==◌}
use Rattle.card.specs.declared.refusals.Refusal.{Refusal}
use Rattle.card.specs.declared.refusals.Refusal.TheVariants.{PortNotTaken, NoSuchLine, NoSuchRegister, LineDriven, ByteNotAwaited, InsideInstruction, TooFewPlaces}

abbrev pub number_of : Refusal → ℕ
number_of PortNotTaken = 1
number_of NoSuchLine = 2
number_of NoSuchRegister = 3
number_of LineDriven = 4
number_of ByteNotAwaited = 5
number_of InsideInstruction = 6
number_of TooFewPlaces = 7

-- a call that is refused so, or else answers x
abbrev pub answered : {A : Type 0} → Option Refusal → A → Result A Refusal
answered None x = Ok x
answered (Some why) x = Err why

unfoldable pub is_refused : Option Refusal → Bool
is_refused None = false
is_refused (Some why) = true

-- whether a call is refused by 1
unfoldable pub refused_by_1 : Option Refusal → Bool
refused_by_1 None = false
refused_by_1 (Some why) = number_of why == 1
