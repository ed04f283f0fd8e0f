-- The number of each refusal of the reader, and its words.
use Rattle.std.specs.Prelude.{ℕ, List, codes}
use Rattle.session_format.specs.declared.refusals.FormatRefusal.{FormatRefusal}
use Rattle.session_format.specs.declared.refusals.FormatRefusal.TheVariants.{EndsInsideCount, TooManyCalls, EndsInsideCall, BytesLeftOver, MalformedCall}

abbrev pub number_of : FormatRefusal → ℕ
number_of EndsInsideCount = 8
number_of TooManyCalls = 9
number_of EndsInsideCall = 8
number_of BytesLeftOver = 10
number_of MalformedCall = 11

abbrev pub reason : FormatRefusal → List ℕ
reason EndsInsideCount = codes "the bytes end inside the count"
reason TooManyCalls = codes "the count is above 4,096"
reason EndsInsideCall = codes "the bytes end inside a call"
reason BytesLeftOver = codes "bytes are left over after the last call"
reason MalformedCall = codes "a call is malformed"
