-- The values that the code passes on while it reads, in the terms of `Reading`.
use Rattle.std.specs.Prelude.{List, Ok, Err, Result}
use Rattle.session_format.specs.Reading.{calls_in}
use Rattle.session_format.specs.declared.encoding.Call.{Call}
use Rattle.session_format.specs.declared.refusals.FormatRefusal.{FormatRefusal}
use Rattle.session_format.specs.declared.view.Calls.{Calls}

-- the calls that are still to come
abbrev pub calls_left : Calls → List Call
calls_left view = calls_in view.bytes.now

-- the reader's answer, with the list of calls in place of the view that holds them
abbrev pub answer : Result Calls FormatRefusal → Result (List Call) FormatRefusal
answer (Ok view) = Ok (calls_left view)
answer (Err e) = Err e
