-- What holds of reading and writing together, over every session.
use Rattle.std.specs.Prelude.{◌≡◌, ℕ, ◌+◌, ◌*◌, ◌<◌, ◌≤◌, List, length, take, All, Ok}
use Rattle.session_format.specs.Reading.{most_calls, session_of}
use Rattle.session_format.specs.Writing.{session_bytes}
use Rattle.session_format.specs.declared.encoding.Call.{Call}
use Rattle.session_format.specs.declared.encoding.Call.TheVariants.{Write, Read, Line, Clocks, Acknowledge, Fetch, AskInt, Reset}

-- The format has four bits for a line's number. Every other operand is a byte in `Call` and in the format alike, so nothing is asked of it.
abbrev pub HoldsCall : Call → Type 0
HoldsCall (Write port byte) = Unit {0}
HoldsCall (Read port) = Unit {0}
HoldsCall (Line port line high) = line < 16
HoldsCall (Clocks number) = Unit {0}
HoldsCall Acknowledge = Unit {0}
HoldsCall (Fetch byte) = Unit {0}
HoldsCall AskInt = Unit {0}
HoldsCall Reset = Unit {0}

-- a list of calls that the format can hold
pub record Holdable (calls : List Call) : Type 0 where
  pub few : length calls ≤ most_calls
  pub each : All HoldsCall calls

-- Reading what was written gives the calls.
abbrev pub ReadsWhatIsWritten : Type 0
ReadsWhatIsWritten = (calls : List Call) → Holdable calls → session_of (session_bytes calls) ≡ Ok calls

-- Writing what these bytes were read as gives the bytes back.
abbrev pub WritesWhatWasRead : List ℕ → Type 0
WritesWhatWasRead bytes = (calls : List Call) → session_of bytes ≡ Ok calls → session_bytes calls ≡ bytes

-- the length in bytes of a session of that many calls: 12,290
abbrev pub longest_session : ℕ
longest_session = 2 + 3 * most_calls

-- The bytes of the longest session, and one more, decide the answer.
abbrev pub FrontDecides : List ℕ → Type 0
FrontDecides bytes = session_of (take (longest_session + 1) bytes) ≡ session_of bytes
