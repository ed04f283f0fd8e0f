use Rattle.std.proofs.Common.{◌≡◌, ◌+◌, ◌*◌, ◌≤◌, ◌++◌, length, string_bytes}
use Rattle.std.specs.Iterator.Adapters.{enumerate_source, enumerate_count}
use Rattle.session_format.specs.Views.{calls_left}
use Rattle.session_listing.specs.Listing.{call_lines}
use Rattle.session_listing.proofs.text.list_calls.Given as goal

abbrev pub invariant-loop-place : goal.invariant-loop-place
invariant-loop-place l =
    let left = calls_left (enumerate_source l.place-iterator) in
    let place = enumerate_count l.place-iterator in
    record {
      lines : string_bytes l.text ++ call_lines (2 + 3 * place) left ≡ string_bytes l.initial.text ++ call_lines 2 (calls_left l.calls);
      few : place + length left ≤ 4096;
    }
