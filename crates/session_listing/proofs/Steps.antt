-- A listing that grows call by call.
use Rattle.std.proofs.Common.{◌≡◌, ℕ, ◌+◌, ◌*◌, List, [], ◌∷◌, ◌++◌, append_assoc, append-nil, arith}
use Rattle.session_format.specs.declared.encoding.Call.{Call}
use Rattle.session_listing.specs.Lines.{call_line}
use Rattle.session_listing.specs.Listing.{call_lines, ended}

-- the text with the next call's line, and the lines of the later calls
pub lines_more : (text more : List ℕ) (count place next : ℕ) (calls later : List Call) (call : Call)
    → calls ≡ call ∷ later → place ≡ count → next ≡ count + 1 → more ≡ text ++ ended (call_line (2 + 3 * place) call)
    → more ++ call_lines (2 + 3 * next) later ≡ text ++ call_lines (2 + 3 * count) calls
unfolding call_lines
lines_more text more count place next calls later call taken here on grown =
    let offset : 2 + 3 * next ≡ 2 + 3 * place + 3 = omega arith in
    let same : 2 + 3 * count ≡ 2 + 3 * place = omega arith in
    rw (taken, grown, offset, same) (append_assoc text (ended (call_line (2 + 3 * place) call)) (call_lines (2 + 3 * place + 3) later))

pub lines_none : (text : List ℕ) (offset : ℕ) (calls : List Call) → calls ≡ [] → text ++ call_lines offset calls ≡ text
unfolding call_lines
lines_none text offset calls none = rw none (append-nil text)
