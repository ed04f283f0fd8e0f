use Rattle.std.proofs.Common.{arith, rules}
use Rattle.session_listing.proofs.Hex.{byte_shown, word_shown}
use Rattle.session_listing.proofs.lines.CallLineDisplay.fmt.Goals as goal

pub returns-clause-writes : goal.returns-clause-writes
returns-clause-writes g c =
    rw (
      word_shown _ _ _ c.in_radix.ensures c.laid_out.ensures (omega arith),
      byte_shown _ _ _ c.in_radix-2.ensures c.laid_out-2.ensures (search rules),
      byte_shown _ _ _ c.in_radix-3.ensures c.laid_out-3.ensures (search rules),
      byte_shown _ _ _ c.in_radix-4.ensures c.laid_out-4.ensures (search rules),
      c.from.ensures,
    ) at c.write.ensures.writes
