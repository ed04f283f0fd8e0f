use Rattle.std.proofs.Common.{arith}
use Rattle.session_listing.proofs.Hex.{byte_shown}
use Rattle.session_listing.proofs.lines.OperationDisplay.fmt.Goals as goal

pub returns-in-Read-clause-writes : goal.returns-in-Read-clause-writes
returns-in-Read-clause-writes g c = rw c.in-Read.is (rw (byte_shown _ _ _ c.in_radix-in-Read.ensures c.laid_out-in-Read.ensures (omega arith)) at c.write-in-Read.ensures.writes)

pub returns-in-Write-clause-writes : goal.returns-in-Write-clause-writes
returns-in-Write-clause-writes g c =
    rw c.in-Write.is
    (rw (byte_shown _ _ _ c.in_radix.ensures c.laid_out.ensures (omega arith), byte_shown _ _ _ c.in_radix-in-Write.ensures c.laid_out-in-Write.ensures (omega arith))
    at c.write.ensures.writes)

pub returns-in-Line-clause-writes : goal.returns-in-Line-clause-writes
returns-in-Line-clause-writes g c =
    rw c.in-Line.is
    (rw (byte_shown _ _ _ c.in_radix-in-Line.ensures c.laid_out-in-Line.ensures (omega arith), c.level_name-level.ensures) at c.write-in-Line.ensures.writes)

pub returns-in-Fetch-clause-writes : goal.returns-in-Fetch-clause-writes
returns-in-Fetch-clause-writes g c =
    rw c.in-Fetch.is (rw (byte_shown _ _ _ c.in_radix-in-Fetch.ensures c.laid_out-in-Fetch.ensures (omega arith)) at c.write-in-Fetch.ensures.writes)
