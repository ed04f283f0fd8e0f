use Rattle.std.proofs.Common.{◌≡◌, ◌/◌, ◌%◌, arith}
use Rattle.session_listing.proofs.Hex.{byte_shown}
use Rattle.session_listing.proofs.lines.CountLineDisplay.fmt.Goals as goal

pub returns-clause-writes : goal.returns-clause-writes
returns-clause-writes g c =
    let high : c.args.self.now.0 / 256 % 256 ≡ c.args.self.now.0 / 256 = omega arith in
    rw (
      byte_shown _ _ _ (rw c.to_le_bytes.ensures at c.in_radix.ensures) c.laid_out.ensures (omega arith),
      byte_shown _ _ _ (rw (c.to_le_bytes.ensures, high) at c.in_radix-2.ensures) c.laid_out-2.ensures (omega arith),
    )
    at c.write.ensures.writes
