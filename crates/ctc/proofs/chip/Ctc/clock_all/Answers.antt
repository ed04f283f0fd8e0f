use Rattle.std.proofs.Common.{arith}
use Rattle.std.proofs.Math.Seq.{drop-cons}
use Rattle.ctc.proofs.chip.Ctc.clock_all.Goals as goal

pub loop-channel-preserved : goal.loop-channel-preserved
loop-channel-preserved c = grind (arith, drop-cons c.all-channel-items.result c.loop-channel.channel-index)
