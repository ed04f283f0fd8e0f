use Rattle.std.proofs.Common.{arith}
use Rattle.count_stage.proofs.TimeOuts.{clocks_at_every_multiple, steps_at_every_multiple}
use Rattle.count_stage.proofs.CountStage.start.Goals as goal

pub returns-clause-clocks_time_out_at_every_multiple : goal.returns-clause-clocks_time_out_at_every_multiple
returns-clause-clocks_time_out_at_every_multiple c = rw c.fresh.ensures (λ d n h. clocks_at_every_multiple d c.args.constant (omega arith) h n)

pub returns-clause-steps_time_out_at_every_multiple : goal.returns-clause-steps_time_out_at_every_multiple
returns-clause-steps_time_out_at_every_multiple c = rw c.fresh.ensures (steps_at_every_multiple c.args.constant (omega arith))
