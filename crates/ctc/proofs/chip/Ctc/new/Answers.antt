use Rattle.std.proofs.Common.{rules}
use Rattle.ctc.proofs.Timers.{timers_request_on_time}
use Rattle.ctc.proofs.Counters.{counters_request_on_time}
use Rattle.ctc.proofs.chip.Ctc.new.Goals as goal

pub returns : goal.returns
returns c = record { made = search rules; timers_request_on_time = timers_request_on_time; counters_request_on_time = counters_request_on_time }
