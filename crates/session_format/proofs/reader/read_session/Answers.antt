use Rattle.session_format.proofs.Fronts.{front_decides}
use Rattle.session_format.proofs.ReadIsWritten.{holdable_answer, writes_what_was_read}
use Rattle.session_format.proofs.WrittenIsRead.{reads_what_is_written}
use Rattle.session_format.proofs.reader.read_session.Goals as goal

pub returns-clause-holdable : goal.returns-clause-holdable
returns-clause-holdable c = holdable_answer c.read_calls.result

pub returns-clause-written_is_read : goal.returns-clause-written_is_read
returns-clause-written_is_read c = reads_what_is_written

pub returns-clause-read_is_written : goal.returns-clause-read_is_written
returns-clause-read_is_written c = writes_what_was_read c.args.bytes.now c.type_inv.bytes

pub returns-clause-front_decides : goal.returns-clause-front_decides
returns-clause-front_decides c = front_decides c.args.bytes.now

pub returns-in_default-clause-written_is_read : goal.returns-in_default-clause-written_is_read
returns-in_default-clause-written_is_read c = reads_what_is_written

pub returns-in_default-clause-front_decides : goal.returns-in_default-clause-front_decides
returns-in_default-clause-front_decides c = front_decides c.args.bytes.now
