use Rattle.session_listing.proofs.Feeds.{line_feed_each}
use Rattle.session_listing.proofs.text.listing.Goals as goal

pub returns-in-Ok-clause-text : goal.returns-in-Ok-clause-text
returns-in-Ok-clause-text c = rw (← c.in-Ok.ensures.answer) c.list_session.ensures

pub returns-in-Ok-clause-line_feed_each : goal.returns-in-Ok-clause-line_feed_each
returns-in-Ok-clause-line_feed_each c = line_feed_each c.args.bytes.now

pub returns-in-Err-clause-line_feed_each : goal.returns-in-Err-clause-line_feed_each
returns-in-Err-clause-line_feed_each c = line_feed_each c.args.bytes.now
