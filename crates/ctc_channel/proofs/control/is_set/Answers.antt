use mathlib.Core.Path.{refl}
use Rattle.ranks.specs.Ranks.{bit}
use Rattle.ctc_channel.proofs.control.is_set.Goals as goal

pub returns : goal.returns
unfolding bit
returns c = refl
