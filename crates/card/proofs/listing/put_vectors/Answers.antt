use Rattle.std.proofs.Common.{arith}
use Rattle.std.proofs.lemmas.List.{length-map}
use Rattle.std.proofs.lemmas.List.Edits.{sets-eq}
use Rattle.card.proofs.listing.put_vectors.Goals as goal

pub returns : goal.returns
returns g c = grind (arith, c.in-None.ensures.steps.0.0, sets-eq, length-map)
