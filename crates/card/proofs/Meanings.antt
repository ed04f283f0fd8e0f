-- Laws of meanings that the proofs of cards share.
use Rattle.std.proofs.Common.{◌≡◌, ℕ, ◌<◌, Bool, true, false, ◌&&◌, Some, None, refl, arith}
use Rattle.ranks.proofs.Sets.{highest_in}
use Rattle.card.specs.Meaning.{Meaning, serves, pulls, rank_acknowledged, rank_returned}
use Rattle.card.specs.Sentences.{KeptOnTheBus}

-- an acknowledge takes a rank that waits
pub acknowledged_waits : (iei : Bool) (m : Meaning) (r : ℕ) → Some r ≡ rank_acknowledged iei m → (r < m.size) × (m.waiting r ≡ true)
unfolding rank_acknowledged
acknowledged_waits iei m r e = grind (arith, highest_in)

pub no_pull_takes_none : (iei : Bool) (m : Meaning) → pulls iei m ≡ false → rank_acknowledged iei m ≡ None
unfolding rank_acknowledged
no_pull_takes_none iei m e = rw e

pub no_service_ends_none : (iei : Bool) (m : Meaning) → (iei && serves m) ≡ false → rank_returned iei m ≡ None
unfolding rank_returned serves
no_service_ends_none iei m e = grind arith

-- a call that leaves the meaning
pub nothing_moved : (m : Meaning) → KeptOnTheBus m m
nothing_moved m = record { size = refl; ports = refl; service = λ k h. h }
