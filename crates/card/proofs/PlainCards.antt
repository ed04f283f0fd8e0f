-- A card whose 'unaltered' is equality.
use Rattle.std.proofs.Common.{◌≡◌, refl}
use Rattle.card.specs.Meaning.{Meaning}
use Rattle.card.specs.Sentences.{Rules, Unaltered}

pub plain_unaltered : {S : Type 0} (m : S → Meaning) (r : Rules S) → Unaltered S m (λ s t. s ≡ t) r
plain_unaltered m r =
    record {
      reflexive = λ s. refl;
      symmetric = λ s t h. cc;
      transitive = λ s t u h g. cc;
      same_meaning = λ s t h. cc;
      after_write = λ s t p b h. cc;
      after_read = λ s t p h. cc;
      byte_read = λ s t p h. cc;
      after_clock = λ s t h. cc;
      after_line = λ s t p l high h. cc;
      after_acknowledge = λ s t iei h. cc;
      after_return = λ s t iei h. cc;
      after_reset = λ s t h. cc;
      waiting_bytes = λ s t h. cc;
    }
