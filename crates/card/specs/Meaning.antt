-- What a card means, and what the calls of the interrupt chain make of it.
use Rattle.std.specs.Prelude.{ℕ, Bool, cond, not, ◌&&◌, Some, None, Option, is_some}
use Rattle.ranks.specs.Ranks.{adding, removing, highest, how_many, above}
use Rattle.card.specs.declared.refusals.Refusal.{Refusal}

pub record Meaning : Type 0 where
  -- the number of requests, whose ranks are those below it
  pub size : ℕ
  -- the ranks that wait, and those in service
  pub waiting : ℕ → Bool
  pub service : ℕ → Bool
  -- the vector byte of each rank, and whether its service is kept
  pub vector : ℕ → ℕ
  pub kept : ℕ → Bool
  -- the ports that the card takes
  pub ports : ℕ → Bool
  -- which calls it refuses, and why: a write of a byte to a port, a read of a port, a change of a line to a level
  pub write_refusal : ℕ → ℕ → Option Refusal
  pub read_refusal : ℕ → Option Refusal
  pub line_refusal : ℕ → ℕ → Bool → Option Refusal

abbrev pub highest_waiting : Meaning → Option ℕ
highest_waiting m = highest m.size m.waiting

abbrev pub highest_in_service : Meaning → Option ℕ
highest_in_service m = highest m.size m.service

-- how many ranks wait
abbrev pub waiting_number : Meaning → ℕ
waiting_number m = how_many m.size m.waiting

-- a waiting rank is above every rank in service
unfoldable pub asks : Meaning → Bool
asks m = above (highest_waiting m) (highest_in_service m)

unfoldable pub waits : Meaning → Bool
waits m = is_some (highest_waiting m)

unfoldable pub serves : Meaning → Bool
serves m = is_some (highest_in_service m)

-- nothing waits, and nothing is in service
unfoldable pub quiet : Meaning → Bool
quiet m = not (waits m) && not (serves m)

-- the same meaning but for the two sets
unfoldable pub with_sets : Meaning → (ℕ → Bool) → (ℕ → Bool) → Meaning
with_sets m w s =
    record {
      size = m.size;
      waiting = w;
      service = s;
      vector = m.vector;
      kept = m.kept;
      ports = m.ports;
      write_refusal = m.write_refusal;
      read_refusal = m.read_refusal;
      line_refusal = m.line_refusal;
    }

-- the rank stops waiting, and enters service if its service is kept
unfoldable pub rank_taken : Meaning → Option ℕ → Meaning
rank_taken m None = m
rank_taken m (Some r) = with_sets m (removing r m.waiting) (cond (m.kept r) (adding r m.service) m.service)

-- the rank leaves service
unfoldable pub rank_ended : Meaning → Option ℕ → Meaning
rank_ended m None = m
rank_ended m (Some r) = with_sets m m.waiting (removing r m.service)

unfoldable pub vector_of : Meaning → Option ℕ → Option ℕ
vector_of m None = None
vector_of m (Some r) = Some (m.vector r)

-- the interrupt line: the card pulls it exactly when IEI is high and it asks
unfoldable pub pulls : Bool → Meaning → Bool
pulls iei m = iei && asks m

-- an acknowledge: a card that pulls takes its highest waiting rank, and its vector is the answer
unfoldable pub rank_acknowledged : Bool → Meaning → Option ℕ
rank_acknowledged iei m = cond (pulls iei m) (highest_waiting m) None

unfoldable pub vector_answered : Bool → Meaning → Option ℕ
vector_answered iei m = vector_of m (rank_acknowledged iei m)

unfoldable pub meaning_acknowledged : Bool → Meaning → Meaning
meaning_acknowledged iei m = rank_taken m (rank_acknowledged iei m)

-- a return: with IEI high, the highest rank in service, if any, leaves it
unfoldable pub rank_returned : Bool → Meaning → Option ℕ
rank_returned iei m = cond iei (highest_in_service m) None

unfoldable pub meaning_returned : Bool → Meaning → Meaning
meaning_returned iei m = rank_ended m (rank_returned iei m)

-- IEO, and IEO during a return
unfoldable pub ieo_of : Bool → Meaning → Bool
ieo_of iei m = iei && quiet m

unfoldable pub ieo_during_return : Bool → Meaning → Bool
ieo_during_return iei m = iei && not (serves m)
