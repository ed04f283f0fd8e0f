-- A card's own rules, and the sentences that every card shows.
use Rattle.std.specs.Prelude.{◌≡◌, ℕ, ◌<◌, Bool, true, false, not, ◌&&◌, List, length}
use Rattle.ranks.specs.Ranks.{empty, from_the_top}
use Rattle.card.specs.Refusals.{is_refused, refused_by_1}
use Rattle.card.specs.Meaning.{Meaning, serves, waiting_number, pulls, meaning_acknowledged, meaning_returned}
use Rattle.card.specs.Listing.{SameBytes}

-- What each call leaves of a card, the byte that a read answers, and the bytes of the waiting list.
pub record Rules (S : Type 0) : Type 0 where
  -- the port and the byte
  pub after_write : S → ℕ → ℕ → S
  -- the port
  pub after_read : S → ℕ → S
  pub byte_read : S → ℕ → ℕ
  pub after_clock : S → S
  -- the port, the line and whether it is high
  pub after_line : S → ℕ → ℕ → Bool → S
  -- IEI
  pub after_acknowledge : S → Bool → S
  pub after_return : S → Bool → S
  pub after_reset : S → S
  pub waiting_bytes : S → List ℕ

-- 'same s t' says that t is s unaltered, but for what a layer notes beside the card that it holds.
pub record Unaltered (S : Type 0) (m : S → Meaning) (same : S → S → Type 0) (r : Rules S) : Type 0 where
  pub reflexive : (s : S) → same s s
  pub symmetric : (s t : S) → same s t → same t s
  pub transitive : (s t u : S) → same s t → same t u → same s u
  pub same_meaning : (s t : S) → same s t → m s ≡ m t
  -- no call tells the two apart
  pub after_write : (s t : S) (p b : ℕ) → same s t → same (r.after_write s p b) (r.after_write t p b)
  pub after_read : (s t : S) (p : ℕ) → same s t → same (r.after_read s p) (r.after_read t p)
  pub byte_read : (s t : S) (p : ℕ) → same s t → r.byte_read s p ≡ r.byte_read t p
  pub after_clock : (s t : S) → same s t → same (r.after_clock s) (r.after_clock t)
  pub after_line : (s t : S) (p l : ℕ) (high : Bool) → same s t → same (r.after_line s p l high) (r.after_line t p l high)
  pub after_acknowledge : (s t : S) (iei : Bool) → same s t → same (r.after_acknowledge s iei) (r.after_acknowledge t iei)
  pub after_return : (s t : S) (iei : Bool) → same s t → same (r.after_return s iei) (r.after_return t iei)
  pub after_reset : (s t : S) → same s t → same (r.after_reset s) (r.after_reset t)
  pub waiting_bytes : (s t : S) → same s t → r.waiting_bytes s ≡ r.waiting_bytes t

-- only ranks below the number of requests wait or are in service
pub record RanksBelowSize (m : Meaning) : Type 0 where
  pub waiting : (k : ℕ) → m.waiting k ≡ true → k < m.size
  pub service : (k : ℕ) → m.service k ≡ true → k < m.size

-- what is in service in n is so in m
abbrev pub ServiceOnlyShrinks : Meaning → Meaning → Type 0
ServiceOnlyShrinks m n = (k : ℕ) → n.service k ≡ true → m.service k ≡ true

-- what of the meaning m every write, read, clock and line change keeps in n; the rest is the card's own affair
pub record KeptOnTheBus (m n : Meaning) : Type 0 where
  pub size : n.size ≡ m.size
  pub ports : n.ports ≡ m.ports
  pub service : ServiceOnlyShrinks m n

-- what a reset makes of it
pub record Emptied (m n : Meaning) : Type 0 where
  pub size : n.size ≡ m.size
  pub ports : n.ports ≡ m.ports
  pub waiting : n.waiting ≡ empty
  pub service : n.service ≡ empty

-- a call is refused by 1 exactly where the card does not take the port
pub record RefusedBy1ExactlyOffItsPorts (m : Meaning) : Type 0 where
  pub write : (p b : ℕ) → refused_by_1 (m.write_refusal p b) ≡ not (m.ports p)
  pub read : (p : ℕ) → refused_by_1 (m.read_refusal p) ≡ not (m.ports p)
  pub line : (p l : ℕ) (high : Bool) → refused_by_1 (m.line_refusal p l high) ≡ not (m.ports p)

-- the vector of each waiting rank, a byte a rank, in any order
pub record ListsWhatWaits (m : Meaning) (bytes : List ℕ) : Type 0 where
  pub byte_a_rank : length bytes ≡ waiting_number m
  pub vectors : SameBytes bytes (from_the_top m.size m.waiting m.vector)

pub record Sentences (S : Type 0) (m : S → Meaning) (same : S → S → Type 0) (r : Rules S) : Type 0 where
  pub unaltered : Unaltered S m same r
  pub ranks_below_size : (s : S) → RanksBelowSize (m s)
  pub refused_by_1_exactly_off_its_ports : (s : S) → RefusedBy1ExactlyOffItsPorts (m s)
  pub list_is_of_what_waits : (s : S) → ListsWhatWaits (m s) (r.waiting_bytes s)
  -- the chain
  pub acknowledge_takes_the_highest : (s : S) (iei : Bool) → m (r.after_acknowledge s iei) ≡ meaning_acknowledged iei (m s)
  pub acknowledge_without_a_pull_alters_nothing : (s : S) (iei : Bool) → pulls iei (m s) ≡ false → same s (r.after_acknowledge s iei)
  pub return_ends_the_highest : (s : S) (iei : Bool) → m (r.after_return s iei) ≡ meaning_returned iei (m s)
  pub return_without_service_alters_nothing : (s : S) (iei : Bool) → (iei && serves (m s)) ≡ false → same s (r.after_return s iei)
  pub reset_empties : (s : S) → Emptied (m s) (m (r.after_reset s))
  -- the bus
  pub write_keeps : (s : S) (p b : ℕ) → KeptOnTheBus (m s) (m (r.after_write s p b))
  pub read_keeps : (s : S) (p : ℕ) → KeptOnTheBus (m s) (m (r.after_read s p))
  pub clock_keeps : (s : S) → KeptOnTheBus (m s) (m (r.after_clock s))
  pub line_keeps : (s : S) (p l : ℕ) (high : Bool) → KeptOnTheBus (m s) (m (r.after_line s p l high))
  pub refused_write_alters_nothing : (s : S) (p b : ℕ) → is_refused ((m s).write_refusal p b) ≡ true → same s (r.after_write s p b)
  pub refused_read_alters_nothing : (s : S) (p : ℕ) → is_refused ((m s).read_refusal p) ≡ true → same s (r.after_read s p)
  pub refused_line_alters_nothing : (s : S) (p l : ℕ) (high : Bool) → is_refused ((m s).line_refusal p l high) ≡ true → same s (r.after_line s p l high)
