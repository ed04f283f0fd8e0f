-- Following one channel of a CTC, and its request, through calls.
use Rattle.std.proofs.Common.{◌≡◌, ℕ, zero, suc, ◌+◌, ◌%◌, ◌<◌, Bool, true, false, cond, ◌&&◌, ◌||◌, eqb, leb, length, mod-eq_of_lt, arith}
use native.Mathlib.Nat.{mod_self}
use Rattle.std.proofs.lemmas.List.{length-set, get_or-set_same, get_or-set_other}
use Rattle.std.proofs.lemmas.Bool.Decides.{nat_tests}
use Rattle.ranks.specs.declared.set.RankSet.{RankSet}
use Rattle.ranks.specs.Ranks.{adding}
use Rattle.ranks.specs.RankSets.{ranks, inserted, intersected}
use Rattle.ranks.proofs.RankSets.{inserted_in_both}
use Rattle.count_stage.specs.Stage.{started}
use Rattle.ctc_channel.specs.declared.channel.Phase.TheVariants.{Running}
use Rattle.ctc_channel.specs.declared.channel.Channel.{Channel}
use Rattle.ctc.specs.declared.chip.Ctc.{Ctc}
use Rattle.ctc.specs.Numbers.{channel_of, rank_of}
use Rattle.ctc.specs.Chip.{takes, channel_at, four_ranks, channel_became, written}
use Rattle.ctc.specs.Runs.{after, requests, Starts}
use Rattle.ctc.specs.FourRanks.{four}

-- a card that takes the port: what the port's channel is, and whether it requests
pub record Seen (port : ℕ) (c : Ctc) (x : Channel) (w : Bool) : Type 0 where
  pub taken : takes c port ≡ true
  pub whole : length c.channels ≡ 4
  pub channel : channel_at (channel_of port) c ≡ x
  pub requested : requests (channel_of port) c ≡ w

rank_raised : (j k : ℕ) (w : RankSet) → j < 4 → ranks (intersected (inserted (rank_of j) w) four_ranks) (rank_of k) ≡ (eqb (rank_of k) (rank_of j) || ranks (intersected w four_ranks) (rank_of k))
unfolding adding
rank_raised j k w h = rw (inserted_in_both (rank_of j) w four_ranks (omega arith) (grind (arith, nat_tests, four (rank_of j))))

-- channel j changes
pub seen_became : (port j : ℕ) {c : Ctc} {x : Channel} {w : Bool} → Seen port c x w → j < 4 → (y : Channel) (raises : Bool)
    → Seen port (channel_became j y raises c) (cond (eqb (channel_of port) j) y x) (cond (eqb (channel_of port) j) (raises || w) w)
seen_became port j s h y raises = grind (arith, nat_tests, length-set {A = Channel}, get_or-set_same {A = Channel}, get_or-set_other {A = Channel}, rank_raised)

-- rounds of calls: round n, counted from 0, raises the request where n + 1 is a multiple of P, if i is set
module _ (port P : ℕ) (i : Bool) (positive : 0 < P) (next : Ctc → Ctc) (channel : ℕ → Channel)
    (round : (n : ℕ) (c : Ctc) (w : Bool) → Seen port c (channel n) w → Seen port (next c) (channel (suc n)) ((eqb ((n + 1) % P) 0 && i) || w)) where
  pub seen_after : (c : Ctc) (w : Bool) → Seen port c (channel 0) w → (n : ℕ) → Seen port (after n next c) (channel n) (w || (i && leb P n))
  unfolding after
  seen_after c w s zero = grind (arith, nat_tests)
  seen_after c w s (suc n) = grind (arith, nat_tests, mod-eq_of_lt, mod_self P, round n (after n next c) (w || (i && leb P n)) (seen_after c w s n))

-- a constant that sets its channel running
abbrev pub begun : ℕ → Channel → Channel
begun t x = record { stage = started t; control = x.control; phase = Running; awaits = false; level = x.level }

pub seen_started : (c : Ctc) (port t : ℕ) → Starts c port t → Seen port (written c port t) (begun t (channel_at (channel_of port) c)) (requests (channel_of port) c)
seen_started c port t starts = grind (arith, length-set {A = Channel}, get_or-set_same {A = Channel})
