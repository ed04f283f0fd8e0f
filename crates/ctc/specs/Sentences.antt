-- A CTC shows every sentence on cards.
use Rattle.std.specs.Prelude.{◌≡◌, ℕ, ◌<◌, Some, None, Option, refl}
use Rattle.std.proofs.Common.{arith, ◌∙◌}
use Rattle.std.proofs.lemmas.Bool.{lt-ltb}
use Rattle.ranks.proofs.Sets.{from_the_top_length}
use Rattle.ranks.proofs.RankSets.{ranks_none, removed_from_both, inserted_in_both}
use Rattle.card.specs.Refusals.{is_refused, refused_by_1}
use Rattle.card.specs.Meaning.{rank_acknowledged, rank_returned, with_sets, rank_taken, rank_ended, meaning_acknowledged, meaning_returned}
use Rattle.card.specs.Sentences.{KeptOnTheBus, Sentences}
use Rattle.card.proofs.Meanings.{acknowledged_waits, no_pull_takes_none, no_service_ends_none, nothing_moved}
use Rattle.card.proofs.PlainCards.{plain_unaltered}
use Rattle.ctc.specs.declared.chip.Ctc.{Ctc}
use Rattle.ctc.specs.Chip.{four_ranks, written, line_set}
use Rattle.ctc.specs.Card.{ctc_meaning, taken_if_any, ended_if_any, ctc_rules}
use Rattle.ctc.specs.FourRanks.{four, below_four}

-- an acknowledge and a return
taken_means : (c : Ctc) (o : Option ℕ) → ((r : ℕ) → Some r ≡ o → r < 4) → ctc_meaning (taken_if_any o c) ≡ rank_taken (ctc_meaning c) o
unfolding rank_taken with_sets
taken_means c None h = refl
taken_means c (Some r) h =
    let l : r < 4 = h r refl in
    rw (removed_from_both, inserted_in_both r c.service four_ranks (omega arith) (four r ∙ lt-ltb r 4 l))

ended_means : (c : Ctc) (o : Option ℕ) → ctc_meaning (ended_if_any o c) ≡ rank_ended (ctc_meaning c) o
unfolding rank_ended with_sets
ended_means c None = refl
ended_means c (Some r) = rw (removed_from_both r c.service four_ranks)

-- a call on the bus that leaves port and service
keeps : (c d : Ctc) → c.port ≡ d.port → c.service ≡ d.service → KeptOnTheBus (ctc_meaning c) (ctc_meaning d)
keeps c d p s = record { size = refl; ports = rw p; service = λ r h. rw s h }

pub ctc_sentences : Sentences Ctc ctc_meaning (λ c d. c ≡ d) ctc_rules
unfolding meaning_acknowledged meaning_returned is_refused refused_by_1
ctc_sentences =
    record {
      unaltered = plain_unaltered ctc_meaning ctc_rules;
      ranks_below_size = λ c. record { waiting = below_four c.waiting; service = below_four c.service };
      refused_by_1_exactly_off_its_ports = λ c. record { write = λ p b. grind arith; read = λ p. grind arith; line = λ p l high. grind arith };
      list_is_of_what_waits = λ c. record { byte_a_rank = from_the_top_length 4 _ _; vectors = λ v. refl };
      acknowledge_takes_the_highest = λ c iei.
          taken_means c (rank_acknowledged iei (ctc_meaning c)) (λ r e. (acknowledged_waits iei (ctc_meaning c) r e).0);
      acknowledge_without_a_pull_alters_nothing = λ c iei e. rw (no_pull_takes_none iei (ctc_meaning c) e);
      return_ends_the_highest = λ c iei. ended_means c (rank_returned iei (ctc_meaning c));
      return_without_service_alters_nothing = λ c iei e. rw (no_service_ends_none iei (ctc_meaning c) e);
      reset_empties = λ c. record { size = refl; ports = refl; waiting = ranks_none; service = ranks_none };
      write_keeps = λ c p b. keeps c (written c p b) (grind arith) (grind arith);
      read_keeps = λ c p. nothing_moved (ctc_meaning c);
      clock_keeps = λ c. keeps c _ refl refl;
      line_keeps = λ c p l high. keeps c (line_set c p l high) (grind arith) (grind arith);
      refused_write_alters_nothing = λ c p b h. grind arith;
      refused_read_alters_nothing = λ c p h. refl;
      refused_line_alters_nothing = λ c p l high h. grind arith;
    }
