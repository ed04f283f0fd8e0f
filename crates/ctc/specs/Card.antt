-- The CTC as a card: its meaning, and its rules.
use Rattle.std.specs.Prelude.{ℕ, true, Some, None, Option}
use Rattle.ranks.specs.Ranks.{from_the_top}
use Rattle.ranks.specs.RankSets.{ranks}
use Rattle.card.specs.Meaning.{Meaning, rank_acknowledged, rank_returned}
use Rattle.card.specs.Sentences.{Rules}
use Rattle.ctc.specs.declared.chip.Ctc.{Ctc}
use Rattle.ctc.specs.Chip.{takes, waiting_set, service_set, vector_at, with_taken, with_ended, ctc_reset, ctc_clocked, write_refusal, written, read_refusal, counter_at, line_refusal, line_set}

-- a CTC has four requests, and always keeps service
abbrev pub ctc_meaning : Ctc → Meaning
ctc_meaning c =
    record {
      size = 4;
      waiting = ranks (waiting_set c);
      service = ranks (service_set c);
      vector = vector_at c;
      kept = λ rank. true;
      ports = takes c;
      write_refusal = write_refusal c;
      read_refusal = read_refusal c;
      line_refusal = λ port line high. line_refusal c port line;
    }

-- the rank, if there is one, is taken or leaves service
abbrev pub taken_if_any : Option ℕ → Ctc → Ctc
taken_if_any None c = c
taken_if_any (Some r) c = with_taken r c

abbrev pub ended_if_any : Option ℕ → Ctc → Ctc
ended_if_any None c = c
ended_if_any (Some r) c = with_ended r c

abbrev pub ctc_rules : Rules Ctc
ctc_rules =
    record {
      after_write = written;
      after_read = λ c port. c;
      byte_read = counter_at;
      after_clock = ctc_clocked;
      after_line = line_set;
      after_acknowledge = λ c iei. taken_if_any (rank_acknowledged iei (ctc_meaning c)) c;
      after_return = λ c iei. ended_if_any (rank_returned iei (ctc_meaning c)) c;
      after_reset = ctc_reset;
      waiting_bytes = λ c. from_the_top 4 (ranks (waiting_set c)) (vector_at c);
    }
