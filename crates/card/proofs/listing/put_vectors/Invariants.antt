use Rattle.std.proofs.Common.{◌≡◌, ℕ, ◌+◌, ◌≤◌, List, length, map}
use Rattle.std.specs.Iterator.Adapters.{enumerate_source, enumerate_count}
use Rattle.std.proofs.lemmas.List.Edits.{sets}
use Rattle.ranks.specs.RankLists.{rank_list, ranks_left}
use Rattle.card.proofs.listing.put_vectors.Given as goal

-- the vectors of all ranks are put into what was the buffer at first, but for those of the ranks left, which come from
-- place i on
abbrev pub invariant-loop-place : goal.invariant-loop-place
invariant-loop-place g l =
    let v : ℕ → ℕ = g.C.Vectors.vectors l.card in
    let i : ℕ = enumerate_count l.place-iterator in
    let left : List ℕ = ranks_left (enumerate_source l.place-iterator) in
    record {
      put : sets l.buffer i (map v left) ≡ sets l.fn.buffer 0 (map v (rank_list l.fn.waiting));
      room : i + length left ≤ length l.buffer;
    }
