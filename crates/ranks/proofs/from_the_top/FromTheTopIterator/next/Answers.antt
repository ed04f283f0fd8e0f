use Rattle.std.proofs.Common.{rules, sym, ◌∙◌, ap, length}
use Rattle.ranks.proofs.RankLists.{rank_list_none, rank_list_first}
use Rattle.ranks.proofs.from_the_top.FromTheTopIterator.next.Goals as goal

pub returns-in_err-rank-clause-steps : goal.returns-in_err-rank-clause-steps
returns-in_err-rank-clause-steps c = let e = rank_list_none c.args.self.now.left (sym c.in_err-rank.was ∙ c.highest.ensures) in search rules

pub returns-clause-steps : goal.returns-clause-steps
returns-clause-steps c = rank_list_first _ _ _ (sym c.in_ok-rank.was ∙ c.highest.ensures) c.remove.ensures.ranks

pub returns-clause-goes : goal.returns-clause-goes
returns-clause-goes c = search (rules, ap length (returns-clause-steps c))
