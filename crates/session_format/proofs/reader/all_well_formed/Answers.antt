use Rattle.std.proofs.Common.{rules, ◌∙◌, true, false}
use Rattle.std.proofs.lemmas.Iterator.{YieldsList-from_slice}
use Rattle.std.proofs.lemmas.Iterator.Search.{all_from_yields_List}
use Rattle.session_format.proofs.Shapes.{is_call, formed_by_chunks}
use Rattle.session_format.proofs.reader.all_well_formed.Goals as goal
use borrow.Author.Tests.{tests}

pub returns-then-is_empty : goal.returns-then-is_empty
returns-then-is_empty c =
    all_from_yields_List is_call _ _ _ c.all.ensures.ran (YieldsList-from_slice c.as_chunks.result.0.now cc) (λ x b q k. search (rules, tests))
    ∙ formed_by_chunks true c.args.bytes.now _ _ c.if-is_empty.ensures c.as_chunks.ensures.front c.as_chunks.ensures.back_len

pub returns-else-is_empty : goal.returns-else-is_empty
returns-else-is_empty c =
    c.if-is_empty.false ∙ formed_by_chunks false c.args.bytes.now _ _ c.if-is_empty.ensures c.as_chunks.ensures.front c.as_chunks.ensures.back_len
