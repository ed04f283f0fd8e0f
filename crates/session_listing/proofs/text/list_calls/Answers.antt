use Rattle.std.proofs.Common.{length, ap, sym, ◌∙◌, arith}
use Rattle.session_listing.proofs.Steps.{lines_more, lines_none}
use Rattle.session_listing.proofs.text.list_calls.Goals as goal

pub loop-place-preserved : goal.loop-place-preserved
loop-place-preserved c =
    let steps = c.in-Some.ensures.steps in
    record {
      lines = lines_more _ _ _ _ _ _ _ _ steps.0 steps.1 steps.2 c.in_ok-writeln.ensures.bytes ∙ c.loop-place.invariant.lines;
      few = omega (arith, ap length steps.0);
    }

pub returns : goal.returns
returns c = sym (lines_none _ _ _ c.in-None.ensures.steps.0.0) ∙ c.loop-place.invariant.lines
