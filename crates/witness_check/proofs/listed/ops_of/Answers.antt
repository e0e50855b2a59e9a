use Rattle.std.proofs.Common.{◌-◌, ◌<◌, List, length, take, drop, sym, ap, ◌∙◌, arith}
use Rattle.std.proofs.lemmas.List.{length-drop}
use Rattle.witness_check.proofs.Cuts.{inside, tail_is}
use Rattle.witness_check.proofs.SaidOps.{kept-last, kept-next}
use Rattle.witness_check.proofs.listed.ops_of.Goals as goal

pub returns-in_default : goal.returns-in_default
returns-in_default c =
    let text = c.args.text.now in
    let from = c.lines.from in
    kept-last text (take (length text - from) (drop from text)) from (tail_is text from) c.lines.ops.items c.push_said.new.ops.items c.lines.invariant.kept c.in_default.ensures c.in_ok-push_said.ensures

pub lines-preserved : goal.lines-preserved
lines-preserved c =
    let text = c.args.text.now in
    let from = c.lines.from in
    let end = c.in-Some.end in
    let rest = take (length text - from) (drop from text) in
    let within : end < length rest = inside 10 rest end (sym c.in-Some.ensures) in
    let size = ap (λ (t : List _). length t) (tail_is text from) ∙ length-drop from text in
    record {
      kept = kept-next text rest from (tail_is text from) c.lines.ops.items c.push_said-in-lines.new.ops.items c.lines.invariant.kept end c.in-Some.ensures c.in_ok-push_said-2.ensures;
      within = omega (arith, within, size, c.lines.invariant.within);
    }
