use Rattle.std.proofs.Common.{◌≡◌, ◌∙◌, ap, sym, get_or, arith}
use Rattle.std.specs.Prelude.{sum_by}
use Rattle.std.proofs.lemmas.List.{take_all}
use Rattle.joining.specs.Said.{times}
use Rattle.join_model.specs.Joined.{with_line, with_table}
use Rattle.joining.proofs.Places.{few-more, no-lines, table-more}
use Rattle.joining.proofs.lines.LineSet.add_all.Goals as goal

pub loop-line-init : goal.loop-line-init
loop-line-init c = record { sum = sym (no-lines c.args.lines.now c.args.self.now.lines.items); alike = c.requires.alike }

pub add-requires-clause-alike : goal.add-requires-clause-alike
add-requires-clause-alike c = c.loop-line.invariant.alike

pub add-requires-clause-few : goal.add-requires-clause-few
add-requires-clause-few c =
    let t = c.args.lines.now in
    let ls = c.args.self.now.lines.items in
    let k = c.loop-line.line-index in
    let l = c.line-item.result in
    let sum = ap (sum_by times) c.loop-line.invariant.sum in
    let here : l.times ≡ (get_or t k l).times = ap times c.line-item.is in
    let few = few-more t ls k l c.loop-line-test.true in
    omega (arith, sum, here, few, c.requires.few)

pub loop-line-preserved : goal.loop-line-preserved
loop-line-preserved c =
    let t = c.args.lines.now in
    let ls = c.args.self.now.lines.items in
    let k = c.loop-line.line-index in
    let l = c.line-item.result in
    record {
      sum = c.in_ok-add.ensures.lines ∙ ap (λ j. with_line j c.loop-line.self.lines.items) c.line-item.is ∙ ap (with_line (get_or t k l)) c.loop-line.invariant.sum ∙ sym (table-more t ls k l c.loop-line-test.true);
      alike = c.in_ok-add.ensures.alike;
    }

pub returns-clause-lines : goal.returns-clause-lines
returns-clause-lines c = c.loop-line.invariant.sum ∙ ap (λ t. with_table t c.args.self.now.lines.items) (take_all c.loop-line.line-index c.args.lines.now c.loop-line-test.false)

pub returns-clause-alike : goal.returns-clause-alike
returns-clause-alike c = c.loop-line.invariant.alike
