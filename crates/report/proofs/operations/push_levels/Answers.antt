use Rattle.std.proofs.Common.{◌≡◌, sym, arith}
use Rattle.std.proofs.lemmas.List.{append-nil}
use Rattle.report.specs.DdmText.Adds.{◌▸◌}
use Rattle.report.proofs.Keys.{no_level, one_level, two_levels, three_levels, four_levels}
use Rattle.report.proofs.operations.push_levels.Goals as goal

pub returns-then-depth-eq0-clause-text : goal.returns-then-depth-eq0-clause-text
returns-then-depth-eq0-clause-text g c =
    let is : c.args.depth ≡ 0 = omega arith in
    rw (is, no_level c.args.key) (record { is = sym (append-nil (g.W.TextBuffer.text c.args.out.now)) })

pub returns-then-depth-eq1-clause-text : goal.returns-then-depth-eq1-clause-text
returns-then-depth-eq1-clause-text g c =
    let is : c.args.depth ≡ 1 = omega arith in
    rw (is, one_level c.args.key) c.in_ok-push_level.ensures.text

pub returns-then-depth-eq2-clause-text : goal.returns-then-depth-eq2-clause-text
returns-then-depth-eq2-clause-text g c =
    let is : c.args.depth ≡ 2 = omega arith in
    rw (is, two_levels c.args.key) (c.in_ok-push_level.ensures.text ▸ c.in_ok-push_level-2.ensures.text)

pub returns-then-depth-eq3-clause-text : goal.returns-then-depth-eq3-clause-text
returns-then-depth-eq3-clause-text g c =
    let is : c.args.depth ≡ 3 = omega arith in
    rw (is, three_levels c.args.key) (c.in_ok-push_level.ensures.text ▸ c.in_ok-push_level-2.ensures.text ▸ c.in_ok-push_level-3.ensures.text)

pub returns-clause-text : goal.returns-clause-text
returns-clause-text g c =
    let is : c.args.depth ≡ 4 = omega arith in
    rw (is, four_levels c.args.key) (c.in_ok-push_level.ensures.text ▸ c.in_ok-push_level-2.ensures.text ▸ c.in_ok-push_level-3.ensures.text ▸ c.in_ok-push_level-4.ensures.text)
