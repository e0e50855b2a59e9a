use Rattle.std.proofs.Common.{◌≤◌, arith}
use Rattle.std.proofs.lemmas.Result.{IfErr-weaker, IfOk-weaker}
use Rattle.ddm_words.specs.Views.{check_from}
use Rattle.ddm_cli.proofs.Verdicts.{verdict_refused, verdict_taken}
use Rattle.ddm_cli.proofs.checking.witness_lines.Goals as goal

pub returns-clause-taken : goal.returns-clause-taken
returns-clause-taken g c =
    let told = g.F.Shelf.told c.args.files.now in
    let comes = rw (c.setting_file.ensures.same, c.tree_file.ensures.same) at c.lines_in.ensures.comes in
    IfOk-weaker c.lines_in.result _ _ (λ lines is. verdict_taken (told c.args.check.tree.now) (told c.args.check.image.now) (told c.args.check.witness.now) c.in_ok-tree.tree c.in_ok-reader.reader lines c.in_ok-tree.ensures.found (rw c.tree_file.ensures.same at c.in_ok-reader.ensures.found) is) comes

pub returns-clause-refused : goal.returns-clause-refused
returns-clause-refused g c =
    let check = check_from c.args.check in
    let before = g.F.Shelf.faults c.setting_file.new.files check.witness in
    let cause = rw (c.setting_file.ensures.same, c.tree_file.ensures.same) at c.lines_in.ensures.cause in
    let earlier : g.F.Shelf.faults c.args.files.now check.witness ≤ before = omega (arith, c.tree_file.ensures.later check.witness, c.setting_file.ensures.later check.witness) in
    IfErr-weaker c.lines_in.result _ _ (verdict_refused g.F.Shelf.told g.F.Shelf.faults c.args.files.now c.lines_in.new.files check c.in_ok-tree.tree c.in_ok-reader.reader before c.in_ok-tree.ensures.found (rw c.tree_file.ensures.same at c.in_ok-reader.ensures.found) earlier) cause
