use Rattle.std.proofs.Common.{◌≤◌, arith}
use Rattle.std.proofs.lemmas.Result.{IfErr-weaker, IfOk-weaker}
use Rattle.ddm_cli.specs.AnyMachine.Any.{machine_state}
use Rattle.ddm_words.specs.Commands.{paged_run}
use Rattle.ddm_cli.specs.DdmTypes.ItemTable.{item_count}
use Rattle.ddm_words.specs.Views.{paged_from}
use Rattle.ddm_words.specs.declared.command.Prints.TheVariants.{Report}
use Rattle.ddm_cli.proofs.Pages.{page_taken, paged_caused}
use Rattle.ddm_cli.proofs.Taken.{ran_refused}
use Rattle.ddm_cli.proofs.paging.page_said.Goals as goal

pub page_read-page-requires-clause-start : goal.page_read-page-requires-clause-start
page_read-page-requires-clause-start g c = let found = c.in_ok-machine.ensures.found in (found.0, found.1, found.2)

pub returns-clause-taken : goal.returns-clause-taken
returns-clause-taken g c =
    let told = g.F.Shelf.told c.args.files.now in
    let p = paged_from c.args.paged in
    let found = c.in_ok-machine.ensures.found in
    let image = rw c.tree_file.ensures.same at found.3 in
    let page = rw (c.first_machine.ensures.same, c.tree_file.ensures.same) at c.page_read-page.ensures.page in
    IfOk-weaker c.page_read-page.result _ _ (λ text is. page_taken c.in_ok-tree.tree found.0 (machine_state c.in_ok-machine.machine) text.items found.1 (told p.tree) (told p.image) (told p.schedule) c.in_ok-tree.ensures.found image is) page

pub returns-clause-refused : goal.returns-clause-refused
returns-clause-refused g c =
    let told = g.F.Shelf.told c.args.files.now in
    let faults = g.F.Shelf.faults in
    let p = paged_from c.args.paged in
    let t = c.in_ok-tree.tree in
    let s = machine_state c.in_ok-machine.machine in
    let found = c.in_ok-machine.ensures.found in
    let image = rw c.tree_file.ensures.same at found.3 in
    let before = faults c.first_machine.new.files p.schedule in
    let cause = rw (c.first_machine.ensures.same, c.tree_file.ensures.same) at c.page_read-page.ensures.cause in
    let earlier : faults c.args.files.now p.schedule ≤ before = omega (arith, c.tree_file.ensures.later p.schedule, c.first_machine.ensures.later p.schedule) in
    IfErr-weaker c.page_read-page.result _ _ (λ status is.
    ran_refused g.F.Shelf.told faults c.args.files.now c.page_read-page.new.files Report (paged_run p) t found.0 s before c.in_ok-tree.ensures.found image found.1 earlier status
    (paged_caused t (item_count s.machine.items) (told p.schedule) before (faults c.page_read-page.new.files p.schedule) status is)) cause
