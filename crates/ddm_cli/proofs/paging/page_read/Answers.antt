use Rattle.std.proofs.Common.{List, subst, sym, ap, ◌∙◌}
use Rattle.ddm_cli.specs.DdmTypes.declared.turns.Turn.{Turn}
use Rattle.ddm_cli.specs.AnyMachine.Any.{machine_state}
use Rattle.ddm_cli.specs.AnyRuns.Run.{CanRun, NameParts}
use Rattle.film_runs.specs.Paged.{page_of}
use Rattle.ddm_cli.proofs.Pages.{first_few, first_named, is_first}
use Rattle.ddm_cli.proofs.paging.page_read.Goals as goal

pub page_text-requires-clause-first : goal.page_text-requires-clause-first
page_text-requires-clause-first g c =
    let start = c.requires.start in
    is_first c.args.tree.now start.0 (machine_state c.args.machine.now) c.requires.tree start.1 start.2

pub page_text-requires-clause-named : goal.page_text-requires-clause-named
page_text-requires-clause-named g c =
    let start = c.requires.start in
    subst (λ (ts : List Turn). NameParts ts (machine_state c.args.machine.now).machine) (sym c.deref.ensures.value)
    (first_named c.args.tree.now start.0 (machine_state c.args.machine.now) c.requires.tree start.1 c.in_ok-turns.turns.items c.in_ok-turns.ensures.given)

pub page_text-requires-clause-few : goal.page_text-requires-clause-few
page_text-requires-clause-few g c =
    let start = c.requires.start in
    subst (λ (ts : List Turn). CanRun ts (machine_state c.args.machine.now)) (sym c.deref.ensures.value)
    (first_few c.args.tree.now start.0 (machine_state c.args.machine.now) c.requires.tree start.1 c.in_ok-turns.turns.items c.in_ok-turns.ensures.given)

pub returns-clause-page : goal.returns-clause-page
returns-clause-page g c = record {
  turns = c.in_ok-turns.turns.items;
  accepted = c.in_ok-turns.ensures.accepted;
  text_is = c.in_ok-page_text.ensures ∙ ap (λ (ts : List Turn). page_of c.args.tree.now ts (machine_state c.args.machine.now).machine) c.deref.ensures.value;
}
