use Rattle.std.proofs.Common.{◌++◌, ◌∙◌, List, ℕ, sym, ap, subst}
use Rattle.film_runs.specs.AnyMachine.Any.{machine_state}
use Rattle.film_runs.specs.DdmText.Adds.{alone}
use Rattle.film_runs.specs.Film.Filmed.{IsFilmed}
use Rattle.film_runs.specs.Levels.{bus_levels}
use Rattle.film_runs.specs.TreeModel.State.Shape.{IsShaped, depth_of}
use Rattle.film_runs.proofs.StartFilmed.{first_depth, first_filmed, first_shaped}
use Rattle.film_runs.proofs.WholePage.{whole_page}
use Rattle.film_runs.proofs.pages.page_text.Goals as goal

pub film_text-requires-clause-depth : goal.film_text-requires-clause-depth
film_text-requires-clause-depth c =
    let f = c.requires.first in
    ap depth_of f.is ∙ first_depth c.args.tree.now f.image f.tree f.accepted

pub film_text-requires-clause-shape : goal.film_text-requires-clause-shape
film_text-requires-clause-shape c =
    let f = c.requires.first in
    subst IsShaped (sym f.is) (first_shaped c.args.tree.now f.image f.tree f.accepted)

pub film_text-requires-clause-filmed : goal.film_text-requires-clause-filmed
film_text-requires-clause-filmed c =
    let f = c.requires.first in
    let t = c.args.tree.now in
    let levels = c.deref.ensures.value ∙ alone c.in_ok-push_levels.ensures c.new-levels.ensures.items in
    let filmed = first_filmed t f.image f.tree f.accepted f.bytes (rw f.is at f.buses) in
    subst (λ (ls : List ℕ). IsFilmed ls (machine_state c.args.machine.now).machine) (sym levels) (subst (IsFilmed (bus_levels t)) (sym f.is) filmed)

pub returns : goal.returns
returns c =
    let m = (machine_state c.args.machine.now).machine in
    whole_page c.new-text.result.items c.push_front.new.out.items c.extend_from_slice.new.self.items c.push_back.new.out.items c.in_ok-film.film.items c.args.tree.now c.args.turns.now m
    c.new-text.ensures.items c.in_ok-push_front.ensures
    (c.in_ok-extend_from_slice.ensures.items ∙ ap (λ x. c.push_front.new.out.items ++ x) c.deref-2.ensures.value)
    c.in_ok-film.ensures.text c.in_ok-push_back.ensures
