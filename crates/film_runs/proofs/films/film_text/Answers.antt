use Rattle.std.proofs.Common.{◌++◌, length, ap, ◌∙◌}
use Rattle.film_runs.specs.AnyMachine.Any.{machine_state}
use Rattle.film_runs.proofs.WholeFilm.{reported, whole_film}
use Rattle.film_runs.proofs.films.film_text.Goals as goal

pub returns-clause-text : goal.returns-clause-text
returns-clause-text c =
    let tree = c.args.tree.now in
    let turns = c.args.turns.now in
    let m = (machine_state c.args.machine.now).machine in
    let told = reported c.in_ok-report.report.items (length tree.levels) turns m (machine_state c.film_turns.new.machine).machine c.in_ok-counts.counts c.in_ok-report.ensures c.in_ok-counts.ensures.machine c.in_ok-counts.ensures.counts c.requires.depth in
    whole_film c.new-text.result.items c.push_head.new.out.items c.push_valued.new.out.items c.film_turns.new.text.items c.extend_from_slice.new.self.items c.in_ok-report.report.items tree turns m c.begin.new.self.before
    c.new-text.ensures.items c.in_ok-push_head.ensures c.in_ok-push_valued.ensures c.in_ok-begin.ensures c.in_ok-counts.ensures.text
    (c.in_ok-extend_from_slice.ensures.items ∙ ap (λ x. c.film_turns.new.text.items ++ x) c.deref.ensures.value) told
