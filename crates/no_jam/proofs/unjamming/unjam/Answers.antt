use Rattle.std.proofs.Common.{◌≡◌, sym, ap, ◌∙◌}
use Rattle.any_machine.specs.Any.{machine_state}
use Rattle.jam_laws.proofs.NoJam.{none-named}
use Rattle.no_jam.proofs.LeafWaits.{first-named, named-there, rules-of}
use Rattle.no_jam.proofs.unjamming.unjam.Goals as goal

pub returns-then-some_leaf_waits-clause-first : goal.returns-then-some_leaf_waits-clause-first
returns-then-some_leaf_waits-clause-first c =
    let m = (machine_state c.args.machine.now).machine in
    first-named m c.first_granted.result (named-there m c.first_granted.result (sym c.some_leaf_waits.ensures ∙ c.if-some_leaf_waits.true) c.first_granted.ensures)

pub returns-then-some_leaf_waits-clause-none : goal.returns-then-some_leaf_waits-clause-none
returns-then-some_leaf_waits-clause-none c = λ none.
    let m = (machine_state c.args.machine.now).machine in
    none-named m c.counts.ensures.shape (rules-of m c.counts.ensures.rules) c.requires.large (sym (named-there m c.first_granted.result (sym c.some_leaf_waits.ensures ∙ c.if-some_leaf_waits.true) c.first_granted.ensures) ∙ none)
