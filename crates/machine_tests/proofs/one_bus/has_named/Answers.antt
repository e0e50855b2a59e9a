use Rattle.std.proofs.Common.{◌≡◌, true, subst, sym}
use Rattle.ddm_tree.specs.Machine.{is_part}
use Rattle.machine_tests.specs.TreeModel.Turns.Machine.{names_part}
use Rattle.machine_tests.specs.TreeModel.Turns.Tree.{leaf_of_number}
use Rattle.machine_tests.proofs.Parts.{bus_named, hart_named}
use Rattle.machine_tests.proofs.one_bus.has_named.Goals as goal

pub returns-in-Hart : goal.returns-in-Hart
returns-in-Hart c = λ there.
    let m = c.args.machine.now.machine in
    subst (λ t. names_part t m ≡ true) (sym c.in-Hart.is) (hart_named m c.in-Hart.hart c.in-Hart.victim (subst (λ k. is_part (leaf_of_number k) m ≡ true) c.hart.view_is (c.has_leaf.ensures there)))

pub returns-in-Down : goal.returns-in-Down
returns-in-Down c = λ there.
    let m = c.args.machine.now.machine in
    subst (λ t. names_part t m ≡ true) (sym c.in-Down.is) (bus_named m c.in-Down.bus (c.has_bus.ensures there))
