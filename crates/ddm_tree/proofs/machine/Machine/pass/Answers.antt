-- A turn that is known to change nothing.
use Rattle.std.proofs.Common.{◌≡◌, ◌+◌, map, true, false, Some, vec_items, sym, ap, subst, ◌∙◌}
use Rattle.ddm_tree.specs.DdmTypes.declared.answers.TurnAnswer.{TurnAnswer}
use Rattle.ddm_tree.specs.DdmTypes.Keys.{stamp_zero}
use Rattle.ddm_tree.specs.TreeModel.State.Values.{dir_node, nodes, root_of}
use Rattle.ddm_tree.specs.TreeModel.State.Shape.{widths_bounded}
use Rattle.ddm_tree.specs.TreeModel.Turns.Machine.{names_part, turn_of}
use Rattle.ddm_tree.specs.Machine.{IsMachine, MachineState, machine_of, state_after}
use Rattle.ddm_tree.specs.Path.{present_at}
use Rattle.ddm_tree.specs.Quiet.{is_hart_turn, known_as, passed_as}
use Rattle.ddm_tree.proofs.MachineKept.{turn-keeps}
use Rattle.ddm_tree.proofs.QuietColumns.{column-few}
use Rattle.ddm_tree.proofs.QuietPass.{passed-turn}
use Rattle.ddm_tree.proofs.QuietTurns.{known-passed}
use Rattle.ddm_tree.proofs.TurnMade.{part-found}
use Rattle.ddm_tree.proofs.machine.Machine.pass.Goals as goal
use Rattle.ddm_tree.proofs.machine.Machine.pass.Given

-- the machine before, in the tables' words
abbrev before : (g : Given.Over) → goal.After-self-1 g → MachineState
before g c = record { machine = machine_of c.self.inside.code c.self.inside.items c.self.inside.top (map g.C.Agent.value c.self.inside.children.items) c.self.inside.ops.items c.self.inside.traffic.items; spare = c.self.inside.spare; turns = c.self.inside.turns }

-- the turn changes nothing but the number of turns
passed : (g : Given.Over) (c : goal.After-self-1 g) → (state_after c.args.turn.now (before g c) ≡ record (before g c) { turns = c.self.inside.turns + 1 }) × (passed_as (turn_of c.args.turn.now (before g c).machine).answer ≡ Some c.in_ok-busy.busy) × (is_hart_turn c.args.turn.now ≡ false → (turn_of c.args.turn.now (before g c).machine).answer ≡ TurnAnswer.Empty)
passed g c =
    let root = dir_node c.self.inside.top (nodes (map g.C.Agent.value c.self.inside.children.items)) in
    let inv = c.self.invariant in
    let named : names_part c.args.turn.now (before g c).machine ≡ true = subst (λ s. names_part c.args.turn.now s.machine ≡ true) (sym c.self.view_is) c.requires.named in
    let found = part-found g.row.WORDS c.self.inside.turns (map vec_items c.self.inside.leaf_paths.items) (map vec_items c.self.inside.bus_paths.items) c.args.turn.now (before g c).machine inv.0 named in
    let known : known_as c.args.turn.now c.self.inside.quiet.items ≡ Some c.in_ok-busy.busy = ap (known_as c.args.turn.now) (sym c.deref.ensures.value) ∙ sym {a = Some c.in_ok-busy.busy} {b = known_as c.args.turn.now c.deref.result.now} c.in_ok-busy.ensures in
    let is = known-passed c.self.inside.code c.self.inside.items c.args.turn.now c.in_ok-busy.busy found.path (present_at found.path stamp_zero root) root c.self.inside.quiet.items c.self.inside.idle found.leads inv.6 inv.7 inv.5 known in
    passed-turn c.args.turn.now c.in_ok-busy.busy (before g c) found.path found.leads is

pub known_as-requires : goal.known_as-requires
known_as-requires g c =
    let m = machine_of c.self.inside.code c.self.inside.items c.self.inside.top (map g.C.Agent.value c.self.inside.children.items) c.self.inside.ops.items c.self.inside.traffic.items in
    let inv = c.self.invariant in
    let named : names_part c.args.turn.now m ≡ true = subst (λ s. names_part c.args.turn.now s.machine ≡ true) (sym c.self.view_is) c.requires.named in
    let found = part-found g.row.WORDS c.self.inside.turns (map vec_items c.self.inside.leaf_paths.items) (map vec_items c.self.inside.bus_paths.items) c.args.turn.now m inv.0 named in
    column-few c.args.turn.now found.path (root_of m) (inv.0.shaped.each widths_bounded) found.leads found.child

pub invariant_of-self : goal.invariant_of-self
invariant_of-self g c =
    let inv = c.self.invariant in
    let leaf_paths = map vec_items c.self.inside.leaf_paths.items in
    let bus_paths = map vec_items c.self.inside.bus_paths.items in
    let keeps = turn-keeps g.row.WORDS c.self.inside.turns leaf_paths bus_paths c.args.turn.now (before g c).machine inv.0 in
    (subst (λ n. IsMachine g.row.WORDS n (c.self.inside.turns + 1) leaf_paths bus_paths) (ap (λ s. s.machine) (passed g c).0) keeps, inv.1, inv.2, inv.3, inv.4, inv.5, inv.6, inv.7, inv.8)

pub returns-clause-passed : goal.returns-clause-passed
returns-clause-passed g c = sym (passed g c).0 ∙ ap (state_after c.args.turn.now) c.self.view_is

pub returns-clause-counted : goal.returns-clause-counted
returns-clause-counted g c = subst (λ s. passed_as (turn_of c.args.turn.now s.machine).answer ≡ Some c.in_ok-busy.busy) c.self.view_is (passed g c).1

pub returns-clause-empty : goal.returns-clause-empty
returns-clause-empty g c = λ bus. subst (λ s. (turn_of c.args.turn.now s.machine).answer ≡ TurnAnswer.Empty) c.self.view_is ((passed g c).2 bus)

pub returns-clause-kept : goal.returns-clause-kept
returns-clause-kept g c = ap (λ s. s.machine) c.self.view_is
