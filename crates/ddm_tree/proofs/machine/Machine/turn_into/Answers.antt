-- One turn of the machine.
use Rattle.std.proofs.Common.{◌≡◌, ◌≤◌, ◌+◌, ℕ, List, Some, length, map, take, drop, ◌++◌, true, vec_items, refl, sym, ap, subst, ◌∙◌, arith}
use Rattle.ddm_tree.specs.DdmTypes.Keys.{stamp_zero}
use Rattle.ddm_tree.specs.TreeModel.State.Shape.{tree_counts}
use Rattle.ddm_tree.specs.TreeModel.State.Values.{dir_node, nodes, root_of}
use Rattle.ddm_tree.specs.DdmTypes.ItemTable.{item_count}
use Rattle.ddm_tree.specs.TreeModel.Turns.Machine.{named_by, names_part, turn_of}
use Rattle.ddm_tree.specs.TreeModel.Turns.Tree.{leaf_of_number}
use Rattle.ddm_tree.specs.TreeRules.Bus.Rules.{IsTreeOk}
use Rattle.ddm_tree.specs.BusyLaws.Reasons.{busy_cause}
use Rattle.ddm_tree.specs.LrScLaws.Failing.{sc_failed}
use Rattle.ddm_tree.specs.Machine.{IsMachine, MachineState, listed_path, machine_of, state_after}
use Rattle.ddm_tree.specs.Path.{present_at}
use Rattle.ddm_tree.specs.Quiet.{HartsAgree}
use Rattle.ddm_tree.proofs.Along.{root_turned}
use Rattle.ddm_tree.proofs.BusyLaws.Turns.{busy-turn}
use Rattle.ddm_tree.proofs.IdleHarts.{idle-after}
use Rattle.ddm_tree.proofs.LrScLaws.Failing.{turn-fails}
use Rattle.ddm_tree.proofs.MachineKept.{turn-keeps}
use Rattle.ddm_tree.proofs.QuietTurns.{learned-turn, only-after, quiet-after}
use Rattle.ddm_tree.proofs.RulesKept.{made-order, rules-buses, turn-rules}
use Rattle.ddm_tree.proofs.TurnMade.{Told, all-traffic-most, items-back, machine-ready, part-found, same-path, state-made, told-turn, turn-tree_counts, turned-ruled}
use Rattle.ddm_tree.proofs.machine.Machine.turn_into.Goals as goal
use Rattle.ddm_tree.proofs.machine.Machine.turn_into.Given

pub turn_made-requires : goal.turn_made-requires
turn_made-requires g c =
    let m = machine_of c.self.inside.code c.self.inside.items c.self.inside.top (map g.C.Agent.value c.self.inside.children.items) c.self.inside.ops.items c.self.inside.traffic.items in
    let named : names_part c.args.turn.now m ≡ true = subst (λ s. names_part c.args.turn.now s.machine ≡ true) (sym c.self.view_is) c.requires.named in
    let turns : c.self.inside.turns + 1 ≤ 4294967295 = subst (λ s. s.turns + 1 ≤ 4294967295) (sym c.self.view_is) (omega (arith, c.requires.turns)) in
    let inv = c.self.invariant in
    let ready = machine-ready g.row.WORDS c.self.inside.turns (map vec_items c.self.inside.leaf_paths.items) (map vec_items c.self.inside.bus_paths.items) m inv.0 inv.2 (omega (arith, turns)) in
    let found = part-found g.row.WORDS c.self.inside.turns (map vec_items c.self.inside.leaf_paths.items) (map vec_items c.self.inside.bus_paths.items) c.args.turn.now m inv.0 named in
    let later : (path : List ℕ) → listed_path (named_by c.args.turn.now) (map vec_items c.self.inside.leaf_paths.items) (map vec_items c.self.inside.bus_paths.items) ≡ Some path → IsTreeOk (item_count m.items) (root_turned c.args.turn.now path m) = λ path listed.
    subst (λ p. IsTreeOk (item_count m.items) (root_turned c.args.turn.now p m)) (sym (same-path _ found.path path (sym found.listed) listed)) (turned-ruled c.args.turn.now m found.path found.leads (rules-buses _ (turn-rules c.args.turn.now m inv.0.shaped inv.0.rules))) in (
      omega arith,
      (
        inv.3,
        (
          rw (c.deref_mut.ensures.value) ready,
          (
            rw (c.deref_mut.ensures.value, c.deref.ensures.value, c.deref-2.ensures.value) found,
            (
              rw (c.deref_mut.ensures.value, c.deref.ensures.value) (λ k path leads. inv.0.paths (leaf_of_number k) path leads),
              (
                rw (c.deref_mut.ensures.value) inv.5,
                (
                  rw (c.deref_mut-2.ensures.value) inv.7,
                  (
                    rw (c.deref.ensures.value, c.deref-2.ensures.value) inv.8,
                    (rw (c.deref_mut.ensures.value) (rules-buses m inv.0.rules).tree, rw (c.deref_mut.ensures.value, c.deref.ensures.value, c.deref-2.ensures.value) later),
                  ),
                ),
              ),
            ),
          ),
        ),
      ),
    )

pub record-requires-clause-counts : goal.record-requires-clause-counts
record-requires-clause-counts g c =
    let turns : c.self.inside.turns + 1 ≤ 4294967295 = subst (λ s. s.turns + 1 ≤ 4294967295) (sym c.self.view_is) (omega (arith, c.requires.turns)) in
    all-traffic-most c.self.inside.turns 4294967294 (omega (arith, turns)) c.self.inside.traffic.items c.self.invariant.0.granted

-- what the code did, in the tables' words
told : (g : Given.Over) (c : goal.After-record g) → Told c.args.turn.now (machine_of c.self.inside.code c.self.inside.items c.self.inside.top (map g.C.Agent.value c.self.inside.children.items) c.self.inside.ops.items c.self.inside.traffic.items) c.turn_made.new.answer c.turn_made.new.top (map g.C.Agent.value c.turn_made.new.children)
told g c =
    let m = machine_of c.self.inside.code c.self.inside.items c.self.inside.top (map g.C.Agent.value c.self.inside.children.items) c.self.inside.ops.items c.self.inside.traffic.items in
    let named : names_part c.args.turn.now m ≡ true = subst (λ s. names_part c.args.turn.now s.machine ≡ true) (sym c.self.view_is) c.requires.named in
    let leaf_paths = map vec_items c.self.inside.leaf_paths.items in
    let bus_paths = map vec_items c.self.inside.bus_paths.items in
    let found = part-found g.row.WORDS c.self.inside.turns leaf_paths bus_paths c.args.turn.now m c.self.invariant.0 named in
    told-turn c.args.turn.now m leaf_paths bus_paths c.turn_made.new.answer c.turn_made.new.top (map g.C.Agent.value c.turn_made.new.children) found
    (rw (c.deref_mut.ensures.value, c.deref.ensures.value, c.deref-2.ensures.value) at c.turn_made.ensures.answer)
    (rw (c.deref_mut.ensures.value, c.deref.ensures.value, c.deref-2.ensures.value) at c.turn_made.ensures.after)

-- the children are put back
children-back : (g : Given.Over) (c : goal.After-record g) → take c.self.inside.children.len (c.turn_made.new.children ++ drop (length c.turn_made.new.children) c.self.inside.children.items) ≡ c.turn_made.new.children
children-back g c =
    let whole : c.self.inside.children.len ≡ length c.self.inside.children.items = sym c.deref_mut.ensures.len ∙ ap length c.deref_mut.ensures.value in
    let same : length c.turn_made.new.children ≡ length c.self.inside.children.items = c.turn_made.auto.children ∙ ap length c.deref_mut.ensures.value in
    items-back c.self.inside.children.items c.turn_made.new.children c.self.inside.children.len whole same

-- and so is what is remembered
quiet-back : (g : Given.Over) (c : goal.After-record g) → take c.self.inside.quiet.len (c.turn_made.new.quiet ++ drop (length c.turn_made.new.quiet) c.self.inside.quiet.items) ≡ c.turn_made.new.quiet
quiet-back g c =
    let whole : c.self.inside.quiet.len ≡ length c.self.inside.quiet.items = sym c.deref_mut-2.ensures.len ∙ ap length c.deref_mut-2.ensures.value in
    let same : length c.turn_made.new.quiet ≡ length c.self.inside.quiet.items = c.turn_made.auto.quiet ∙ ap length c.deref_mut-2.ensures.value in
    items-back c.self.inside.quiet.items c.turn_made.new.quiet c.self.inside.quiet.len whole same

-- the machine afterwards
machine-after : (g : Given.Over) (c : goal.After-record g) → machine_of c.self.inside.code c.self.inside.items c.turn_made.new.top (map g.C.Agent.value (take c.self.inside.children.len (c.turn_made.new.children ++ drop (length c.turn_made.new.children) c.self.inside.children.items))) c.record.new.ops.items c.record.new.traffic.items ≡ (turn_of c.args.turn.now (machine_of c.self.inside.code c.self.inside.items c.self.inside.top (map g.C.Agent.value c.self.inside.children.items) c.self.inside.ops.items c.self.inside.traffic.items)).machine
machine-after g c = rw (children-back g c, c.record.ensures.ops, c.record.ensures.traffic) (told g c).machine_is

pub invariant_of-self : goal.invariant_of-self
invariant_of-self g c =
    let m = machine_of c.self.inside.code c.self.inside.items c.self.inside.top (map g.C.Agent.value c.self.inside.children.items) c.self.inside.ops.items c.self.inside.traffic.items in
    let after = machine-after g c in
    let leaf_paths = map vec_items c.self.inside.leaf_paths.items in
    let bus_paths = map vec_items c.self.inside.bus_paths.items in
    let inv = c.self.invariant in
    let left = dir_node c.turn_made.new.top (nodes (map g.C.Agent.value c.turn_made.new.children)) in
    let idle = idle-after c.self.inside.code c.self.inside.items c.args.turn.now m c.turn_made.new.idle _ left _ refl (ap root_of after) (ap (λ cs. dir_node c.turn_made.new.top (nodes (map g.C.Agent.value cs))) (children-back g c)) (rw (c.deref_mut.ensures.value) at c.turn_made.ensures.idle) in
    let named : names_part c.args.turn.now m ≡ true = subst (λ s. names_part c.args.turn.now s.machine ≡ true) (sym c.self.view_is) c.requires.named in
    let found = part-found g.row.WORDS c.self.inside.turns leaf_paths bus_paths c.args.turn.now m inv.0 named in
    let keeps = turn-keeps g.row.WORDS c.self.inside.turns leaf_paths bus_paths c.args.turn.now m inv.0 in
    let answer = (rw (c.deref_mut.ensures.value, c.deref.ensures.value, c.deref-2.ensures.value) at c.turn_made.ensures.answer) found.path found.listed in
    let turned = (rw (c.deref_mut.ensures.value, c.deref.ensures.value, c.deref-2.ensures.value) at c.turn_made.ensures.after) found.path found.listed in
    let learned = (rw (c.deref.ensures.value, c.deref-2.ensures.value, c.deref_mut-2.ensures.value) at c.turn_made.ensures.quiet) found.path found.listed in
    let known = learned-turn c.self.inside.code c.self.inside.items c.args.turn.now found.path (present_at found.path stamp_zero (root_of m)) (root_of m) found.leads c.turn_made.new.answer left c.self.inside.quiet.items c.turn_made.new.quiet answer turned (only-after c.args.turn.now m left (ap root_of (told g c).machine_is) keeps.shaped) inv.6 learned in
    let quiet = quiet-after c.args.turn.now m c.turn_made.new.quiet _ left _ (quiet-back g c) (ap root_of after) (ap (λ cs. dir_node c.turn_made.new.top (nodes (map g.C.Agent.value cs))) (children-back g c)) known in
    let harts = subst (λ k. HartsAgree k c.turn_made.new.idle) (sym (quiet-back g c)) c.turn_made.ensures.harts in
    (subst (λ n. IsMachine g.row.WORDS n (c.self.inside.turns + 1) leaf_paths bus_paths) (sym after) keeps, ap tree_counts after ∙ turn-tree_counts c.args.turn.now m ∙ inv.1, inv.2, inv.3, c.record.ensures.room, idle, quiet, harts, inv.8)

pub returns-clause-answer : goal.returns-clause-answer
returns-clause-answer g c = (told g c).answer_is ∙ ap (λ s. (turn_of c.args.turn.now s.machine).answer) c.self.view_is

pub returns-clause-after : goal.returns-clause-after
returns-clause-after g c =
    let m = machine_of c.self.inside.code c.self.inside.items c.self.inside.top (map g.C.Agent.value c.self.inside.children.items) c.self.inside.ops.items c.self.inside.traffic.items in
    let old : MachineState = record { machine = m; spare = c.self.inside.spare; turns = c.self.inside.turns } in
    state-made c.args.turn.now old _ c.turn_made.new.answer c.record.new.spare (machine-after g c) (told g c).answer_is c.record.ensures.spare ∙ ap (state_after c.args.turn.now) c.self.view_is

pub returns-clause-order : goal.returns-clause-order
returns-clause-order g c =
    let m = machine_of c.self.inside.code c.self.inside.items c.self.inside.top (map g.C.Agent.value c.self.inside.children.items) c.self.inside.ops.items c.self.inside.traffic.items in
    let inv = c.self.invariant.0 in
    made-order c.args.turn.now m _ _ (ap (λ s. s.machine) c.self.view_is) (machine-after g c) inv.shaped inv.rules

pub returns-clause-busy : goal.returns-clause-busy
returns-clause-busy g c = ap busy_cause (returns-clause-answer g c) ∙ busy-turn c.args.turn.now _

pub returns-clause-failing : goal.returns-clause-failing
returns-clause-failing g c = ap sc_failed (returns-clause-answer g c) ∙ turn-fails c.args.turn.now _
