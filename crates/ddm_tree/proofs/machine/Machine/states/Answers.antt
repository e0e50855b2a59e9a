use Rattle.std.proofs.Common.{◌≡◌, ◌<◌, ◌≤◌, [], ◌++◌, None, length, map, take, drop, replicate, ap, sym, subst, ◌∙◌, arith}
use Rattle.std.proofs.lemmas.List.{length-take-le}
use Rattle.std.proofs.Math.Seq.{take-append_seam}
use Rattle.ddm_tree.specs.DdmTypes.ItemTable.{item_count}
use Rattle.ddm_tree.specs.TreeModel.State.Leaf.{state_at}
use Rattle.ddm_tree.specs.TreeModel.State.Shape.{tree_counts}
use Rattle.ddm_tree.specs.TreeModel.State.Values.{nodes}
use Rattle.ddm_tree.specs.TreeModel.Turns.Found.{states_of}
use Rattle.ddm_tree.specs.TreeModel.Turns.Machine.{leaves_among, machine_leaves}
use Rattle.ddm_tree.specs.TreeRules.Bus.Rules.{AreTreesOk}
use Rattle.ddm_tree.specs.Reads.{leaf_count_among}
use Rattle.ddm_tree.specs.Rules.{KeepsRules}
use Rattle.ddm_tree.proofs.LeafList.{leaves-counted}
use Rattle.ddm_tree.proofs.NotHeld.{cleared-none, no-entries, ruled-children}
use Rattle.ddm_tree.proofs.RulesKept.{rules-buses}
use Rattle.ddm_tree.proofs.machine.Machine.states.Goals as goal

pub states_under-requires : goal.states_under-requires
states_under-requires g c =
    let m = c.args.self.now.machine in
    let kids : nodes (map g.C.Agent.value c.deref.result.now) ≡ m.kids = ap (λ cs. nodes (map g.C.Agent.value cs)) c.deref.ensures.value ∙ ap (λ s. s.machine.kids) c.self.view_is in
    let count : leaf_count_among (map g.C.Agent.value c.deref.result.now) ≡ (tree_counts m).leaves = ap (λ ns. length (leaves_among ns [])) kids ∙ sym (leaves-counted m) in
    let items : item_count c.self.inside.items ≡ item_count m.items = ap (λ s. item_count s.machine.items) c.self.view_is in
    let kept : KeepsRules m = subst (λ s. KeepsRules s.machine) c.self.view_is c.self.invariant.0.rules in
    let below : c.args.item < item_count m.items = omega (arith, c.if-item-len.true, c.len.ensures, c.item.view_is, items) in
    let ok : AreTreesOk (item_count m.items) (nodes (map g.C.Agent.value c.deref.result.now)) = subst (AreTreesOk (item_count m.items)) (sym kids) (rules-buses m kept).tree.1 in
    record { ruled = ruled-children (item_count m.items) c.args.item (map g.C.Agent.value c.deref.result.now) ok below; room = omega (arith, count, c.requires) }

pub returns-then-item-len : goal.returns-then-item-len
unfolding states_of
returns-then-item-len g c =
    let m = c.args.self.now.machine in
    let kids : nodes (map g.C.Agent.value c.deref.result.now) ≡ m.kids = ap (λ cs. nodes (map g.C.Agent.value cs)) c.deref.ensures.value ∙ ap (λ s. s.machine.kids) c.self.view_is in
    let count : leaf_count_among (map g.C.Agent.value c.deref.result.now) ≡ (tree_counts m).leaves = ap (λ ns. length (leaves_among ns [])) kids ∙ sym (leaves-counted m) in
    let all : c.states_under.result ≡ (tree_counts m).leaves = omega (arith, count, c.states_under.ensures.next) in
    ap (λ k. take k c.states_under.new.states) (sym all) ∙ c.states_under.ensures.states ∙ ap (λ ns. map (state_at c.args.item) (leaves_among ns [])) kids

pub returns-else-item-len : goal.returns-else-item-len
unfolding states_of
returns-else-item-len g c =
    let m = c.args.self.now.machine in
    let kept : KeepsRules m = subst (λ s. KeepsRules s.machine) c.self.view_is c.self.invariant.0.rules in
    let items : item_count c.self.inside.items ≡ item_count m.items = ap (λ s. item_count s.machine.items) c.self.view_is in
    let past : item_count m.items ≤ c.args.item = omega (arith, c.if-item-len.false, c.len.ensures, c.item.view_is, items) in
    let counts : c.self.inside.counts.leaves ≡ (tree_counts m).leaves = ap (λ t. t.leaves) (sym c.self.invariant.1) ∙ ap (λ s. (tree_counts s.machine).leaves) c.self.view_is in
    let size : length (take c.self.inside.counts.leaves c.args.states.now) ≡ c.self.inside.counts.leaves = length-take-le c.self.inside.counts.leaves c.args.states.now (omega (arith, counts, c.requires)) in
    let whole : length c.fill.new.self ≡ (tree_counts m).leaves = c.fill.ensures.len ∙ size ∙ counts in
    let cleared : c.fill.new.self ≡ replicate (length (machine_leaves m)) None = c.fill.ensures.after (cleared-none _ (λ s is. is)) ∙ ap (λ k. replicate k None) (size ∙ counts ∙ leaves-counted m) in
    ap (λ k. take k (c.fill.new.self ++ drop c.self.inside.counts.leaves c.args.states.now)) (sym whole) ∙ take-append_seam c.fill.new.self _ ∙ cleared ∙ sym (no-entries (item_count m.items) c.args.item past m.kids (rules-buses m kept).tree.1)
