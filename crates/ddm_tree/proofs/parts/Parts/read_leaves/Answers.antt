use Rattle.std.proofs.Common.{◌≡◌, ◌<◌, ◌≤◌, ◌∙◌, true, length, sym, ap, subst, lit<, arith, rules, Err}
use Rattle.ddm_tree.specs.TreeModel.State.Shape.{tree_counts}
use Rattle.ddm_tree.specs.TreeModel.Turns.Machine.{machine_leaves}
use Rattle.ddm_tree.specs.TreeModel.Turns.Tree.{leaf_of_number}
use Rattle.ddm_tree.specs.Machine.{is_part}
use Rattle.ddm_tree.specs.Parts.{SectionRead, SectionRefused, leaf_section}
use Rattle.ddm_tree.specs.ReadBack.{section_name}
use Rattle.ddm_tree.proofs.LeafList.{leaf-there, leaves-counted}
use Rattle.ddm_tree.proofs.LeavesInOrder.{leaf-more, leaf-refused, leaves-begun, leaves-done, read-frame, section-leaf}
use Rattle.ddm_tree.proofs.PartsKept.{kept-counts}
use Rattle.ddm_tree.proofs.parts.Parts.read_leaves.Goals as goal

pub loop-leaf-init : goal.loop-leaf-init
loop-leaf-init g c = leaves-begun c.args.harts c.args.words.now c.args.from c.args.self c.requires.inside

pub read_section-requires : goal.read_section-requires
read_section-requires g c =
    let k = c.loop-leaf.leaf in
    let now = c.loop-leaf.parts in
    let many : (tree_counts now).leaves ≡ (tree_counts c.args.self).leaves = ap (λ t. t.leaves) (kept-counts c.args.self now c.loop-leaf.invariant.frame) in
    let below : k < (tree_counts now).leaves = omega (arith, c.loop-leaf-test.true, many, ap (λ t. t.leaves) c.counts-leaves.ensures.counts) in
    let there : is_part (leaf_of_number k) now ≡ true = leaf-there k now c.counts.ensures.readable.shaped below in
    let name : section_name c.leaf_section-section.result ≡ leaf_of_number k = ap section_name c.leaf_section-section.ensures ∙ section-leaf c.args.harts k in
    (lit< tt, (c.requires.few, (c.loop-leaf.invariant.inside, subst (λ n. is_part n now ≡ true) (sym name) there)))

pub returns-in_err-next-clause-refused : goal.returns-in_err-next-clause-refused
returns-in_err-next-clause-refused g c =
    let k = c.loop-leaf.leaf in
    let e = c.in_err-next.field-0.0 in
    let is : c.from_residual.result ≡ Err e = search rules in
    let many = leaves-counted c.args.self in
    let within : k < length (machine_leaves c.args.self) = omega (arith, c.loop-leaf-test.true, many, ap (λ t. t.leaves) c.counts-leaves.ensures.counts) in
    let s = subst (λ x. SectionRefused x c.args.words.now c.loop-leaf.at c.loop-leaf.parts e) c.leaf_section-section.ensures c.in_err-next.ensures.refused in
    rw is (leaf-refused c.args.harts c.args.words.now c.args.from c.args.self c.loop-leaf.parts k c.loop-leaf.at c.counts-leaves.ensures.readable.shaped within c.loop-leaf.invariant e s)

pub loop-leaf-preserved : goal.loop-leaf-preserved
loop-leaf-preserved g c =
    let k = c.loop-leaf.leaf in
    let many = leaves-counted c.args.self in
    let within : k < length (machine_leaves c.args.self) = omega (arith, c.loop-leaf-test.true, many, ap (λ t. t.leaves) c.counts-leaves.ensures.counts) in
    let s = subst (λ x. SectionRead x c.args.words.now c.loop-leaf.at c.loop-leaf.parts c.in_ok-next.next c.in_ok-next.after) c.leaf_section-section.ensures c.in_ok-next.ensures.read in
    let frame = read-frame (leaf_section c.args.harts k) c.args.words.now c.loop-leaf.at c.in_ok-next.after c.loop-leaf.parts c.in_ok-next.next c.counts.ensures.readable c.counts.ensures.rooms s in
    leaf-more c.args.harts c.args.words.now c.args.from c.args.self c.loop-leaf.parts k c.loop-leaf.at c.counts-leaves.ensures.readable.shaped within c.loop-leaf.invariant c.in_ok-next.next c.in_ok-next.after s c.in_ok-next.ensures.inside frame

pub returns-clause-read : goal.returns-clause-read
returns-clause-read g c =
    let many = leaves-counted c.args.self in
    let past : length (machine_leaves c.args.self) ≤ c.loop-leaf.leaf = omega (arith, c.loop-leaf-test.false, many, ap (λ t. t.leaves) c.counts-leaves.ensures.counts) in
    leaves-done c.args.harts c.args.words.now c.args.from c.args.self c.loop-leaf.parts c.loop-leaf.leaf c.loop-leaf.at past c.loop-leaf.invariant
