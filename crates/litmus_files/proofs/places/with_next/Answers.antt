use Rattle.std.proofs.Common.{◌≡◌, false, subst, sym, ap, ◌∙◌}
use Rattle.std.specs.Prelude.{nat_eq}
use Rattle.std.specs.List.{list_any}
use Rattle.litmus_files.specs.Different.{AreLeaves}
use Rattle.litmus_files.proofs.Leaves.{more_leaves}
use Rattle.litmus_files.proofs.places.with_next.Goals as goal

pub returns-clause-leaves : goal.returns-clause-leaves
returns-clause-leaves c =
    let leaf = c.in_ok-leaf.leaf in
    let none : list_any (nat_eq leaf) c.args.places.now ≡ false = ap (list_any (nat_eq leaf)) (sym c.leaves.ensures) ∙ sym c.is_among.ensures ∙ c.if-is_among.false in
    subst AreLeaves (sym c.with.ensures) (more_leaves c.args.places.now leaf c.requires c.in_ok-leaf.ensures.small none)
