use Rattle.std.proofs.Common.{◌-◌}
use Rattle.film_model.specs.Directory.{set_text}
use Rattle.film_parts.proofs.PartLines.{with_line, at_end}
use Rattle.film_parts.proofs.DirItems.{members_from, all_members, first_member, no_members}
use Rattle.film_parts.proofs.items.push_set.Goals as goal

pub children-init : goal.children-init
children-init c = all_members c.args.out.now.items c.args.children c.args.set

pub children-preserved : goal.children-preserved
children-preserved c =
    with_line c.args.out.now.items c.children.out.items _ _ (members_from c.children.child (c.args.children - c.children.child) c.args.set) _ (set_text c.args.children c.args.set) c.children.invariant
    (first_member c.children.child c.args.children c.args.set c.children-test.true) c.in_ok-push_member.ensures

pub returns : goal.returns
returns c = at_end c.args.out.now.items c.children.out.items (members_from c.children.child (c.args.children - c.children.child) c.args.set) _ c.children.invariant (no_members c.children.child c.args.children c.args.set c.children-test.false)
