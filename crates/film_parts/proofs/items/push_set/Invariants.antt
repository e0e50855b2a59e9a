use Rattle.std.proofs.Common.{◌≡◌, ◌-◌, ◌++◌}
use Rattle.film_model.specs.Directory.{set_text}
use Rattle.film_parts.proofs.DirItems.{members_from}
use Rattle.film_parts.proofs.items.push_set.Given as goal

abbrev pub invariant-children : goal.invariant-children
invariant-children l = l.out.items ++ members_from l.child (l.children - l.child) l.set ≡ l.fn.out.items ++ set_text l.children l.set
