use Rattle.std.proofs.Common.{rules, ◌≡◌, map, ap, subst, arith, IfOk}
use Rattle.run_engine.specs.DdmTypes.declared.sizes.TreeCounts.{TreeCounts}
use Rattle.run_engine.specs.DdmTypes.ItemTable.{item_count}
use Rattle.run_engine.specs.DdmTree.Machine.{MachineState}
use Rattle.tree_config.specs.Levels.{IsShape}
use Rattle.tree_config.specs.Ranges.{IsInRange}
use Rattle.run_engine.specs.StartParts.Counts.{counts_of}
use Rattle.run_engine.proofs.TreeStart.{items-size, new-start, parts-start}
use Rattle.run_engine.proofs.trees.start_machine.Goals as goal

pub new-requires-2 : goal.new-requires-2
new-requires-2 g c =
    let t = c.args.tree.now in
    let counts : TreeCounts = record { leaves = c.harts.result; buses = c.buses.result; depth = c.depth.result } in
    let counts_are : counts ≡ counts_of t = rw (c.harts.ensures.leaves, c.buses.ensures.buses, c.depth.ensures.levels) (ap counts_of c.tree.view_is) in
    let shape : IsShape t.levels = subst (λ u. IsShape u.levels) c.tree.view_is c.depth.ensures.shape in
    let range : IsInRange t = subst IsInRange c.tree.view_is c.tree.invariant in
    let known : c.len.result ≡ item_count c.args.items = search rules in
    let made = parts-start t c.args.image.now g.row.WORDS c.tree.inside.down c.len.result c.args.code c.args.items c.in_ok-top.top (map g.C.Agent.value c.args.kids.items) counts c.requires.size c.requires.code c.requires.items (ap (λ u. u.sizes.down) c.tree.view_is) known c.in_ok-top.ensures c.requires.kids counts_are in
    let new = new-start t c.args.image.now g.row.WORDS _ counts c.requires.size shape range c.requires.accepted made counts_are in
    (omega arith, (omega arith, (omega (arith, c.requires.small), (items-size t c.args.image.now g.row.WORDS c.args.items c.requires.size c.requires.items, new))))

pub returns : goal.returns
returns g c =
    let t = c.args.tree.now in
    let counts : TreeCounts = record { leaves = c.harts.result; buses = c.buses.result; depth = c.depth.result } in
    let counts_are : counts ≡ counts_of t = rw (c.harts.ensures.leaves, c.buses.ensures.buses, c.depth.ensures.levels) (ap counts_of c.tree.view_is) in
    let known : c.len.result ≡ item_count c.args.items = search rules in
    let made = parts-start t c.args.image.now g.row.WORDS c.tree.inside.down c.len.result c.args.code c.args.items c.in_ok-top.top (map g.C.Agent.value c.args.kids.items) counts c.requires.size c.requires.code c.requires.items (ap (λ u. u.sizes.down) c.tree.view_is) known c.in_ok-top.ensures c.requires.kids counts_are in
    subst (λ n. IfOk c.new-2.result (λ (m : MachineState). m ≡ record { machine = n; spare = 0; turns = 0 })) made c.new-2.ensures
