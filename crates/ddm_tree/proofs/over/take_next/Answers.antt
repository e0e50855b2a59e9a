use Rattle.std.proofs.Common.{◌++◌, length, ap, ◌∙◌, arith}
use Rattle.std.specs.Vec.Iter.{into_iter_items}
use Rattle.ddm_tree.proofs.Gathered.{drop-whole, take-whole, whole-length}
use Rattle.ddm_tree.proofs.over.take_next.Goals as goal

pub loop-init : goal.loop-init
loop-init g c = (ap (λ own. own ++ into_iter_items c.args.rest.now) c.new-own.ensures.items, ap length c.new-own.ensures.items, c.requires.known)

pub push_next-requires : goal.push_next-requires
push_next-requires g c =
    let inv = c.loop.invariant in
    let whole = whole-length c.loop.own.items (into_iter_items c.loop.rest) (into_iter_items c.args.rest.now) inv.0 in
    omega (arith, whole, inv.1, inv.2, c.loop-test.true, c.requires.enough)

pub loop-preserved : goal.loop-preserved
loop-preserved g c =
    let inv = c.loop.invariant in
    let items = c.in_ok-push_next.ensures.items ∙ inv.0 in
    let more = c.in_ok-push_next.ensures.more in
    let fewer = c.in_ok-push_next.ensures.fewer in
    let before = whole-length c.loop.own.items (into_iter_items c.loop.rest) (into_iter_items c.args.rest.now) inv.0 in
    let after = whole-length c.push_next.new.own.items (into_iter_items c.push_next.new.rest) (into_iter_items c.args.rest.now) items in
    (items, omega (arith, more, inv.1), omega (arith, before, after, more, fewer, inv.2))

pub returns-clause-own : goal.returns-clause-own
returns-clause-own g c =
    let inv = c.loop.invariant in
    take-whole c.args.count c.loop.own.items (into_iter_items c.loop.rest) (into_iter_items c.args.rest.now) inv.0 (omega (arith, inv.1, c.loop-test.false, c.loop.auto.counter-end))

pub returns-clause-rest : goal.returns-clause-rest
returns-clause-rest g c =
    let inv = c.loop.invariant in
    drop-whole c.args.count c.loop.own.items (into_iter_items c.loop.rest) (into_iter_items c.args.rest.now) inv.0 (omega (arith, inv.1, c.loop-test.false, c.loop.auto.counter-end))

pub returns-clause-known : goal.returns-clause-known
returns-clause-known g c = c.loop.invariant.2
