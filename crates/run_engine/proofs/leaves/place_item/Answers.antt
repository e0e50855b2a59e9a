use Rattle.std.proofs.Common.{rules, ◌≡◌, ◌<◌, ◌+◌, ◌%◌, length, true, false, Some, refl, sym, ap, ◌∙◌, arith, All}
use Rattle.std.proofs.lemmas.Nat.{mod_below}
use Rattle.run_engine.specs.TreeModel.State.Lists.{map_from}
use Rattle.run_engine.specs.TreeModel.Start.Nodes.{has_way, leaf_for, placed_at}
use Rattle.run_engine.specs.Placement.{TakesItem, in_turn}
use Rattle.run_engine.proofs.Placing.{search-all, search-end, search-found, search-skip, placed-found, placed-nowhere}
use Rattle.run_engine.proofs.Passing.{one-more}
use Rattle.run_engine.proofs.leaves.place_item.Goals as goal

pub loop-k-init : goal.loop-k-init
loop-k-init g c = (refl, c.requires.passed)

pub place_at-requires : goal.place_at-requires
place_at-requires g c =
    let inv = c.loop-k.invariant in
    let some : 0 < length c.args.leaves.now = omega (arith, c.loop-k-test.true) in
    let below = mod_below (c.args.own + c.loop-k.k) (length c.args.leaves.now) some in
    let takes : All (TakesItem c.args.item) c.loop-k.leaves = rw inv.0 c.requires.takes in
    (omega arith, (search rules, (omega (arith, below, c.loop-k.auto.leaves), takes)))

pub returns-then-place_at : goal.returns-then-place_at
returns-then-place_at g c =
    let inv = c.loop-k.invariant in
    let ls = c.args.leaves.now in
    let leaf = c.wrapped-leaf.result in
    let turn : leaf ≡ in_turn c.args.item (length ls) c.loop-k.k = c.wrapped-leaf.ensures ∙ ap (λ first. (first + c.loop-k.k) % length ls) c.requires.own in
    let way : has_way ls c.args.item leaf ≡ true = sym (rw inv.0 at c.if-place_at.ensures.way) in
    let skipped = search-all c.args.item ls ∙ search-skip c.args.item ls c.loop-k.k (omega (arith, c.loop-k-test.true)) inv.1 in
    let found : leaf_for ls c.args.item ≡ Some leaf = skipped ∙ search-found c.args.item ls c.loop-k.k leaf c.loop-k-test.true turn way in
    let after : c.place_at.new.leaves ≡ map_from (placed_at leaf c.args.item c.args.words) 0 ls = rw inv.0 at c.if-place_at.ensures.after in
    record { placed = after ∙ placed-found c.args.item c.args.words ls leaf found; inside = omega (arith, c.loop-k-test.true); passed = inv.1 }

pub loop-k-preserved : goal.loop-k-preserved
loop-k-preserved g c =
    let inv = c.loop-k.invariant in
    let ls = c.args.leaves.now in
    let leaf = c.wrapped-leaf.result in
    let turn : leaf ≡ in_turn c.args.item (length ls) c.loop-k.k = c.wrapped-leaf.ensures ∙ ap (λ first. (first + c.loop-k.k) % length ls) c.requires.own in
    let way : has_way ls c.args.item leaf ≡ false = sym (rw inv.0 at c.if-place_at.ensures.way) in
    (c.if-place_at.ensures.after ∙ inv.0, one-more c.args.item c.loop-k.k ls inv.1 (ap (has_way ls c.args.item) (sym turn) ∙ way))

pub returns : goal.returns
returns g c =
    let inv = c.loop-k.invariant in
    let ls = c.args.leaves.now in
    let skipped = search-all c.args.item ls ∙ search-skip c.args.item ls c.loop-k.k (omega (arith, c.loop-k.auto.k-end)) inv.1 in
    record {
      placed = inv.0 ∙ placed-nowhere c.args.item c.args.words ls (skipped ∙ search-end c.args.item ls c.loop-k.k (omega (arith, c.loop-k-test.false)));
      inside = c.requires.inside;
      passed = c.requires.passed;
    }
