use Rattle.std.proofs.Common.{refl, sym, ◌∙◌, arith}
use Rattle.leaf_protocol.proofs.Standing.{count_more, some_counts, none_counts}
use Rattle.leaf_protocol.proofs.entries.Entries.count_in.Goals as goal
use Rattle.leaf_protocol.proofs.entries.Entries.count_in.Goals.{then-is_some, else-is_some}
use Rattle.leaf_protocol.specs.StateWords.Parts.{standing_in}

pub loop-way-init : goal.loop-way-init
unfolding standing_in
loop-way-init g c = (refl, omega arith)

pub loop-way-preserved : goal.loop-way-preserved
loop-way-preserved g c =
    let more = count_more c.args.self.now.sets c.args.self.now.ways c.args.set c.loop-way.way _ (sym c.standing.ensures) in
    elim c.if-is_some.branch [
      | then-is_some w ↦ (grind (arith, w.count-is, more, c.loop-way.invariant.0, some_counts _ (sym c.is_some.ensures ∙ w.if-is_some.true)), omega (arith, w.count-is, c.loop-way.invariant.1))
      | else-is_some w ↦ (grind (arith, w.count-is, more, c.loop-way.invariant.0, none_counts _ (sym c.is_some.ensures ∙ w.if-is_some.false)), omega (arith, w.count-is, c.loop-way.invariant.1))
    ]
