use Rattle.std.proofs.Common.{sym, ap, ◌≡◌, arith, ◌∙◌, length}
use Rattle.leaf_protocol.specs.DdmText.Adds.{◌▸◌}
use Rattle.leaf_protocol.proofs.Standing.{first_sets, words_of_set, all_sets, no_sets}
use Rattle.leaf_protocol.proofs.entries.Entries.write_standing.Goals as goal
use Rattle.leaf_protocol.proofs.StateWords.Nothing.{adds-nothing}

pub loop-set-init : goal.loop-set-init
loop-set-init g c = rw (no_sets c.args.self.now.sets c.args.self.now.ways g.row.WAYS) (adds-nothing c.push_words.new.out.items)

pub loop-set-preserved : goal.loop-set-preserved
loop-set-preserved g c = rw (words_of_set c.args.self.now.sets c.args.self.now.ways g.row.WAYS c.loop-set.set) (c.loop-set.invariant ▸ c.in_ok-write_set.ensures.ok)

pub returns-clause-ok : goal.returns-clause-ok
returns-clause-ok g c =
    let last : c.loop-set.set ≡ c.args.self.now.sets = rw (← c.self.view_is) (omega (arith, c.loop-set-test.false, c.loop-set.auto.set-end, c.sets-set-end.ensures.sets)) in
    let whole = ap (first_sets c.args.self.now.sets c.args.self.now.ways g.row.WAYS) last ∙ all_sets c.args.self.now.sets c.args.self.now.ways g.row.WAYS in
    let count = c.count_standing.ensures ∙ ap length (sym whole) in
    rw (← whole) ((rw count at c.in_ok-push_words.ensures.ok) ▸ c.loop-set.invariant)
