use Rattle.std.proofs.Common.{sym}
use Rattle.leaf_protocol.specs.DdmText.Adds.{◌▸◌}
use Rattle.leaf_protocol.proofs.Standing.{words_of_way, free_way}
use Rattle.leaf_protocol.proofs.entries.Entries.write_set.Goals as goal
use Rattle.leaf_protocol.proofs.entries.Entries.write_set.Goals.{in-Some+in_ok-spell, in_default}
use Rattle.leaf_protocol.specs.StateWords.Parts.{standing_in}
use Rattle.leaf_protocol.proofs.StateWords.Nothing.{adds-nothing}

pub loop-way-init : goal.loop-way-init
unfolding standing_in
loop-way-init g c = adds-nothing c.args.out.now.items

pub loop-way-preserved : goal.loop-way-preserved
loop-way-preserved g c =
    elim c.match-standing.branch [
      | in-Some+in_ok-spell w ↦ rw (w.out-is, words_of_way c.args.self.now.sets c.args.self.now.ways c.args.set c.loop-way.way _ (sym w.in-Some.ensures)) (c.loop-way.invariant ▸ w.in_ok-spell.ensures.ok)
      | in_default w ↦ rw (w.out-is, free_way c.args.self.now.sets c.args.self.now.ways c.args.set c.loop-way.way (sym w.in_default.ensures)) c.loop-way.invariant
    ]
