use Rattle.std.proofs.Common.{◌≤◌, ◌+◌, sym, subst, if◌then◌else◌}
use Rattle.tree_model.specs.Turns.Machine.{turn_of}
use Rattle.any_runs.specs.DdmTree.Machine.{MachineState}
use Rattle.recording_model.specs.Doing.{had_halted}
use Rattle.recording.specs.Runs.{came_by, is_done}
use Rattle.recording.specs.declared.making.Came.{Came}
use Rattle.recording.proofs.Halting.{spare-falls}
use Rattle.recording.proofs.making.make_draw.Goals as goal

pub returns-clause-spare : goal.returns-clause-spare
returns-clause-spare g c =
    let t = c.args.turn.now in
    let s = c.args.machine.now in
    let came = came_by (turn_of t s.machine).answer (had_halted t s.machine) in
    let falls = spare-falls (turn_of t s.machine).answer (had_halted t s.machine) s.spare in
    let machine = subst (λ (n : MachineState). s.spare ≤ n.spare + (if is_done came then 1 else 0)) (sym c.make_turn.ensures.after) falls in
    subst (λ (k : Came). s.spare ≤ c.make_turn.new.machine.spare + (if is_done k then 1 else 0)) (sym c.make_turn.ensures.came) machine
