use Rattle.std.proofs.Common.{◌≡◌, ◌≤◌, ◌<◌, ◌++◌, [], length, take, ap, refl, sym, subst, ◌∙◌, arith}
use Rattle.std.specs.Prelude.{All, Some, vec_len}
use Rattle.std.proofs.lemmas.List.{nil_from_length}
use Rattle.ddm_cli.specs.TreeModel.Start.Sources.{TreeValue}
use Rattle.ddm_cli.specs.TextModel.ReadBack.{IsTurnOf}
use Rattle.ddm_cli.specs.TextModel.Run.{no_counts}
use Rattle.ddm_cli.specs.TextModel.Schedule.{ShapeView}
use Rattle.ddm_cli.specs.TextModel.Seeded.{seeded_turns}
use Rattle.ddm_cli.specs.ScheduleLog.Seeding.{SeededView}
use Rattle.ddm_cli.specs.ScheduleLog.Shapes.{shape_view}
use Rattle.ddm_cli.specs.AnyMachine.Any.{machine_state}
use Rattle.ddm_cli.specs.DdmTree.Machine.{MachineState}
use Rattle.ddm_cli.specs.Made.{kept_of}
use Rattle.ddm_words.specs.Kept.{is_summary, is_trace}
use Rattle.ddm_cli.proofs.RunsInPieces.{all_made, block_kept, more_made, next_block, nothing_made}
use Rattle.ddm_cli.proofs.making.seed_made.Goals as goal

pub making-init : goal.making-init
making-init c = record {
  made = ([], refl, nothing_made c.args.tree.now.levels no_counts (machine_state c.args.machine.now) c.requires.start (is_trace c.args.prints) (is_summary c.args.prints) c.nothing_made-made.result (c.nothing_made-made.ensures.counts ∙ c.nothing_counted.ensures) c.nothing_made-made.ensures.trace);
  places = c.in_ok-block.ensures;
}

pub make_turns-requires-clause-named : goal.make_turns-requires-clause-named
make_turns-requires-clause-named c =
    let (turns, so_far, has) = c.making.invariant.made in
    let levels = ap (λ (u : TreeValue). u.levels) c.tree.view_is in
    let few : length c.begin.new.self.left ≤ 1048576 = omega (arith, c.begin.ensures.count, c.requires.few) in
    let known = subst (λ (v : ShapeView). All (IsTurnOf v) c.begin.new.self.left) (ap (λ (v : SeededView). v.shape) c.in_ok-left.ensures) c.begin.ensures.known in
    let whole = block_kept c.making.block.len c.next_block-size.new.block _ (c.next_block-size.auto.block ∙ c.deref_mut.ensures.len) in
    let front = ap (take c.next_block-size.result) (c.deref.ensures.value ∙ whole) ∙ c.next_block-size.ensures.block in
    let back = ap (λ (v : SeededView). v.left) c.next_block-size.ensures.left in
    let next = next_block c.args.tree.now.levels (machine_state c.args.machine.now) c.requires.start (is_trace c.args.prints) (is_summary c.args.prints) (machine_state c.making.machine) c.making.made turns has _ (take c.next_block-size.result c.deref.result.now) c.next_block-size.new.self.left c.making.left.left c.begin.new.self.left c.next_block-size.result levels so_far front back known few in
    next.1.named

pub make_turns-requires-clause-few : goal.make_turns-requires-clause-few
make_turns-requires-clause-few c =
    let (turns, so_far, has) = c.making.invariant.made in
    let levels = ap (λ (u : TreeValue). u.levels) c.tree.view_is in
    let few : length c.begin.new.self.left ≤ 1048576 = omega (arith, c.begin.ensures.count, c.requires.few) in
    let known = subst (λ (v : ShapeView). All (IsTurnOf v) c.begin.new.self.left) (ap (λ (v : SeededView). v.shape) c.in_ok-left.ensures) c.begin.ensures.known in
    let whole = block_kept c.making.block.len c.next_block-size.new.block _ (c.next_block-size.auto.block ∙ c.deref_mut.ensures.len) in
    let front = ap (take c.next_block-size.result) (c.deref.ensures.value ∙ whole) ∙ c.next_block-size.ensures.block in
    let back = ap (λ (v : SeededView). v.left) c.next_block-size.ensures.left in
    let next = next_block c.args.tree.now.levels (machine_state c.args.machine.now) c.requires.start (is_trace c.args.prints) (is_summary c.args.prints) (machine_state c.making.machine) c.making.made turns has _ (take c.next_block-size.result c.deref.result.now) c.next_block-size.new.self.left c.making.left.left c.begin.new.self.left c.next_block-size.result levels so_far front back known few in
    next.1.few

pub make_turns-requires-clause-counted : goal.make_turns-requires-clause-counted
make_turns-requires-clause-counted c =
    let (turns, so_far, has) = c.making.invariant.made in
    let levels = ap (λ (u : TreeValue). u.levels) c.tree.view_is in
    let few : length c.begin.new.self.left ≤ 1048576 = omega (arith, c.begin.ensures.count, c.requires.few) in
    let known = subst (λ (v : ShapeView). All (IsTurnOf v) c.begin.new.self.left) (ap (λ (v : SeededView). v.shape) c.in_ok-left.ensures) c.begin.ensures.known in
    let whole = block_kept c.making.block.len c.next_block-size.new.block _ (c.next_block-size.auto.block ∙ c.deref_mut.ensures.len) in
    let front = ap (take c.next_block-size.result) (c.deref.ensures.value ∙ whole) ∙ c.next_block-size.ensures.block in
    let back = ap (λ (v : SeededView). v.left) c.next_block-size.ensures.left in
    let next = next_block c.args.tree.now.levels (machine_state c.args.machine.now) c.requires.start (is_trace c.args.prints) (is_summary c.args.prints) (machine_state c.making.machine) c.making.made turns has _ (take c.next_block-size.result c.deref.result.now) c.next_block-size.new.self.left c.making.left.left c.begin.new.self.left c.next_block-size.result levels so_far front back known few in
    next.1.counted

pub making-preserved : goal.making-preserved
making-preserved c =
    let (turns, so_far, has) = c.making.invariant.made in
    let levels = ap (λ (u : TreeValue). u.levels) c.tree.view_is in
    let few : length c.begin.new.self.left ≤ 1048576 = omega (arith, c.begin.ensures.count, c.requires.few) in
    let known = subst (λ (v : ShapeView). All (IsTurnOf v) c.begin.new.self.left) (ap (λ (v : SeededView). v.shape) c.in_ok-left.ensures) c.begin.ensures.known in
    let whole = block_kept c.making.block.len c.next_block-size.new.block _ (c.next_block-size.auto.block ∙ c.deref_mut.ensures.len) in
    let front = ap (take c.next_block-size.result) (c.deref.ensures.value ∙ whole) ∙ c.next_block-size.ensures.block in
    let back = ap (λ (v : SeededView). v.left) c.next_block-size.ensures.left in
    let next = next_block c.args.tree.now.levels (machine_state c.args.machine.now) c.requires.start (is_trace c.args.prints) (is_summary c.args.prints) (machine_state c.making.machine) c.making.made turns has _ (take c.next_block-size.result c.deref.result.now) c.next_block-size.new.self.left c.making.left.left c.begin.new.self.left c.next_block-size.result levels so_far front back known few in
    let done = c.in_ok-make_turns.ensures in
    let more = take c.next_block-size.result c.deref.result.now in
    let places : 0 < vec_len c.making.block = c.making.invariant.places in
    let forgot = c.forget_unprinted.ensures ∙ ap (λ (s : MachineState). record s { machine = kept_of (is_summary c.args.prints) s.machine }) done.after in
    record {
      made = (turns ++ more, next.0, more_made c.args.tree.now.levels no_counts (machine_state c.args.machine.now) c.requires.start (is_trace c.args.prints) (is_summary c.args.prints) (machine_state c.making.machine) c.making.made turns more has next.1.given (machine_state c.forget_unprinted.new.machine) c.make_turns.new.made forgot done.counts (rw c.is_trace.ensures at done.trace));
      places = places;
    }

pub returns-then-size-eq0 : goal.returns-then-size-eq0
returns-then-size-eq0 c =
    let (turns, so_far, has) = c.making.invariant.made in
    let levels = ap (λ (u : TreeValue). u.levels) c.tree.view_is in
    let all = c.begin.new.self.left in
    let left = c.making.left.left in
    let places : 0 < length c.deref_mut.result.now = omega (arith, c.making.invariant.places, c.deref_mut.ensures.len) in
    let none : length left ≡ 0 = omega (arith, c.next_block-size.ensures.count, c.if-size-eq0.true, places) in
    let seeded = ap (λ (v : SeededView). v.left) c.begin.ensures.turns ∙ ap (λ (v : SeededView). seeded_turns v.shape c.args.seed c.args.count) c.in_ok-left.ensures in
    record {
      turns = turns;
      accepted = ap (λ ls. Some (seeded_turns (shape_view ls) c.args.seed c.args.count)) (sym levels) ∙ ap Some (sym seeded) ∙ ap Some (all_made turns left all so_far (nil_from_length left none));
      all = has;
    }
