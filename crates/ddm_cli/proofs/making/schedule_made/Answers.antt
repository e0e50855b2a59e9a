use Rattle.std.proofs.Common.{◌≤◌, ◌+◌, ◌++◌, ◌∙◌, false, List, [], sym, refl, ap, subst, arith}
use Rattle.ddm_cli.specs.TreeModel.Start.Sources.{TreeValue}
use Rattle.ddm_cli.specs.DdmTypes.declared.turns.Turn.{Turn}
use Rattle.ddm_cli.specs.AnyMachine.Any.{machine_state}
use Rattle.ddm_cli.specs.AnyRuns.Run.{CanRun, NameParts, counts_in}
use Rattle.ddm_cli.specs.Made.{CanCount}
use Rattle.ddm_cli.proofs.RunsInPieces.{more_made, next_piece, nothing_made}
use Rattle.ddm_cli.proofs.Schedules.{accepted_read, few_read, nothing_read, refused_read, unended_read}
use Rattle.ddm_cli.proofs.making.schedule_made.Goals as goal

pub reading-init : goal.reading-init
reading-init g c = record {
  all = ([], nothing_read c.args.tree.now.levels c.args.first.turns (g.F.Shelf.told c.args.files.now c.args.name.now) c.in_ok-reader.reader [] c.in_ok-reader.ensures refl, nothing_made c.args.tree.now.levels c.args.first (machine_state c.args.machine.now) c.requires.start c.args.keep false c.nothing_made-made.result c.nothing_made-made.ensures.counts c.nothing_made-made.ensures.trace);
  none = c.new-turns.ensures.items;
  few = omega arith;
  same = refl;
  later = λ other. omega arith;
}

pub make_turns-requires-clause-named : goal.make_turns-requires-clause-named
make_turns-requires-clause-named g c =
    let told = g.F.Shelf.told c.args.files.now c.args.name.now in
    let (turns, read, has) = c.reading.invariant.all in
    let levels = ap (λ (u : TreeValue). u.levels) c.tree.view_is in
    let next = next_piece c.args.tree.now.levels c.args.first (machine_state c.args.machine.now) c.requires.start c.args.keep told c.reading.at c.reading.reader (machine_state c.reading.machine) c.reading.made turns read has _ c.in-Ok.n c.read.new.into c.feed.new.self c.reading.turns.items c.feed.new.turns.items levels c.reading.invariant.none c.in-Ok.ensures.bound (rw c.reading.invariant.same at c.in-Ok.ensures.told) c.in-Ok-feed.ensures.0 in
    subst (λ (ts : List Turn). NameParts ts (machine_state c.reading.machine).machine) (sym c.deref.ensures.value) next.can.named

pub make_turns-requires-clause-few : goal.make_turns-requires-clause-few
make_turns-requires-clause-few g c =
    let told = g.F.Shelf.told c.args.files.now c.args.name.now in
    let (turns, read, has) = c.reading.invariant.all in
    let levels = ap (λ (u : TreeValue). u.levels) c.tree.view_is in
    let next = next_piece c.args.tree.now.levels c.args.first (machine_state c.args.machine.now) c.requires.start c.args.keep told c.reading.at c.reading.reader (machine_state c.reading.machine) c.reading.made turns read has _ c.in-Ok.n c.read.new.into c.feed.new.self c.reading.turns.items c.feed.new.turns.items levels c.reading.invariant.none c.in-Ok.ensures.bound (rw c.reading.invariant.same at c.in-Ok.ensures.told) c.in-Ok-feed.ensures.0 in
    subst (λ (ts : List Turn). CanRun ts (machine_state c.reading.machine)) (sym c.deref.ensures.value) next.can.few

pub make_turns-requires-clause-counted : goal.make_turns-requires-clause-counted
make_turns-requires-clause-counted g c =
    let told = g.F.Shelf.told c.args.files.now c.args.name.now in
    let (turns, read, has) = c.reading.invariant.all in
    let levels = ap (λ (u : TreeValue). u.levels) c.tree.view_is in
    let next = next_piece c.args.tree.now.levels c.args.first (machine_state c.args.machine.now) c.requires.start c.args.keep told c.reading.at c.reading.reader (machine_state c.reading.machine) c.reading.made turns read has _ c.in-Ok.n c.read.new.into c.feed.new.self c.reading.turns.items c.feed.new.turns.items levels c.reading.invariant.none c.in-Ok.ensures.bound (rw c.reading.invariant.same at c.in-Ok.ensures.told) c.in-Ok-feed.ensures.0 in
    subst (λ (ts : List Turn). CanCount c.reading.made.counts (counts_in ts (machine_state c.reading.machine))) (sym c.deref.ensures.value) next.can.counted

pub reading-preserved : goal.reading-preserved
reading-preserved g c =
    let told = g.F.Shelf.told c.args.files.now c.args.name.now in
    let (turns, read, has) = c.reading.invariant.all in
    let levels = ap (λ (u : TreeValue). u.levels) c.tree.view_is in
    let next = next_piece c.args.tree.now.levels c.args.first (machine_state c.args.machine.now) c.requires.start c.args.keep told c.reading.at c.reading.reader (machine_state c.reading.machine) c.reading.made turns read has _ c.in-Ok.n c.read.new.into c.feed.new.self c.reading.turns.items c.feed.new.turns.items levels c.reading.invariant.none c.in-Ok.ensures.bound (rw c.reading.invariant.same at c.in-Ok.ensures.told) c.in-Ok-feed.ensures.0 in
    let value = c.deref.ensures.value in
    let done = c.in_ok-make_turns.ensures in
    let more = c.feed.new.turns.items in
    let few_before : c.args.first.turns ≤ 1048576 = omega (arith, c.requires.start.counted.turns) in
    record {
      all = (turns ++ more, next.read, more_made c.args.tree.now.levels c.args.first (machine_state c.args.machine.now) c.requires.start c.args.keep false (machine_state c.reading.machine) c.reading.made turns more has next.can.given (machine_state c.make_turns.new.machine) c.make_turns.new.made (rw value at done.after) (rw value at done.counts) (rw value at done.trace));
      none = c.clear.ensures.items;
      few = few_read c.args.tree.now.levels c.args.first.turns told (c.reading.at + c.in-Ok.n) c.feed.new.self (turns ++ more) next.read few_before c.in-Ok-feed.ensures.1;
      same = c.read.ensures.same ∙ c.reading.invariant.same;
      later = λ other. omega (arith, c.reading.invariant.later other, c.read.ensures.later other);
    }

pub returns-in-Ok-finish-clause-all : goal.returns-in-Ok-finish-clause-all
returns-in-Ok-finish-clause-all g c =
    let told = g.F.Shelf.told c.args.files.now c.args.name.now in
    let (turns, read, has) = c.reading.invariant.all in
    record {
      turns = turns;
      accepted = accepted_read c.args.tree.now.levels c.args.first.turns told c.reading.at c.reading.reader turns read c.in-Ok.n c.read.new.into c.if-n-eq0.true (rw c.reading.invariant.same at c.in-Ok.ensures.told) (sym c.finish.ensures ∙ c.in-Ok-finish.is);
      all = has;
    }

pub returns-in-Err-clause-cause : goal.returns-in-Err-clause-cause
returns-in-Err-clause-cause g c =
    let told = g.F.Shelf.told c.args.files.now c.args.name.now in
    let (turns, read, has) = c.reading.invariant.all in
    (unended_read c.args.tree.now.levels c.args.first.turns told c.reading.at c.reading.reader turns read c.in-Ok.n c.read.new.into c.if-n-eq0.true (rw c.reading.invariant.same at c.in-Ok.ensures.told) c.in-Err.line c.in-Err.refusal (sym c.finish.ensures ∙ c.in-Err.is))

pub returns-in-Err-Refused-clause-cause : goal.returns-in-Err-Refused-clause-cause
returns-in-Err-Refused-clause-cause g c =
    let fed = rw c.in-Err-Refused.field-0-is at c.in-Err-Refused.ensures in
    let told = g.F.Shelf.told c.args.files.now c.args.name.now in
    let (turns, read, has) = c.reading.invariant.all in
    let levels = ap (λ (u : TreeValue). u.levels) c.tree.view_is in
    let next = next_piece c.args.tree.now.levels c.args.first (machine_state c.args.machine.now) c.requires.start c.args.keep told c.reading.at c.reading.reader (machine_state c.reading.machine) c.reading.made turns read has _ c.in-Ok.n c.read.new.into c.feed.new.self c.reading.turns.items c.feed.new.turns.items levels c.reading.invariant.none c.in-Ok.ensures.bound (rw c.reading.invariant.same at c.in-Ok.ensures.told) fed.0 in
    rw c.in-Err-Refused.field-0-is (refused_read c.args.tree.now.levels c.args.first.turns told (c.reading.at + c.in-Ok.n) c.feed.new.self (turns ++ c.feed.new.turns.items) next.read c.in-Err-Refused.line c.in-Err-Refused.refusal fed.1)
