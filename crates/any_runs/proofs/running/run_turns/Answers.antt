use Rattle.std.proofs.Common.{◌≡◌, ◌+◌, ◌<◌, ◌++◌, ◌∷◌, [], true, length, take, vec_len, sym, ap, subst, ◌∙◌, arith, if◌then◌else◌}
use Rattle.any_runs.specs.TreeModel.Turns.Machine.{names_part, turn_of}
use Rattle.text_model.specs.Run.{counted_answer}
use Rattle.any_runs.specs.DdmTree.Machine.{MachineState, state_after}
use Rattle.std.proofs.lemmas.List.{take_all, length-append, length-take-le}
use Rattle.any_runs.specs.Run.{AreBelow, answers_in, counts_in, ran}
use Rattle.any_runs.proofs.RunMore.{answers-length, below-none, counted-below, counts-more, counts-none, kept-alike, kept-more, kept-none, kept_answers, named-here, ran-more, ran-none, spare-falls, take-next, turns-here}
use Rattle.any_runs.proofs.running.run_turns.Goals as goal

pub loop-turn-init : goal.loop-turn-init
loop-turn-init g c =
    let s = c.args.machine.now in
    (sym (ran-none s), c.no_counts-counts.ensures ∙ sym (counts-none s), subst (AreBelow 1) (sym c.no_counts-counts.ensures) below-none, omega (arith, c.requires.spare), kept-none c.args.keep c.args.answers.now.items s, omega arith)

pub counted_turn-requires : goal.counted_turn-requires
counted_turn-requires g c =
    let ts = c.args.turns.now in
    let k = c.loop-turn.turn-index in
    let s = c.args.machine.now in
    let i = c.loop-turn.invariant in
    let named : names_part c.turn-item.result c.loop-turn.machine.machine ≡ true = subst (λ r. names_part c.turn-item.result r.machine ≡ true) (sym i.0) (named-here ts k c.turn-item.result s c.requires.named c.loop-turn-test.true c.turn-item.is) in
    let few : c.loop-turn.machine.turns < 4294967295 = subst (λ r. r.turns < 4294967295) (sym i.0) (turns-here ts k s c.requires.few c.loop-turn-test.true) in
    let below = i.2 in (
      omega arith,
      (
        named,
        (
          omega (arith, i.3, c.loop-turn-test.true),
          (
            few,
            record {
              turns = omega (arith, below.turns, c.loop-turn-test.true, c.requires.few);
              retired = omega (arith, below.retired, c.loop-turn-test.true, c.requires.few);
              granted = omega (arith, below.granted, c.loop-turn-test.true, c.requires.few);
              busy = omega (arith, below.busy, c.loop-turn-test.true, c.requires.few);
            },
          ),
        ),
      ),
    )

pub keep_answer-requires : goal.keep_answer-requires
keep_answer-requires g c kept =
    let ts = c.args.turns.now in
    let k = c.loop-turn.turn-index in
    let s = c.args.machine.now in
    let i = c.loop-turn.invariant in
    let before = c.args.answers.now.items in
    let all : c.loop-turn.answers.items ≡ before ++ answers_in (take k ts) s = i.4 ∙ ap (λ b. kept_answers b before (take k ts) s) kept in
    let longer = length-append before (answers_in (take k ts) s) in
    let made = answers-length (take k ts) s.machine in
    let shorter = length-take-le k ts (omega (arith, c.loop-turn-test.true)) in
    let room = c.requires.room kept in
    let whole : vec_len c.loop-turn.answers ≡ length c.loop-turn.answers.items = c.loop-turn.answers.ok.0 in
    omega (arith, whole, ap length all, longer, made, shorter, room, i.5, c.loop-turn-test.true)

pub loop-turn-preserved : goal.loop-turn-preserved
loop-turn-preserved g c =
    let ts = c.args.turns.now in
    let k = c.loop-turn.turn-index in
    let t = c.turn-item.result in
    let s = c.args.machine.now in
    let i = c.loop-turn.invariant in
    let before = c.args.answers.now.items in
    let next : take (k + 1) ts ≡ take k ts ++ t ∷ [] = take-next ts k t c.loop-turn-test.true c.turn-item.is in
    let here : MachineState = ran (take k ts) s in
    let answer : c.args.keep ≡ true → c.counted_turn.new.answer ≡ (turn_of t here.machine).answer = λ kept. c.counted_turn.ensures.answer kept ∙ ap (λ r. (turn_of t r.machine).answer) i.0 in
    let after : c.counted_turn.new.machine ≡ state_after t here = c.counted_turn.ensures.after ∙ ap (state_after t) i.0 in
    let counts : c.counted_turn.new.counts ≡ counted_answer (turn_of t here.machine).answer c.loop-turn.counts = c.counted_turn.ensures.counts ∙ ap (λ r. counted_answer (turn_of t r.machine).answer c.loop-turn.counts) i.0 in
    let fall = spare-falls (turn_of t here.machine).answer here.spare in (
      after ∙ sym (ran-more (take k ts) t s) ∙ ap (λ l. ran l s) (sym next),
      counts ∙ ap (counted_answer (turn_of t here.machine).answer) i.1 ∙ sym (counts-more (take k ts) t s) ∙ ap (λ l. counts_in l s) (sym next),
      subst (AreBelow (k + 1 + 1)) (sym counts) (counted-below (k + 1) (turn_of t here.machine).answer c.loop-turn.counts i.2),
      omega (arith, i.3, fall, ap (λ r. r.spare) i.0, ap (λ r. r.spare) after),
      c.keep_answer.ensures.items ∙ kept-alike c.args.keep c.loop-turn.answers.items c.counted_turn.new.answer (turn_of t here.machine).answer answer ∙ ap (λ l. if c.args.keep then l ++ (turn_of t here.machine).answer ∷ [] else l) i.4 ∙ kept-more c.args.keep before (take k ts) t s ∙ ap (λ l. kept_answers c.args.keep before l s) (sym next),
      omega (arith, i.5, c.keep_answer.ensures.capacity),
    )

pub returns-clause-after : goal.returns-clause-after
returns-clause-after g c = c.loop-turn.invariant.0 ∙ ap (λ l. ran l c.args.machine.now) (take_all c.loop-turn.turn-index c.args.turns.now c.loop-turn-test.false)
