use Rattle.std.proofs.Common.{◌≡◌, ◌+◌, ◌++◌, ◌∷◌, [], true, take, refl, sym, ap, subst, ◌∙◌, arith}
use Rattle.film.proofs.AnyRuns.RunMore.{below-none, counts-none, named-here, take-next}
use Rattle.film_runs.specs.FilmModel.Still.{still}
use Rattle.film_runs.specs.AnyMachine.Any.{machine_state}
use Rattle.film_runs.specs.AnyRuns.Run.{AreBelow}
use Rattle.film_runs.specs.DdmTree.Machine.{MachineState}
use Rattle.film_runs.specs.Film.Filmed.{IsFilmed}
use Rattle.film_runs.specs.TreeModel.State.Shape.{IsShaped}
use Rattle.film_runs.specs.TreeModel.State.Values.{MachineValue}
use Rattle.film_runs.specs.TreeModel.Turns.Machine.{names_part, turn_of}
use Rattle.film.proofs.TreeModel.FrameKept.{run-shape}
use Rattle.film_runs.proofs.MoreTurns.{below_after, counts_after, machine_more, machine_none, one_below, text_more, text_none}
use Rattle.film_runs.proofs.OneTurn.{machine_after}
use Rattle.film_runs.proofs.turns.film_turns.Goals as goal

pub loop-turn-init : goal.loop-turn-init
loop-turn-init c =
    let s = machine_state c.args.machine.now in (
      text_none c.args.text.now.items s.machine,
      machine_none s.machine,
      omega arith,
      c.no_counts-counts.ensures ∙ sym (counts-none s),
      subst (AreBelow 1) (sym c.no_counts-counts.ensures) below-none,
      c.requires.before,
      c.requires.filmed,
      refl,
    )

pub film_turn-requires-clause-shape : goal.film_turn-requires-clause-shape
film_turn-requires-clause-shape c =
    subst IsShaped (sym c.loop-turn.invariant.1) (run-shape (take c.loop-turn.turn-index c.args.turns.now) (machine_state c.args.machine.now).machine c.requires.shape)

pub film_turn-requires-clause-named : goal.film_turn-requires-clause-named
film_turn-requires-clause-named c =
    subst (λ (m : MachineValue). names_part c.turn-item.result m ≡ true) (sym c.loop-turn.invariant.1)
    (named-here c.args.turns.now c.loop-turn.turn-index c.turn-item.result (machine_state c.args.machine.now) c.requires.named c.loop-turn-test.true c.turn-item.is)

pub add_counts-requires-clause-one : goal.add_counts-requires-clause-one
add_counts-requires-clause-one c = one_below c.in_ok-more.more c.turn-item.result (machine_state c.loop-turn.machine) c.in_ok-more.ensures.counts

pub loop-turn-preserved : goal.loop-turn-preserved
loop-turn-preserved c =
    let ts = c.args.turns.now in
    let k = c.loop-turn.turn-index in
    let t = c.turn-item.result in
    let s = machine_state c.args.machine.now in
    let here = machine_state c.loop-turn.machine in
    let i = c.loop-turn.invariant in
    let next : take (k + 1) ts ≡ take k ts ++ t ∷ [] = take-next ts k t c.loop-turn-test.true c.turn-item.is in
    let made : (machine_state c.film_turn.new.machine).machine ≡ (turn_of t here.machine).machine = machine_after (machine_state c.film_turn.new.machine) here t c.in_ok-more.ensures.machine in
    let turns = ap (λ (r : MachineState). r.turns) c.in_ok-more.ensures.machine in (
      text_more c.args.text.now.items c.loop-turn.text.items c.film_turn.new.text.items ts k c.loop-turn.number t s.machine here.machine c.loop-turn-test.true next i.0 i.1 i.7 c.in_ok-more.ensures.text,
      machine_more ts k t s.machine here.machine (machine_state c.film_turn.new.machine).machine next i.1 made,
      omega (arith, turns, i.2),
      counts_after c.loop-turn.counts c.in_ok-more.more c.add_counts.new.counts ts k t s here next c.add_counts.ensures c.in_ok-more.ensures.counts i.3 i.1,
      below_after c.loop-turn.counts c.in_ok-more.more c.add_counts.new.counts k t here c.add_counts.ensures c.in_ok-more.ensures.counts i.4,
      c.in_ok-more.ensures.before ∙ ap still (sym made),
      subst (λ (m : MachineValue). IsFilmed c.args.levels.now m) (sym made) c.in_ok-more.ensures.filmed,
      omega (arith, i.7),
    )
