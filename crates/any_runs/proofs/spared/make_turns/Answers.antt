use Rattle.std.proofs.Common.{◌≡◌, ◌+◌, ◌<◌, ◌++◌, ◌∷◌, [], true, take, sym, ap, subst, ◌∙◌, arith}
use Rattle.any_runs.specs.TreeModel.Turns.Machine.{names_part, turn_of}
use Rattle.any_runs.specs.DdmTree.Machine.{MachineState, state_after}
use Rattle.std.proofs.lemmas.List.{take_all}
use Rattle.any_runs.specs.Run.{ran}
use Rattle.any_runs.proofs.RunMore.{named-here, ran-more, ran-none, spare-falls, take-next, turns-here}
use Rattle.any_runs.proofs.spared.make_turns.Goals as goal

pub loop-turn-init : goal.loop-turn-init
loop-turn-init g c = (sym (ran-none c.args.machine.now), omega (arith, c.requires.spare))

pub turn_into-requires : goal.turn_into-requires
turn_into-requires g c =
    let ts = c.args.turns.now in
    let k = c.loop-turn.turn-index in
    let s = c.args.machine.now in
    let i = c.loop-turn.invariant in
    let named : names_part c.turn-item.result c.loop-turn.machine.machine ≡ true = subst (λ r. names_part c.turn-item.result r.machine ≡ true) (sym i.0) (named-here ts k c.turn-item.result s c.requires.named c.loop-turn-test.true c.turn-item.is) in
    let few : c.loop-turn.machine.turns < 4294967295 = subst (λ r. r.turns < 4294967295) (sym i.0) (turns-here ts k s c.requires.few c.loop-turn-test.true) in
    (omega arith, (named, (omega (arith, i.1, c.loop-turn-test.true), few)))

pub loop-turn-preserved : goal.loop-turn-preserved
loop-turn-preserved g c =
    let ts = c.args.turns.now in
    let k = c.loop-turn.turn-index in
    let t = c.turn-item.result in
    let s = c.args.machine.now in
    let i = c.loop-turn.invariant in
    let next : take (k + 1) ts ≡ take k ts ++ t ∷ [] = take-next ts k t c.loop-turn-test.true c.turn-item.is in
    let here : MachineState = ran (take k ts) s in
    let after : c.turn_into.new.self ≡ state_after t here = c.turn_into.ensures.after ∙ ap (state_after t) i.0 in
    let fall = spare-falls (turn_of t here.machine).answer here.spare in
    (after ∙ sym (ran-more (take k ts) t s) ∙ ap (λ l. ran l s) (sym next), omega (arith, i.1, fall, ap (λ r. r.spare) i.0, ap (λ r. r.spare) after))

pub returns : goal.returns
returns g c = c.loop-turn.invariant.0 ∙ ap (λ l. ran l c.args.machine.now) (take_all c.loop-turn.turn-index c.args.turns.now c.loop-turn-test.false)
