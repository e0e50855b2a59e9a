use Rattle.std.proofs.Common.{◌≡◌, ◌+◌, ◌++◌, ◌∷◌, [], List, refl, take, ap, subst, sym, ◌∙◌, arith}
use Rattle.std.proofs.lemmas.List.{take_all}
use Rattle.ddm_types.specs.declared.turns.Turn.{Turn}
use Rattle.tree_model.specs.State.Values.{MachineValue}
use Rattle.tree_model.specs.Turns.Machine.{turn_of}
use Rattle.explorer.specs.Losing.{LeadsTo, kept_at}
use Rattle.explorer.specs.Searching.{state_by}
use Rattle.explorer.specs.declared.losing.Way.{Way}
use Rattle.explorer.proofs.TurnsLooked.{gone-state, take-next}
use Rattle.explorer.proofs.Ways.{UnderWay, way-begun, way-more, way-done}
use Rattle.explorer.proofs.losing.push_ways.Goals as goal

pub loop-turn-init : goal.loop-turn-init
loop-turn-init g c = record {
  start = refl;
  at = refl;
  under = way-begun (g.M.States.start c.args.states.now) c.args.search.now c.args.from (g.M.States.at c.args.states.now) c.args.ways.now.items c.requires.ways;
}

pub loop-turn-preserved : goal.loop-turn-preserved
loop-turn-preserved g c =
    let m = g.M.States.start c.args.states.now in
    let v = c.args.search.now in
    let at = g.M.States.at c.args.states.now in
    let i = c.loop-turn.invariant in
    let t = c.turn-item.result in
    let done = take c.loop-turn.turn-index c.args.turns.now in
    let here : g.M.States.start c.make.new.self ≡ m = c.make.ensures.start ∙ i.start in
    let there : g.M.States.reached c.make.new.self ≡ (turn_of t at).machine = c.in_ok-make.ensures.reached ∙ ap (λ (s : MachineValue). (turn_of t s).machine) i.at in
    let leads : LeadsTo m v (turn_of t at).machine c.in_ok-to.to
    = subst (λ (n : MachineValue). LeadsTo m v n c.in_ok-to.to) there (subst (λ (n : MachineValue). LeadsTo n v (g.M.States.reached c.make.new.self) c.in_ok-to.to) here c.in_ok-to.ensures) in
    let way : Way = record { from = c.args.from; to = c.in_ok-to.to } in
    record {
      start = here;
      at = c.make.ensures.at ∙ i.at;
      under =
          subst (λ (ws : List Way). UnderWay m v c.args.from at (take (c.loop-turn.turn-index + 1) c.args.turns.now) ws) (sym c.in_ok-push.ensures.items)
          (subst (λ (ts : List Turn). UnderWay m v c.args.from at ts (c.loop-turn.ways.items ++ way ∷ [])) (sym (take-next c.args.turns.now c.loop-turn.turn-index t c.loop-turn-test.true c.turn-item.is))
          (way-more m v c.args.from at done c.loop-turn.ways.items t c.in_ok-to.to way refl i.under leads));
    }

pub reached-requires-clause-reached : goal.reached-requires-clause-reached
reached-requires-clause-reached g c =
    let m = g.M.States.start c.args.states.now in
    let v = c.args.search.now in
    let i = c.loop-turn.invariant in
    let t = c.turn-item.result in
    let us = (kept_at m v c.args.from).schedule in
    record {
      turns = us ++ t ∷ [];
      is =
          c.in_ok-make.ensures.reached ∙ ap (λ (s : MachineValue). (turn_of t s).machine) (i.at ∙ c.requires.at)
          ∙ sym (gone-state m us t) ∙ ap (λ (n : MachineValue). state_by n (us ++ t ∷ [])) (sym (c.make.ensures.start ∙ i.start));
    }

pub returns-clause-ways : goal.returns-clause-ways
returns-clause-ways g c =
    let m = g.M.States.start c.args.states.now in
    let all = take_all c.loop-turn.turn-index c.args.turns.now (omega (arith, c.loop-turn-test.false, c.loop-turn.auto.turn-index-end)) in
    way-done m c.args.search.now c.args.from (g.M.States.at c.args.states.now) (take c.loop-turn.turn-index c.args.turns.now) c.loop-turn.ways.items (all ∙ c.requires.turns) c.requires.at c.loop-turn.invariant.under
