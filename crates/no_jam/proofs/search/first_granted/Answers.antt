use Rattle.std.proofs.Common.{◌≡◌, ◌<◌, None, true, sym, ap, ◌∙◌, arith}
use Rattle.std.specs.Prelude.{find, is_some, unwrap_or}
use Rattle.no_jam.specs.TreeModel.State.Shape.{tree_counts}
use Rattle.no_jam.specs.TreeModel.Turns.Machine.{child_count}
use Rattle.any_machine.specs.Any.{machine_state}
use Rattle.jam_laws.specs.GoesOn.{first_granted, turns_of_bus, would_grant}
use Rattle.no_jam.proofs.StateJudging.BusNumbers.{numbered-bus}
use Rattle.no_jam.proofs.Searching.{given-start, given-past, given-here, none-there}
use Rattle.no_jam.proofs.search.first_granted.Goals as goal

pub loop-bus-init : goal.loop-bus-init
loop-bus-init c =
    let m = (machine_state c.args.machine.now).machine in
    given-start (would_grant m) (λ bus. turns_of_bus bus (unwrap_or (child_count bus m) 0)) (tree_counts m).buses

pub first_of_bus-turn-requires : goal.first_of_bus-turn-requires
first_of_bus-turn-requires c =
    let m = (machine_state c.args.machine.now).machine in
    let same : c.counts-buses.result.buses ≡ (tree_counts m).buses = ap (λ k. k.buses) c.counts-buses.ensures.counts in
    numbered-bus m c.loop-bus.bus c.counts-buses.ensures.shape (omega (arith, same, c.loop-bus-test.true))

pub returns-then-is_some : goal.returns-then-is_some
returns-then-is_some c =
    let m = (machine_state c.args.machine.now).machine in
    let same : c.counts-buses.result.buses ≡ (tree_counts m).buses = ap (λ k. k.buses) c.counts-buses.ensures.counts in
    let low : c.loop-bus.bus < (tree_counts m).buses = omega (arith, same, c.loop-bus-test.true) in
    let some : is_some (find (would_grant m) (turns_of_bus c.loop-bus.bus (unwrap_or (child_count c.loop-bus.bus m) 0))) ≡ true = ap is_some (sym c.first_of_bus-turn.ensures) ∙ sym c.is_some.ensures ∙ c.if-is_some.true in
    c.first_of_bus-turn.ensures ∙ sym (given-here (would_grant m) (λ bus. turns_of_bus bus (unwrap_or (child_count bus m) 0)) (first_granted m) c.loop-bus.bus (tree_counts m).buses low some c.loop-bus.invariant)

pub loop-bus-preserved : goal.loop-bus-preserved
loop-bus-preserved c =
    let m = (machine_state c.args.machine.now).machine in
    let same : c.counts-buses.result.buses ≡ (tree_counts m).buses = ap (λ k. k.buses) c.counts-buses.ensures.counts in
    let low : c.loop-bus.bus < (tree_counts m).buses = omega (arith, same, c.loop-bus-test.true) in
    let none : find (would_grant m) (turns_of_bus c.loop-bus.bus (unwrap_or (child_count c.loop-bus.bus m) 0)) ≡ None = sym c.first_of_bus-turn.ensures ∙ none-there c.first_of_bus-turn.result (sym c.is_some.ensures ∙ c.if-is_some.false) in
    given-past (would_grant m) (λ bus. turns_of_bus bus (unwrap_or (child_count bus m) 0)) (first_granted m) c.loop-bus.bus (tree_counts m).buses low none c.loop-bus.invariant
