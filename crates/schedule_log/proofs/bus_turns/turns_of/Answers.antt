use Rattle.std.proofs.Common.{◌++◌, [], ◌∷◌, List, map, ap, sym, ◌∙◌, arith}
use Rattle.std.specs.List.{range_with_len}
use Rattle.std.proofs.lemmas.List.FromFn.{map-range_with_len_more}
use Rattle.schedule_log.specs.DdmTypes.declared.turns.Turn.{Turn}
use Rattle.schedule_log.specs.Seeding.{turn_at}
use Rattle.schedule_log.proofs.bus_turns.turns_of.Goals as goal

pub loop-place-preserved : goal.loop-place-preserved
loop-place-preserved c =
    let turn = turn_at c.args.bus c.args.children in
    let place = c.loop-place.place in
    c.in_ok-push.ensures.items
    ∙ ap (λ (ts : List Turn). ts ++ c.bus_turn.result ∷ []) c.loop-place.invariant
    ∙ ap (λ (t : Turn). map turn (range_with_len 0 place) ++ t ∷ []) c.bus_turn.ensures
    ∙ sym (map-range_with_len_more turn 0 place place (omega arith))
