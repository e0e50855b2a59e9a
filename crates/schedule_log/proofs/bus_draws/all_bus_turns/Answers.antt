use Rattle.std.proofs.Common.{◌≡◌, ◌++◌, [], ◌∷◌, ℕ, List, map, ap, sym, ◌∙◌, arith}
use Rattle.std.specs.List.{range_with_len}
use Rattle.std.proofs.lemmas.List.FromFn.{map-range_with_len_more}
use Rattle.tree_config.specs.Levels.{widths_of}
use Rattle.schedule_log.specs.Seeding.{OneBus, bus_at}
use Rattle.schedule_log.proofs.bus_draws.all_bus_turns.Goals as goal

pub loop-bus-preserved : goal.loop-bus-preserved
loop-bus-preserved c =
    let of : ℕ → OneBus = bus_at (widths_of c.args.shape.now) in
    let bus = c.loop-bus.bus in
    let built : c.in_ok-new.field-0 ≡ of bus = c.in_ok-new.ensures ∙ ap (λ (n : ℕ). one bus n) c.width_at-children.ensures.width in
    c.in_ok-push.ensures.items
    ∙ ap (λ (l : List OneBus). l ++ c.in_ok-new.field-0 ∷ []) c.loop-bus.invariant
    ∙ ap (λ (o : OneBus). map of (range_with_len 0 bus) ++ o ∷ []) built
    ∙ sym (map-range_with_len_more of 0 bus bus (omega arith))
  where
    one : ℕ → ℕ → OneBus
    one bus children = record { bus = bus; children = children }
