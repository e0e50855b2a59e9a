use Rattle.std.proofs.Common.{◌≡◌, ◌<◌, ◌++◌, [], ◌∷◌, length, replicate, ap, sym, ◌∙◌, arith}
use Rattle.std.specs.Prelude.{slice_index_or}
use Rattle.std.proofs.lemmas.List.{replicate_more, take_all, take_more}
use Rattle.tree_config.specs.Levels.{widths_of}
use Rattle.schedule_log.proofs.bus_draws.even_width.Goals as goal

pub loop-bus-preserved : goal.loop-bus-preserved
loop-bus-preserved c =
    let widths = widths_of c.args.shape.now in
    let bus = c.loop-bus.bus in
    let inside : bus < length widths = omega (arith, c.loop-bus-test.true, c.requires.count) in
    take_more widths bus 0 inside
    ∙ ap (λ front. front ++ slice_index_or widths bus 0 ∷ []) c.loop-bus.invariant
    ∙ ap (λ w. replicate bus c.width_at-children.result ++ w ∷ []) (sym c.width_at.ensures.width ∙ c.if-width_at-children.false)
    ∙ replicate_more bus c.width_at-children.result

pub returns-clause-all : goal.returns-clause-all
returns-clause-all c =
    let widths = widths_of c.args.shape.now in
    let whole : c.loop-bus.bus ≡ length widths = omega (arith, c.loop-bus-test.false, c.loop-bus.auto.bus-end, c.requires.count) in
    sym (take_all c.loop-bus.bus widths (omega (arith, whole))) ∙ c.loop-bus.invariant ∙ ap (λ n. replicate n c.width_at-children.result) whole
