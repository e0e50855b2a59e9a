use Rattle.std.proofs.Common.{ℕ, List, ap, ◌∙◌}
use Rattle.text_model.specs.Seeded.{seeded_turn}
use Rattle.schedule_log.proofs.Draws.{by_bus}
use Rattle.schedule_log.proofs.bus_draws.EachBusBusDraws.draw.Goals as goal

pub returns : goal.returns
returns c harts high =
    let e = c.self.inside in
    by_bus harts e.list.items e.buses c.args.a c.args.b c.divide-word.result.1 c.divide-word.result.0 c.index.result.now c.turn.result.now c.self.invariant.each c.self.invariant.number c.self.invariant.some
    c.divide-word.ensures.quotient c.divide-word.ensures.remainder c.index.ensures c.turn.ensures high
    ∙ ap (λ (ws : List ℕ). seeded_turn (record { harts = harts; buses = ws }) c.args.a c.args.b) c.self.view_is
