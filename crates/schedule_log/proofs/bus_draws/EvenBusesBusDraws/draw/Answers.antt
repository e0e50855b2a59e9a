use Rattle.std.proofs.Common.{◌+◌, ◌*◌, ◌/◌, ◌%◌, ◌<◌, ℕ, List, get_or, ap, ◌∙◌, arith}
use Rattle.std.proofs.lemmas.Grind.{common_steps}
use Rattle.std.proofs.lemmas.Nat.{mod_below}
use Rattle.text_model.specs.Seeded.{seeded_turn}
use Rattle.schedule_log.proofs.Draws.{by_even, even_inside}
use Rattle.schedule_log.proofs.bus_draws.EvenBusesBusDraws.draw.Goals as goal

pub index-requires : goal.index-requires
index-requires c =
    let e = c.self.inside in
    let few : c.args.a / 4 % 16 < 16 = mod_below (c.args.a / 4) 16 (omega arith) in
    let inside = even_inside e.buses e.children e.sources c.args.b (c.args.a / 4 % 16) e.turns.items c.self.invariant few in
    grind (arith, common_steps, inside, c.remainder-source.ensures)

pub returns : goal.returns
returns c harts high =
    let e = c.self.inside in
    c.index.ensures
    ∙ ap (λ (n : ℕ). get_or e.turns.items (n * 16 + c.args.a / 4 % 16) c.index.result.now) c.remainder-source.ensures
    ∙ by_even harts e.buses e.children e.sources c.args.a c.args.b e.turns.items c.index.result.now c.self.invariant high
    ∙ ap (λ (ws : List ℕ). seeded_turn (record { harts = harts; buses = ws }) c.args.a c.args.b) c.self.view_is
