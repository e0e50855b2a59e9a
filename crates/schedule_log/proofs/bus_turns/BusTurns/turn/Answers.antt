use Rattle.std.proofs.Common.{◌+◌, ◌*◌, ◌%◌, ap, ◌∙◌, arith}
use Rattle.std.proofs.lemmas.Grind.{common_steps}
use Rattle.text_model.specs.Seeded.{bus_turn_from}
use Rattle.schedule_log.specs.Seeding.{OneBus}
use Rattle.schedule_log.proofs.Draws.{place_inside, stands_there}
use Rattle.schedule_log.proofs.bus_turns.BusTurns.turn.Goals as goal

pub index-requires : goal.index-requires
index-requires c =
    let b = c.self.inside in
    let inside = place_inside b.bus b.children b.sources c.divide-source.result.1 c.args.choice c.args.word b.turns.items c.self.invariant c.divide-source.ensures.remainder c.requires in
    grind (arith, common_steps, inside)

pub returns : goal.returns
returns c =
    let b = c.self.inside in
    c.index.ensures
    ∙ stands_there b.bus b.children b.sources c.divide-source.result.1 c.args.choice c.args.word b.turns.items _ c.self.invariant c.divide-source.ensures.remainder c.requires
    ∙ ap (λ (o : OneBus). bus_turn_from o.bus o.children c.args.choice (c.args.word % (1 + 3 * o.children))) c.self.view_is
