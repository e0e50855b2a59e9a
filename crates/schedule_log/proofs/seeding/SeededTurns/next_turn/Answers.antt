use Rattle.std.proofs.Common.{◌<◌, ◌-◌, ◌∷◌, length, ap, sym, ◌∙◌, arith}
use Rattle.text_model.specs.Schedule.{ShapeView}
use Rattle.schedule_log.specs.Draws.{widths_drawn}
use Rattle.schedule_log.specs.Seeding.{SeededView, turns_left}
use Rattle.schedule_log.proofs.Seeds.{left_counted, next_left}
use Rattle.schedule_log.proofs.seeding.SeededTurns.next_turn.Goals as goal

pub overflow_sub-self : goal.overflow_sub-self
overflow_sub-self c =
    let shape : ShapeView = record { harts = c.self.inside.harts; buses = widths_drawn c.self.inside.draws } in
    let counted = sym (left_counted shape c.self.inside.words c.self.inside.left) ∙ ap (λ (v : SeededView). length v.left) c.self.view_is in
    omega (arith, counted, c.requires)

pub returns-clause-turn : goal.returns-clause-turn
returns-clause-turn c =
    let s = c.self.inside in
    let shape : ShapeView = record { harts = s.harts; buses = widths_drawn s.draws } in
    let a = c.next_word-a.result in
    let b = c.next_word-b.result in
    let all = ap (λ (v : SeededView). v.left) c.self.view_is in
    let counted = sym (left_counted shape s.words s.left) ∙ ap length all in
    let some : 0 < s.left = omega (arith, counted, c.requires) in
    let turn = c.both_turns-of_hart.ensures _ in
    sym all ∙ next_left shape s.words c.next_word-a.new.self c.next_word-b.new.self a b s.left some c.next_word-a.ensures c.next_word-b.ensures
    ∙ ap (λ t. t ∷ turns_left shape c.next_word-b.new.self (s.left - 1)) (sym turn)
