use Rattle.std.proofs.Common.{◌≡◌, ◌<◌, ◌+◌, ◌-◌, ◌%◌, ◌/◌, List, [], ◌∷◌, ◌++◌, take, ap, sym, ◌∙◌, arith}
use Rattle.std.proofs.Math.Nat.{mod-lt}
use Rattle.std.proofs.lemmas.List.{append_assoc}
use Rattle.schedule_log.specs.DdmTypes.declared.turns.Turn.{Turn}
use Rattle.text_model.specs.Schedule.{ShapeView}
use Rattle.text_model.specs.Seeded.{seeded_turn}
use Rattle.schedule_log.specs.Seeding.{turns_left}
use Rattle.schedule_log.proofs.Seeds.{next_left, put_either}
use Rattle.schedule_log.proofs.seeding.put_next.Goals as goal

pub returns-clause-front : goal.returns-clause-front
returns-clause-front g c = λ n.
    let a = c.next_word-a.result in
    let b = c.next_word-b.result in
    let shape : ShapeView = record { harts = c.args.harts.now; buses = g.D.BusDraws.widths c.args.draws.now } in
    let of_hart = c.both_turns-of_hart.result.0 in
    let low : a / 2 % 2 < 2 = mod-lt (a / 2) (omega arith) in
    let rest = turns_left shape c.next_word-b.new.self n in
    let one : n + 1 - 1 ≡ n = omega arith in
    let drawn : turns_left shape c.args.words.now (n + 1) ≡ seeded_turn shape a b ∷ rest = next_left shape c.args.words.now c.next_word-a.new.self c.next_word-b.new.self a b (n + 1) (omega arith) c.next_word-a.ensures c.next_word-b.ensures ∙ ap (λ k. seeded_turn shape a b ∷ turns_left shape c.next_word-b.new.self k) one in
    ap (λ (ts : List Turn). ts ++ rest) (put_either c.args.block.now c.args.place (a / 2 % 2) of_hart c.both_turns-of_hart.result.1.now of_hart low c.requires.inside ∙ ap (λ t. take c.args.place c.args.block.now ++ t ∷ []) (c.both_turns-of_hart.ensures of_hart))
    ∙ append_assoc (take c.args.place c.args.block.now) (seeded_turn shape a b ∷ []) rest
    ∙ ap (λ (ts : List Turn). take c.args.place c.args.block.now ++ ts) (sym drawn)
