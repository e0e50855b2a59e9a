use Rattle.std.proofs.Common.{◌≡◌, ◌+◌, ◌-◌, ◌<◌, length, drop, take, ap, sym, ◌∙◌, arith}
use Rattle.std.specs.Prelude.{slice_set}
use Rattle.text_model.specs.Schedule.{ShapeView}
use Rattle.schedule_log.specs.Draws.{widths_drawn}
use Rattle.schedule_log.specs.Seeding.{SeededView}
use Rattle.schedule_log.proofs.Seeds.{front_drawn, last_before, left_as, left_behind, left_counted}
use Rattle.schedule_log.proofs.seeding.SeededTurns.next_block.Goals as goal

pub overflow_cast-self : goal.overflow_cast-self
overflow_cast-self c =
    let s = c.self.inside in
    let shape : ShapeView = record { harts = s.harts; buses = widths_drawn s.draws } in
    let counted = sym (left_counted shape s.words s.left) ∙ ap (λ (v : SeededView). length v.left) c.self.view_is in
    omega (arith, counted, c.min-count.ensures, c.len.ensures, c.self.ranges.1.0.1)

pub overflow_sub-self-2 : goal.overflow_sub-self-2
overflow_sub-self-2 c =
    let s = c.self.inside in
    let shape : ShapeView = record { harts = s.harts; buses = widths_drawn s.draws } in
    let counted = sym (left_counted shape s.words s.left) ∙ ap (λ (v : SeededView). length v.left) c.self.view_is in
    omega (arith, counted, c.min-count.ensures, c.len.ensures)

pub next_turn-requires : goal.next_turn-requires
next_turn-requires c =
    let s = c.self.inside in
    let shape : ShapeView = record { harts = s.harts; buses = widths_drawn s.draws } in
    let counted = sym (left_counted shape s.words s.left) ∙ ap (λ (v : SeededView). length v.left) c.self.view_is in
    let made = c.min-count.result - 1 in
    let fewer : made < s.left = omega (arith, counted, c.min-count.ensures, c.len.ensures, c.if-count-eq0.false) in
    omega (arith, fewer, left_counted shape c.put_drawn.new.words (s.left - made))

pub returns-clause-block : goal.returns-clause-block
returns-clause-block c =
    let s = c.self.inside in
    let shape : ShapeView = record { harts = s.harts; buses = widths_drawn s.draws } in
    let all = c.args.self.now.left in
    let block = c.put_drawn.new.block in
    let made = c.min-count.result - 1 in
    let left = ap (λ (v : SeededView). v.left) c.self.view_is in
    let counted = sym (left_counted shape s.words s.left) ∙ ap length left in
    let fewer : made < s.left = omega (arith, counted, c.min-count.ensures, c.len.ensures, c.if-count-eq0.false) in
    let inside : made < length block = omega (arith, c.min-count.ensures, c.len.ensures, c.if-count-eq0.false, c.put_drawn.auto.block) in
    let last : made + 1 ≡ c.min-count.result = omega (arith, c.if-count-eq0.false) in
    let split = front_drawn shape s.words c.put_drawn.new.words s.left made block all left fewer (omega (arith, inside)) (c.put_drawn.ensures.front (s.left - made)) in
    ap (λ n. take n (slice_set block made c.next_turn.result)) (sym last)
    ∙ last_before made block all c.next_turn.result c.next_turn.new.self.left inside split.0 (split.1 ∙ c.next_turn.ensures.turn)
    ∙ ap (λ n. take n all) last

pub returns-clause-left : goal.returns-clause-left
returns-clause-left c =
    let s = c.self.inside in
    let shape : ShapeView = record { harts = s.harts; buses = widths_drawn s.draws } in
    let all = c.args.self.now.left in
    let made = c.min-count.result - 1 in
    let left = ap (λ (v : SeededView). v.left) c.self.view_is in
    let counted = sym (left_counted shape s.words s.left) ∙ ap length left in
    let fewer : made < s.left = omega (arith, counted, c.min-count.ensures, c.len.ensures, c.if-count-eq0.false) in
    let inside : made < length c.put_drawn.new.block = omega (arith, c.min-count.ensures, c.len.ensures, c.if-count-eq0.false, c.put_drawn.auto.block) in
    let last : made + 1 ≡ c.min-count.result = omega (arith, c.if-count-eq0.false) in
    let split = front_drawn shape s.words c.put_drawn.new.words s.left made c.put_drawn.new.block all left fewer (omega (arith, inside)) (c.put_drawn.ensures.front (s.left - made)) in
    let behind = left_behind made all c.next_turn.result c.next_turn.new.self.left (split.1 ∙ c.next_turn.ensures.turn) in
    left_as c.next_turn.new.self c.args.self.now _ (c.next_turn.ensures.shape ∙ ap (λ (v : SeededView). v.shape) c.self.view_is) (behind ∙ ap (λ n. drop n all) last)
