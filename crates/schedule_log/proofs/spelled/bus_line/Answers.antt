use Rattle.std.proofs.Common.{arith}
use Rattle.text_model.specs.Schedule.{turn_text}
use Rattle.schedule_log.proofs.Spellings.{◌▷◌, spelled, with_child}
use Rattle.schedule_log.proofs.spelled.bus_line.Goals as goal

pub returns-in_ok-end : goal.returns-in_ok-end
unfolding turn_text
returns-in_ok-end c =
    let bus = c.in_ok-number_of_bus.ensures.begins in
    spelled c.args.text.now _ c.in_ok-end.end.now bus.few
    (c.in_ok-mark.ensures.begins ▷ c.in_ok-front.ensures.begins ▷ bus.front ▷ (c.in_ok-kind.ensures.begins ▷ c.in-Some.ensures.begins) ▷ c.in_ok-end.ensures.begins)

pub returns-in_ok-end-2 : goal.returns-in_ok-end-2
unfolding turn_text
returns-in_ok-end-2 c =
    let bus = c.in_ok-number_of_bus in
    let child = c.in-Some-child in
    let front = c.in_ok-mark.ensures.begins ▷ c.in_ok-front.ensures.begins ▷ bus.ensures.begins.front in
    spelled c.args.text.now _ c.in_ok-end-2.end.now (bus.ensures.begins.few, child.ensures.begins.few)
    (with_child c.args.text.now _ bus.space.now c.in_ok-kind.kind.now 113 child.number_of_child child.last.now front c.in_ok-kind.ensures.begins child.ensures.begins ▷ c.in_ok-end-2.ensures.begins)

pub returns-in_ok-end-3 : goal.returns-in_ok-end-3
unfolding turn_text
returns-in_ok-end-3 c =
    let bus = c.in_ok-number_of_bus in
    let child = c.in-Some-child-2 in
    let front = c.in_ok-mark.ensures.begins ▷ c.in_ok-front.ensures.begins ▷ bus.ensures.begins.front in
    spelled c.args.text.now _ c.in_ok-end-3.end.now (bus.ensures.begins.few, child.ensures.begins.few)
    (with_child c.args.text.now _ bus.space.now c.in_ok-kind.kind.now 114 child.number_of_child child.last.now front c.in_ok-kind.ensures.begins child.ensures.begins ▷ c.in_ok-end-3.ensures.begins)

pub returns-else-choice-gt255 : goal.returns-else-choice-gt255
unfolding turn_text
returns-else-choice-gt255 c =
    let bus = c.in_ok-number_of_bus in
    let child = c.in_ok-number_of_child in
    let front = c.in_ok-mark.ensures.begins ▷ c.in_ok-front.ensures.begins ▷ bus.ensures.begins.front in
    spelled c.args.text.now _ c.in_ok-end-4.end.now (bus.ensures.begins.few, child.ensures.begins.few, omega (arith, c.if-choice-gt255.false))
    (with_child c.args.text.now _ bus.space.now c.in_ok-kind.kind.now 108 child.number_of_child child.gap.now front c.in_ok-kind.ensures.begins child.ensures.begins
    ▷ c.in_ok-fourth.ensures.begins ▷ c.in_ok-choice.ensures.begins.front ▷ c.in_ok-end-4.ensures.begins)
