use Rattle.std.proofs.Common.{arith}
use Rattle.text_model.specs.Schedule.{turn_text}
use Rattle.schedule_log.proofs.Spellings.{◌▷◌, spelled}
use Rattle.schedule_log.proofs.spelled.hart_line.Goals as goal

pub returns : goal.returns
unfolding turn_text
returns c =
    spelled c.args.text.now _ c.in_ok-end.end.now (c.in_ok-hart.ensures.begins.few, omega (arith, c.if-victim-gt255.false))
    (c.in_ok-mark.ensures.begins ▷ c.in_ok-front.ensures.begins ▷ c.in_ok-hart.ensures.begins.front ▷ c.in_ok-second.ensures.begins ▷ c.in_ok-victim.ensures.begins.front ▷ c.in_ok-end.ensures.begins)
