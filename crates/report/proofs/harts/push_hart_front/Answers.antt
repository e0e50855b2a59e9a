use Rattle.report.specs.DdmText.Adds.{◌▸◌}
use Rattle.report.proofs.harts.push_hart_front.Goals as goal

pub returns-clause-text : goal.returns-clause-text
returns-clause-text g c =
    rw (c.halted.ensures, c.pc.ensures, c.done.ensures, c.registers.ensures)
    at (c.in_ok-push_hart_line.ensures.text ▸ c.in_ok-push_regs_line.ensures.text ▸ c.in_ok-push_bytes.ensures.text ▸ c.in_ok-push_hart.ensures.text ▸ c.in_ok-push_bytes-2.ensures.text)
