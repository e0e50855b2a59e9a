use Rattle.std.proofs.Common.{drop, get_or, refl, arith}
use Rattle.std.proofs.lemmas.List.{drop_all}
use Rattle.film_model.specs.Leaf.{register_part}
use Rattle.film_model.specs.Part.{numbered}
use Rattle.film_parts.proofs.Numbered.{drop_next, numbered_step, numbered_last}
use Rattle.film_parts.proofs.leaves.add_registers.Goals as goal

pub registers-init : goal.registers-init
registers-init c = refl

pub registers-preserved : goal.registers-preserved
registers-preserved c =
    numbered_step (register_part c.args.leaf) c.registers.number (get_or c.args.registers.now c.registers.number 0) (drop c.registers.number c.args.registers.now) _ c.args.still.now
    (numbered (register_part c.args.leaf) 1 (drop 1 c.args.registers.now)) c.registers.still _ (drop_next c.args.registers.now c.registers.number 0 (omega (arith, c.registers-test.true, c.told-registers))) c.registers.invariant c.in_ok-add_register.ensures

pub returns : goal.returns
returns c =
    numbered_last (register_part c.args.leaf) c.registers.number (drop c.registers.number c.args.registers.now) c.args.still.now (numbered (register_part c.args.leaf) 1 (drop 1 c.args.registers.now))
    c.registers.still (drop_all c.registers.number c.args.registers.now (omega (arith, c.registers-test.false, c.told-registers))) c.registers.invariant
