use Rattle.std.proofs.Common.{arith, drop, take, length, ◌∙◌, ap}
use Rattle.std.proofs.lemmas.List.{length-take, length-drop, take_rest}
use Rattle.ddm_outside.proofs.Parts.{copied_part}
use Rattle.ddm_outside.proofs.named_files.copy_part.Goals as goal

pub returns-clause-part : goal.returns-clause-part
returns-clause-part c =
    let rest = drop c.args.at c.args.bytes.now in
    let n = c.min-n.ensures in
    let whole = take_rest c.args.bytes.now c.args.at in
    let len = length-drop c.args.at c.args.bytes.now in
    copied_part c.args.bytes.now c.copy_from_slice.new.self _ c.args.at c.min-n.result
    (omega (arith, c.copy_from_slice.ensures.len, length-take c.min-n.result c.args.into.now, ap length whole))
    (c.copy_from_slice.ensures.after ∙ ap (λ t. take c.min-n.result t) whole)
    (λ z. absurd (omega (arith, ap length whole)))
    (λ past. absurd (omega arith))
