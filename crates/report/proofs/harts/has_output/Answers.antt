use Rattle.std.proofs.Common.{◌≡◌, ◌<◌, true, false, List, take, get_or, length, sym, ◌∙◌, arith}
use Rattle.std.proofs.lemmas.List.{get_or-take, length-take-le}
use Rattle.report.specs.DdmTypes.declared.operations.Op.{Op}
use Rattle.report.proofs.Lines.{byte-from}
use Rattle.report.proofs.harts.has_output.Goals as goal

pub returns-then-puts_byte : goal.returns-then-puts_byte
returns-then-puts_byte c =
    let place = c.loop-place.place in
    let ops : List Op = take c.args.end c.args.ops.now.items in
    let inside : place < length ops = omega (arith, c.loop-place-test.true, length-take-le c.args.end c.args.ops.now.items c.requires) in
    let here : c.get.result ≡ get_or ops place c.get.result = c.get.ensures _ ∙ sym (get_or-take c.args.end c.args.ops.now.items place c.get.result c.loop-place-test.true) in
    sym (byte-from c.args.hart place ops c.get.result true inside here (sym c.puts_byte.ensures ∙ c.if-puts_byte.true)) ∙ c.loop-place.invariant

pub loop-place-preserved : goal.loop-place-preserved
loop-place-preserved c =
    let place = c.loop-place.place in
    let ops : List Op = take c.args.end c.args.ops.now.items in
    let inside : place < length ops = omega (arith, c.loop-place-test.true, length-take-le c.args.end c.args.ops.now.items c.requires) in
    let here : c.get.result ≡ get_or ops place c.get.result = c.get.ensures _ ∙ sym (get_or-take c.args.end c.args.ops.now.items place c.get.result c.loop-place-test.true) in
    sym (byte-from c.args.hart place ops c.get.result false inside here (sym c.puts_byte.ensures ∙ c.if-puts_byte.false)) ∙ c.loop-place.invariant
