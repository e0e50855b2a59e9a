use Rattle.std.proofs.Common.{◌≡◌, ◌<◌, ◌+◌, ◌-◌, List, drop, get_or, length, take, sym, ap, ◌∙◌, arith}
use Rattle.std.proofs.lemmas.List.{get_or-drop, length-drop}
use Rattle.checkpoint.specs.DdmTypes.declared.operations.Op.{Op}
use Rattle.checkpoint.specs.StateWords.Parts.{op_words}
use Rattle.std.specs.List.{flat_map}
use Rattle.checkpoint.proofs.WordBytes.{bytes_of, operation-behind}
use Rattle.checkpoint.proofs.pieces.put_operations.Goals as goal

pub loop-place-preserved : goal.loop-place-preserved
loop-place-preserved c =
    let all = c.args.ops.now.items in
    let ops : List Op = drop c.args.from all in
    let k = c.loop-place.place - c.args.from in
    let at : c.args.from + k ≡ c.loop-place.place = omega arith in
    let next : k + 1 ≡ c.loop-place.place + 1 - c.args.from = omega arith in
    let inside : k < length ops = omega (arith, length-drop c.args.from all, c.loop-place-test.true, c.requires.end) in
    let here : c.get.result ≡ get_or ops k c.get.result = c.get.ensures _ ∙ (ap (λ n. get_or all n c.get.result) (sym at) ∙ sym (get_or-drop c.args.from all k c.get.result)) in
    record {
      bytes = operation-behind ops k c.get.result c.loop-place.line c.put_operation.new.line inside here c.loop-place.invariant.bytes c.put_operation.ensures.bytes ∙ ap (λ n. bytes_of (flat_map op_words (take n ops))) next;
      long = omega (arith, c.loop-place.invariant.long, c.put_operation.ensures.long, next);
    }
