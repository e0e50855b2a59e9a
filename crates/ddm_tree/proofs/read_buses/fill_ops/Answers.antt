use Rattle.std.proofs.Common.{rules, ◌≡◌, ◌∙◌, Err, arith, drop}
use Rattle.ddm_tree.specs.StateReading.Parts.{read_op}
use Rattle.ddm_tree.proofs.StateReading.Steps.{one_step_more, one_step_refused, times_done}
use Rattle.ddm_tree.proofs.read_buses.fill_ops.Goals as goal

pub returns-in_err-add_op-clause-refused : goal.returns-in_err-add_op-clause-refused
returns-in_err-add_op-clause-refused c =
    let e = c.in_err-add_op.field-0.0 in
    let is : c.from_residual-in_err-add_op.result ≡ Err e = search rules in
    rw is (λ other. one_step_refused (read_op c.args.counts.depth c.args.counts.leaves) c.args.retired c.loop-number._number c.loop-number.ops.items c.loop-number.next (drop c.loop-number.next c.args.words.now) e _ (omega arith) c.loop-number.invariant.left (c.in_err-add_op.ensures.refused other))

pub loop-number-preserved : goal.loop-number-preserved
loop-number-preserved c = record {
  left = one_step_more (read_op c.args.counts.depth c.args.counts.leaves) c.args.retired c.loop-number._number c.loop-number.ops.items c.loop-number.next (drop c.loop-number.next c.args.words.now) _ _ _ _ (omega arith) c.loop-number.invariant.left c.in_ok-add_op.ensures.read;
  inside = c.in_ok-add_op.ensures.inside;
  many = omega (arith, c.in_ok-add_op.ensures.more, c.loop-number.invariant.many);
}

pub returns-clause-read : goal.returns-clause-read
returns-clause-read c =
    c.loop-number.invariant.left ∙ times_done (read_op c.args.counts.depth c.args.counts.leaves) c.args.retired c.loop-number._number c.loop-number.ops.items c.loop-number.next (drop c.loop-number.next c.args.words.now) (omega arith)
