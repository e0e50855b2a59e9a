use Rattle.std.proofs.Common.{arith, ◌∙◌}
use Rattle.ddm_cli.proofs.Telling.{end_failed, piece_failed, piece_written}
use Rattle.ddm_cli.proofs.unknown_key.tell_key.Goals as goal

pub returns-in_err-write_all-clause-err : goal.returns-in_err-write_all-clause-err
returns-in_err-write_all-clause-err g c =
    piece_failed c.from_residual.result _ _ _ c.as_bytes-bytes.result.now c.args.key.now c.as_slice.result.now c.telling.at c.min-end.result c.as_bytes-bytes.ensures.value (omega (arith, c.min-end.ensures, c.telling.invariant.within)) (c.as_slice.ensures ∙ c.shown.ensures) c.telling.invariant.written c.in_err-write_all.ensures.err

pub telling-preserved : goal.telling-preserved
telling-preserved g c = record {
  within = omega (arith, c.min-end.ensures);
  written = piece_written _ _ _ c.as_bytes-bytes.result.now c.as_slice.result.now c.telling.at c.min-end.result (omega (arith, c.min-end.ensures, c.telling.invariant.within)) (c.as_slice.ensures ∙ c.shown.ensures) c.telling.invariant.written c.in_ok-write_all.ensures.ok;
  later = omega (arith, c.telling.invariant.later, c.write_all.ensures.cause.later);
}

pub returns-clause-err : goal.returns-clause-err
returns-clause-err g c =
    end_failed c.write_all-2.result _ _ _ c.as_bytes-bytes.result.now c.args.key.now c.telling.at c.as_bytes-bytes.ensures.value c.telling-test.false c.telling.invariant.within c.telling.invariant.written c.write_all-2.ensures.err
