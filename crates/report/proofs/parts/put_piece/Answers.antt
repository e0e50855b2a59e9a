use Rattle.std.proofs.Common.{◌≡◌, ◌≤◌, ◌+◌, ◌-◌, ◌++◌, length, take, drop, sym, ap, ◌∙◌, arith, append_assoc}
use Rattle.std.proofs.lemmas.List.{length-drop, length-take-le}
use Rattle.std.proofs.lemmas.Slice.{take-put_mid}
use borrow.Rule.Slice.PartMut.{same_len_mid}
use Rattle.report.proofs.parts.put_piece.Goals as goal

pub parts-preserved : goal.parts-preserved
parts-preserved g c =
    let xs = c.parts.into in
    let at = c.parts.filled in
    let n = c.len.result in
    let ys = c.copy_from_slice.new.self in
    let line = c.put_next.new.line in
    let left = g.P.Parts.left c.put_next.new.self in
    let copied : ys ≡ line = c.copy_from_slice.ensures.after ∙ c.as_slice.ensures in
    let size : length ys ≡ n = ap length copied ∙ sym c.len.ensures.length in
    let fits : at + n ≤ length xs = omega (arith, c.parts.invariant.within, c.parts-test.true, c.len.ensures.within) in
    let part : at + n - at ≡ n = omega arith in
    let middle : length (take (at + n - at) (drop at xs)) ≡ n = length-take-le (at + n - at) (drop at xs) (omega (arith, length-drop at xs, fits)) ∙ part in
    let same = same_len_mid at (at + n - at) xs ys (size ∙ sym middle) in
    let given = take-put_mid at (at + n - at) xs ys (at + n) (omega (arith, size)) c.parts.invariant.within in
    record {
      within = omega (arith, same, fits);
      given = c.parts.invariant.given
          ∙ ap (λ t. take at xs ++ t) c.put_next.ensures.part
          ∙ sym (append_assoc (take at xs) line left)
          ∙ ap (λ t. t ++ left) (ap (λ l. take at xs ++ l) (sym copied) ∙ sym given);
    }
