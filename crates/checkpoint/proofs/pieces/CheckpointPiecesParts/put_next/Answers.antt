use Rattle.std.proofs.Common.{◌≡◌, ℕ, List, ◌+◌, ◌-◌, ◌++◌, take, drop, sym, ap, ◌∙◌, arith}
use Rattle.std.specs.List.{flat_map}
use Rattle.std.specs.Int.{w32, to_le_bytes}
use Rattle.checkpoint.specs.StateWords.Parts.{op_words}
use Rattle.checkpoint.specs.PiecesLeft.{bytes_left}
use Rattle.checkpoint.proofs.BytesLeft.{operations-more, words-more}
use Rattle.checkpoint.proofs.pieces.CheckpointPiecesParts.put_next.Goals as goal

pub returns-then-self-len-clause-part : goal.returns-then-self-len-clause-part
returns-then-self-len-clause-part c =
    let p = c.self.inside in
    let n = c.min-end.result - p.words_given in
    let to : p.words_given + n ≡ c.min-end.result = omega (arith, c.min-end.ensures, c.if-self-len.true, c.len.ensures, c.len-then-self-len.ensures) in
    let some : List ℕ → List ℕ = λ front. flat_map (to_le_bytes w32) (take n (drop p.words_given front)) in
    let from : ℕ → List ℕ = λ k. bytes_left k p.front.items p.ops_given p.ops.now.items p.is_ended in
    let put = c.put_words.ensures.bytes ∙ ap (λ l. l ++ some c.deref.result.now) c.requires ∙ ap some c.deref.ensures.value in
    sym c.self.view_is
    ∙ words-more p.words_given p.front.items p.ops_given p.ops.now.items p.is_ended n
    ∙ ap (λ k. some p.front.items ++ from k) to
    ∙ ap (λ l. l ++ from c.min-end.result) (sym put)

pub returns-then-self-len-2-clause-part : goal.returns-then-self-len-2-clause-part
returns-then-self-len-2-clause-part c =
    let p = c.self.inside in
    let n = c.min.result in
    let same : p.ops_given + n - p.ops_given ≡ n = omega arith in
    let some : ℕ → List ℕ = λ k. flat_map (to_le_bytes w32) (flat_map op_words (take k (drop p.ops_given p.ops.now.items))) in
    let rest = bytes_left p.words_given p.front.items (p.ops_given + n) p.ops.now.items p.is_ended in
    sym c.self.view_is
    ∙ operations-more p.words_given p.front.items p.ops_given p.ops.now.items p.is_ended n (omega (arith, c.if-self-len.false, c.len.ensures))
    ∙ ap (λ l. l ++ rest) (sym (c.put_operations.ensures.bytes ∙ ap some same))
