use Rattle.std.proofs.Common.{[], ◌<◌, drop, length, refl, sym, ◌∙◌, arith}
use Rattle.litmus_model.specs.Operands.{fence_letters}
use Rattle.litmus_words.proofs.TakenLetters.{all_taken, begun, some_taken}
use Rattle.litmus_words.proofs.letters.letter_bits.Goals as goal

pub returns-then-w-word-clause-bits : goal.returns-then-w-word-clause-bits
returns-then-w-word-clause-bits c =
    let word = c.args.word.now in
    sym
    (begun (record { bits = 0; at = 0 }) word refl refl ∙ c.after_letter-i.ensures.left (drop 1 fence_letters) ∙ c.after_letter-o.ensures.left (drop 2 fence_letters)
    ∙ c.after_letter-r.ensures.left (drop 3 fence_letters) ∙ c.after_letter-w.ensures.left [] ∙ all_taken c.after_letter-w.result word c.if-w-word.true)

pub returns-else-w-word-clause-bits : goal.returns-else-w-word-clause-bits
returns-else-w-word-clause-bits c =
    let word = c.args.word.now in
    let more : c.after_letter-w.result.at < length c.args.word.now = omega (arith, c.after_letter-w.ensures.at, c.if-w-word.false) in
    sym
    (begun (record { bits = 0; at = 0 }) word refl refl ∙ c.after_letter-i.ensures.left (drop 1 fence_letters) ∙ c.after_letter-o.ensures.left (drop 2 fence_letters)
    ∙ c.after_letter-r.ensures.left (drop 3 fence_letters) ∙ c.after_letter-w.ensures.left [] ∙ some_taken c.after_letter-w.result word 0 more)
