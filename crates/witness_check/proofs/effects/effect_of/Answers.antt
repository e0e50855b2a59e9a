use Rattle.std.proofs.Common.{◌≡◌, ℕ, true, false, cond, List, [], ◌∷◌, Some, None, sym, ap, ◌∙◌}
use Rattle.std.specs.Prelude.{bytes_eq, codes}
use Rattle.witness_check.specs.DdmTypes.declared.operations.Effect.TheVariants.{Plain}
use Rattle.text_model.specs.Schedule.{pieces_at}
use Rattle.text_model.proofs.Pieces.{some_piece}
use Rattle.witness_check.specs.Lines.{effect_of_words}
use Rattle.witness_check.proofs.EffectTexts.{same_bytes}
use Rattle.witness_check.proofs.effects.effect_of.Goals as goal

-- a text of five words or more
too_many : (text first second third rest a b c d : List ℕ) → pieces_at 32 text ≡ a ∷ pieces_at 32 first → pieces_at 32 first ≡ b ∷ pieces_at 32 second → pieces_at 32 second ≡ c ∷ pieces_at 32 third
    → pieces_at 32 third ≡ d ∷ pieces_at 32 rest → None ≡ effect_of_words (pieces_at 32 text)
unfolding effect_of_words
too_many text first second third rest a b c d one two three four =
    let fifth = some_piece 32 rest in
    sym (ap effect_of_words (one ∙ ap (λ (ws : List (List ℕ)). a ∷ ws) (two ∙ ap (λ (ws : List (List ℕ)). b ∷ ws) (three ∙ ap (λ (ws : List (List ℕ)). c ∷ ws) (four ∙ ap (λ (ws : List (List ℕ)). d ∷ ws) fifth.2)))))

-- the word `plain`, and another word alone
plain_text : (text : List ℕ) → bytes_eq text (codes "plain") ≡ true → Some Plain ≡ effect_of_words (pieces_at 32 text)
unfolding effect_of_words pieces_at
plain_text text same = ap (λ t. effect_of_words (pieces_at 32 t)) (sym (same_bytes text (codes "plain") same))

other_word : (text : List ℕ) → bytes_eq text (codes "plain") ≡ false → pieces_at 32 text ≡ text ∷ [] → None ≡ effect_of_words (pieces_at 32 text)
unfolding effect_of_words
other_word text other one = sym (ap effect_of_words one ∙ ap (λ d. cond d (Some Plain) None) other)

pub returns-in-Some-cut_word-3 : goal.returns-in-Some-cut_word-3
returns-in-Some-cut_word-3 c =
    too_many c.args.text.now c.in-Some.first.now c.in-Some-cut_word.second.now c.in-Some-cut_word-2.third.now c.in-Some-cut_word-3.field-0.1.now
    c.in-Some.name.now c.in-Some-cut_word.address.now c.in-Some-cut_word-2.before.now c.in-Some-cut_word-3.field-0.0.now
    c.in-Some.ensures c.in-Some-cut_word.ensures c.in-Some-cut_word-2.ensures c.in-Some-cut_word-3.ensures

pub returns-then-is_plain : goal.returns-then-is_plain
returns-then-is_plain c = plain_text c.args.text.now (sym c.if-is_plain.ensures)

pub returns-in_default : goal.returns-in_default
returns-in_default c = other_word c.args.text.now (sym c.if-is_plain.ensures) c.in_default.ensures
