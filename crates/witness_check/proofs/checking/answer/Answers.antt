use Rattle.std.proofs.Common.{◌≡◌, ℕ, ◌⊎◌, List, Result, Some, Err, inl, inr, ap, ◌∙◌}
use Rattle.witness_check.specs.declared.refusal.CheckRefusal.{CheckRefusal}
use Rattle.witness_check.specs.declared.refusal.CheckRefusal.TheVariants.{NoMemory}
use Rattle.witness_check.specs.Judging.{answer_of}
use Rattle.witness_check.specs.Start.{Setting, check_of, start_refusal}
use Rattle.witness_check.specs.Reader.{ReaderView, fed, setting}
use Rattle.witness_check.proofs.Pieces.{answer_is, refused_at_start, whole_text}
use Rattle.witness_check.proofs.checking.answer.Goals as goal

abbrev err : CheckRefusal → Result ℕ CheckRefusal
err refusal = Err refusal

abbrev IsAnswer : Result ℕ CheckRefusal → Setting → List ℕ → Type 0
IsAnswer answer s text = (answer ≡ Err NoMemory) ⊎ (answer ≡ check_of s text)

no_start : (s : Setting) (text : List ℕ) (refusal : CheckRefusal) → (refusal ≡ NoMemory) ⊎ (start_refusal s ≡ Some refusal) → IsAnswer (Err refusal) s text
no_start s text refusal (inl none) = inl (ap err none)
no_start s text refusal (inr is) = inr (refused_at_start s text refusal is)

pub returns-in-Err : goal.returns-in-Err
returns-in-Err c = no_start (setting c.args.image.now c.args.start c.args.item_bytes) c.args.text.now c.in-Err.refusal c.in-Err.ensures.refused

pub returns-in-Ok : goal.returns-in-Ok
returns-in-Ok c =
    let s = setting c.args.image.now c.args.start c.args.item_bytes in
    inr (c.finish.ensures
    ∙ ap (λ (r : ReaderView). answer_of r.standing) (c.feed.ensures.reader ∙ ap (λ r. fed r c.args.text.now) c.in-Ok.ensures.begun ∙ whole_text s c.args.text.now)
    ∙ answer_is s c.args.text.now c.in-Ok.ensures.accepted)
