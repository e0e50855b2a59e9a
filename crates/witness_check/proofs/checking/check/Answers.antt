use Rattle.std.proofs.Common.{◌≡◌, ℕ, ◌⊎◌, List, Result, Ok, Err, inl, inr, sym, ◌∙◌}
use Rattle.std.specs.Prelude.{IfErr, IfOk}
use Rattle.witness_check.specs.declared.refusal.CheckRefusal.{CheckRefusal}
use Rattle.witness_check.specs.declared.refusal.CheckRefusal.TheVariants.{NoMemory}
use Rattle.witness_check.specs.Start.{Setting, check_of}
use Rattle.witness_check.specs.Reader.{setting}
use Rattle.witness_check.specs.Witness.{IsAccepted, IsRefused}
use Rattle.witness_check.proofs.Accepting.{accepted_is, is_accepted}
use Rattle.witness_check.proofs.Refusing.{refused_is}
use Rattle.witness_check.proofs.checking.check.Goals as goal

ok_is : (s : Setting) (text : List ℕ) (answer : Result ℕ CheckRefusal) → (answer ≡ Err NoMemory) ⊎ (answer ≡ check_of s text) → IfOk answer (IsAccepted s text)
ok_is s text (Ok n) (inl e) = absurd (cc e)
ok_is s text (Ok n) (inr e) = accepted_is s text n (sym e)
ok_is s text (Err refusal) either = tt

is_ok : (s : Setting) (text : List ℕ) (answer : Result ℕ CheckRefusal) → (answer ≡ Err NoMemory) ⊎ (answer ≡ check_of s text) → (n : ℕ) → IsAccepted s text n → (answer ≡ Err NoMemory) ⊎ (answer ≡ Ok n)
is_ok s text answer (inl e) n are = inl e
is_ok s text answer (inr e) n are = inr (e ∙ is_accepted s text n are)

pub returns-clause-accepted : goal.returns-clause-accepted
returns-clause-accepted c = ok_is (setting c.args.image.now c.args.start c.args.item_bytes) c.args.text.now c.answer.result c.answer.ensures

pub returns-clause-complete : goal.returns-clause-complete
returns-clause-complete c = is_ok (setting c.args.image.now c.args.start c.args.item_bytes) c.args.text.now c.answer.result c.answer.ensures

err_is : (s : Setting) (text : List ℕ) (answer : Result ℕ CheckRefusal) → (answer ≡ Err NoMemory) ⊎ (answer ≡ check_of s text) → IfErr answer (λ r. (r ≡ NoMemory) ⊎ IsRefused s text r)
err_is s text (Ok n) either = tt
err_is s text (Err refusal) (inl e) = inl (cc e)
err_is s text (Err refusal) (inr e) = inr (refused_is s text refusal (sym e))

pub returns-clause-refused : goal.returns-clause-refused
returns-clause-refused c = err_is (setting c.args.image.now c.args.start c.args.item_bytes) c.args.text.now c.answer.result c.answer.ensures
