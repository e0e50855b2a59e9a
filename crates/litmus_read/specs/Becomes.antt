-- What the code's answers say of a judgement: of a list that it makes anew, and of one that has no value.
use Rattle.std.specs.Prelude.{◌≡◌, ℕ, List, Result, Ok, Err}
use Rattle.litmus_model.specs.Refusing.{Judged}
use Rattle.litmus_model.specs.declared.refusal.TestRefusal.{TestRefusal}
use Rattle.litmus_text.specs.declared.judged.Unread.{Unread}
use Rattle.litmus_text.specs.declared.judged.Unread.TheVariants.{Refused, NoMemory}

abbrev pub Becomes : {A : Type 0} → Judged (List A) → List A → Result (Unit {0}) Unread → Type 0
Becomes judged new (Ok done) = judged ≡ Ok new
Becomes judged new (Err (Refused refusal)) = judged ≡ Err refusal
Becomes judged new (Err NoMemory) = Unit {0}

-- a judgement without a value
abbrev pub Judges : Judged ℕ → Result (Unit {0}) TestRefusal → Type 0
Judges judged (Ok done) = judged ≡ Ok 0
Judges judged (Err refusal) = judged ≡ Err refusal
