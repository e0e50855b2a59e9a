-- What the code's answers say of a judgement: the same value or the same refusal, or there was no memory.
use Rattle.std.specs.Prelude.{◌≡◌, List, ◌++◌, Result, Ok, Err}
use Rattle.std.specs.Global.{Vec}
use Rattle.litmus_model.specs.Refusing.{Judged, ◌>>=◌}
use Rattle.litmus_text.specs.declared.judged.Unread.{Unread}
use Rattle.litmus_text.specs.declared.judged.Unread.TheVariants.{Refused, NoMemory}

abbrev pub Reads : {A B : Type 0} → (A → B) → Judged B → Result A Unread → Type 0
Reads view judged (Ok value) = judged ≡ Ok (view value)
Reads view judged (Err (Refused refusal)) = judged ≡ Err refusal
Reads view judged (Err NoMemory) = Unit {0}

abbrev pub ReadsList : {A : Type 0} → Judged (List A) → Result (Vec A) Unread → Type 0
ReadsList judged (Ok values) = judged ≡ Ok values.items
ReadsList judged (Err (Refused refusal)) = judged ≡ Err refusal
ReadsList judged (Err NoMemory) = Unit {0}

-- a list behind these values, where it isn't refused
unfoldable pub behind : {A : Type 0} → List A → Judged (List A) → Judged (List A)
behind old judged = judged >>= (λ more. Ok (old ++ more))

-- values were added to a list
abbrev pub Adds : {A : Type 0} → Judged (List A) → List A → List A → Result (Unit {0}) Unread → Type 0
Adds judged old new (Ok done) = behind old judged ≡ Ok new
Adds judged old new (Err (Refused refusal)) = judged ≡ Err refusal
Adds judged old new (Err NoMemory) = Unit {0}
