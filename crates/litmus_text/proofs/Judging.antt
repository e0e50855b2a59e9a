-- Judgements of lists, one piece more at a time.
use Rattle.std.proofs.Common.{◌≡◌, List, [], ◌∷◌, ◌++◌, refl, sym, ap, append_assoc}
use Rattle.std.specs.Prelude.{Ok, Err}
use Rattle.litmus_model.specs.declared.refusal.TestRefusal.{TestRefusal}
use Rattle.litmus_model.specs.Refusing.{Judged, ◌>>=◌, and_then}
use Rattle.litmus_text.specs.Reads.{behind}

pub behind_nothing : {A : Type 0} (j : Judged (List A)) → j ≡ behind [] j
unfolding behind and_then
behind_nothing (Ok xs) = refl
behind_nothing (Err r) = refl

pub behind_one : {A : Type 0} (old : List A) (x : A) (j : Judged (List A)) → behind old (j >>= (λ rest. Ok (x ∷ rest))) ≡ behind (old ++ x ∷ []) j
unfolding behind and_then
behind_one {A = A} old x (Ok xs) = ap (λ (ys : List A). Ok ys) (sym (append_assoc old (x ∷ []) xs))
behind_one {A = A} old x (Err r) = refl

pub behind_behind : {A : Type 0} (old more : List A) (j : Judged (List A)) → behind old (behind more j) ≡ behind (old ++ more) j
unfolding behind and_then
behind_behind {A = A} old more (Ok xs) = ap (λ (ys : List A). Ok ys) (sym (append_assoc old more xs))
behind_behind {A = A} old more (Err r) = refl

-- two judgements, one behind the other
pub both_behind : {A : Type 0} (old new : List A) (j m : Judged (List A)) → behind old j ≡ Ok new → behind old (j >>= (λ xs. behind xs m)) ≡ behind new m
unfolding behind and_then
both_behind old new (Ok xs) m h = let same : old ++ xs ≡ new = cc in rw (← same) (behind_behind old xs m)
both_behind old new (Err r) m h = absurd (cc)

pub refused_behind : {A : Type 0} (old : List A) (r : TestRefusal) (j : Judged (List A)) → j ≡ Err r → behind old j ≡ Err r
unfolding behind and_then
refused_behind old r j h = rw h refl

pub second_refused : {A : Type 0} (old mid : List A) (r : TestRefusal) (j m : Judged (List A)) → behind old j ≡ Ok mid → m ≡ Err r → j >>= (λ xs. behind xs m) ≡ Err r
unfolding behind and_then
second_refused old mid r (Ok xs) m first second = rw second refl
second_refused old mid r (Err s) m first second = absurd (cc)

-- What comes after nothing, and after what is refused.
pub ruleset after_or_refused = (behind_nothing, refused_behind)
