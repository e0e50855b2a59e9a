-- The quantifier of a condition.
use Rattle.std.proofs.Common.{◌≡◌, ℕ, ◌+◌, ◌<◌, List, [], ◌∷◌, length, drop, get_or, refl, ap, ◌∙◌, arith}
use Rattle.std.specs.Prelude.{true, false, codes, Ok, Err}
use Rattle.litmus_model.specs.declared.parts.Token.{Token}
use Rattle.litmus_model.specs.declared.refusal.Fault.TheVariants.{BadCondition}
use Rattle.litmus_model.specs.declared.refusal.TestRefusal.{TestRefusal}
use Rattle.litmus_model.specs.declared.refusal.TestRefusal.TheVariants.{InLine}
use Rattle.litmus_model.specs.declared.test.Quantifier.{Quantifier}
use Rattle.litmus_model.specs.declared.test.Quantifier.TheVariants.{NotExists}
use Rattle.litmus_model.specs.Condition.{denied, is_part_word, quantified, quantifier_of}
use Rattle.litmus_read.specs.Final.{asked_by}
use Rattle.litmus_read.proofs.NamedTargets.{drop_later}

pub not_denied : (line : ℕ) (tokens : List Token) → length tokens ≡ 0 → denied line tokens ≡ Err (InLine line BadCondition)
unfolding denied
not_denied line [] none = refl
not_denied line (t ∷ ts) none = absurd (omega (arith, none))

pub other_denied : (line : ℕ) (tokens : List Token) (d : Token) → 0 < length tokens → is_part_word (codes "exists") (get_or tokens 0 d).part ≡ false
    → denied line tokens ≡ Err (InLine line BadCondition)
unfolding denied
other_denied line [] d some other = absurd (omega (arith, some))
other_denied line (t ∷ ts) d some other = rw other refl

pub denied_by : (line : ℕ) (tokens : List Token) (d : Token) → 0 < length tokens → is_part_word (codes "exists") (get_or tokens 0 d).part ≡ true
    → denied line tokens ≡ quantified NotExists (drop 1 tokens)
unfolding denied
denied_by line [] d some is = absurd (omega (arith, some))
denied_by line (t ∷ ts) d some is = rw is refl

pub nothing_asked : (end : ℕ) (tokens : List Token) → length tokens ≡ 0 → quantifier_of end tokens ≡ Err (InLine end BadCondition)
unfolding quantifier_of
nothing_asked end [] none = refl
nothing_asked end (t ∷ ts) none = absurd (omega (arith, none))

first_asked : (end : ℕ) (tokens rest : List Token) (t : Token) → 0 < length tokens → t ≡ get_or tokens 0 t → rest ≡ drop 1 tokens → quantifier_of end tokens ≡ asked_by t rest
unfolding quantifier_of asked_by
first_asked end [] rest t some is are = absurd (omega (arith, some))
first_asked end (u ∷ ts) rest t some is are = rw (is, are) refl

pub badly_asked : (end : ℕ) (tokens rest : List Token) (t : Token) (r : TestRefusal) → 0 < length tokens → t ≡ get_or tokens 0 t → rest ≡ drop 1 tokens → asked_by t rest ≡ Err r → quantifier_of end tokens ≡ Err r
badly_asked end tokens rest t r some is are bad = first_asked end tokens rest t some is are ∙ bad

pub well_asked : (end : ℕ) (tokens rest : List Token) (t : Token) (q : Quantifier) (n : ℕ) → 0 < length tokens → t ≡ get_or tokens 0 t → rest ≡ drop 1 tokens
    → asked_by t rest ≡ Ok (record { quantifier = q; proposition = drop n rest }) → quantifier_of end tokens ≡ Ok (record { quantifier = q; proposition = drop (n + 1) tokens })
well_asked end tokens rest t q n some is are asked =
    first_asked end tokens rest t some is are
    ∙ asked
    ∙ ap (λ (left : List Token). Ok (record { quantifier = q; proposition = left })) (ap (drop n) are ∙ drop_later tokens n)

-- Whether a condition is denied.
pub ruleset denials = (not_denied, other_denied, denied_by)
