-- The atoms of a condition, and its operators of two tokens.
use Rattle.std.proofs.Common.{◌≡◌, ℕ, ◌+◌, ◌<◌, ◌≤◌, List, [], ◌∷◌, ◌++◌, length, take, drop, get_or, refl, sym, ap, ◌∙◌, arith}
use Rattle.std.specs.Prelude.{Option, None, Ok, Err}
use Rattle.std.proofs.lemmas.List.{drop_all, drop_more}
use Rattle.litmus_model.specs.declared.parts.Part.{Part}
use Rattle.litmus_model.specs.declared.parts.Token.{Token}
use Rattle.litmus_model.specs.declared.parts.Chunk.{Chunk}
use Rattle.litmus_model.specs.declared.parts.Target.{Target}
use Rattle.litmus_model.specs.declared.parts.Value.{Value}
use Rattle.litmus_model.specs.declared.refusal.Fault.TheVariants.{BadCondition}
use Rattle.litmus_model.specs.declared.refusal.TestRefusal.{TestRefusal}
use Rattle.litmus_model.specs.declared.refusal.TestRefusal.TheVariants.{InLine}
use Rattle.litmus_model.specs.Refusing.{and_then}
use Rattle.litmus_model.specs.Words.{target_of, value_of}
use Rattle.litmus_model.specs.Init.{equals_place}
use Rattle.litmus_model.specs.Condition.{atom_of, compared, compared_at, comparison, operator_of_two}
use Rattle.litmus_text.specs.Reads.{behind}
use Rattle.litmus_read.specs.Reading.{atom_chunks, two_in}

pub no_equals : (threads line : ℕ) (parts : List Part) (n : ℕ) → length parts ≤ n → compared_at threads line n parts ≡ Err (InLine line BadCondition)
unfolding compared
no_equals threads line parts n past = rw (drop_all n parts past) refl

pub bad_target : (threads line : ℕ) (parts : List Part) (n : ℕ) (r : TestRefusal) → n < length parts → target_of threads line (take n parts) ≡ Err r → compared_at threads line n parts ≡ Err r
unfolding compared and_then
bad_target threads line [] n r inside bad = absurd (omega (arith, inside))
bad_target threads line (p ∷ ps) n r inside bad = rw (drop_more (p ∷ ps) n p inside, bad) refl

pub bad_value : (threads line : ℕ) (parts rest : List Part) (n : ℕ) (target : Option Target) (r : TestRefusal) → n < length parts → rest ≡ drop (n + 1) parts
    → target_of threads line (take n parts) ≡ Ok target → value_of line rest ≡ Err r → compared_at threads line n parts ≡ Err r
unfolding compared and_then
bad_value threads line [] rest n target r inside are good bad = absurd (omega (arith, inside))
bad_value threads line (p ∷ ps) rest n target r inside are good bad = let same = ap (value_of line) (sym are) ∙ bad in rw (drop_more (p ∷ ps) n p inside, good, same) refl

pub both_good : (threads line : ℕ) (parts rest : List Part) (n : ℕ) (target : Option Target) (value : Option Value) → n < length parts → rest ≡ drop (n + 1) parts
    → target_of threads line (take n parts) ≡ Ok target → value_of line rest ≡ Ok value → compared_at threads line n parts ≡ comparison line target value
unfolding compared and_then
both_good threads line [] rest n target value inside are good is = absurd (omega (arith, inside))
both_good threads line (p ∷ ps) rest n target value inside are good is = let same = ap (value_of line) (sym are) ∙ is in rw (drop_more (p ∷ ps) n p inside, good, same) refl

pub no_parts : (threads line : ℕ) (parts : List Part) → length parts ≡ 0 → atom_of threads line parts ≡ Err (InLine line BadCondition)
unfolding atom_of
no_parts threads line [] none = refl
no_parts threads line (p ∷ ps) none = absurd (omega (arith, none))

pub one_part : (threads line : ℕ) (parts : List Part) (d : Part) → length parts ≡ 1 → atom_of threads line parts ≡ atom_of threads line (get_or parts 0 d ∷ [])
one_part threads line [] d one = absurd (omega (arith, one))
one_part threads line (p ∷ []) d one = refl
one_part threads line (p ∷ q ∷ ps) d one = absurd (omega (arith, one))

pub more_parts : (threads line : ℕ) (parts : List Part) → 1 < length parts → atom_of threads line parts ≡ compared_at threads line (equals_place parts) parts
unfolding atom_of
more_parts threads line [] more = absurd (omega (arith, more))
more_parts threads line (p ∷ []) more = absurd (omega (arith, more))
more_parts threads line (p ∷ q ∷ ps) more = refl

pub short_two : (tokens : List Token) → length tokens < 2 → two_in tokens ≡ None
unfolding two_in operator_of_two
short_two [] few = refl
short_two (t ∷ []) few = refl
short_two (t ∷ u ∷ ts) few = absurd (omega (arith, few))

pub long_two : (tokens : List Token) (t u : Token) → 2 ≤ length tokens
    → two_in tokens ≡ operator_of_two (get_or tokens 0 t).part (record { line = u.line; part = (get_or tokens 1 u).part } ∷ [])
unfolding two_in operator_of_two
long_two [] t u many = absurd (omega (arith, many))
long_two (v ∷ []) t u many = absurd (omega (arith, many))
long_two (v ∷ w ∷ ts) t u many = refl

pub one_atom : (threads line : ℕ) (parts : List Part) (old : List Chunk) (c : Chunk) → atom_of threads line parts ≡ Ok c → behind old (atom_chunks threads line parts) ≡ Ok (old ++ c ∷ [])
unfolding behind atom_chunks and_then
one_atom threads line parts old c is = rw is refl

pub no_atom : (threads line : ℕ) (parts : List Part) (r : TestRefusal) → atom_of threads line parts ≡ Err r → atom_chunks threads line parts ≡ Err r
unfolding atom_chunks and_then
no_atom threads line parts r bad = rw bad refl
