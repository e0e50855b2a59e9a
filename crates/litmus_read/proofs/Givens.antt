-- The initial state, one piece more at a time.
use Rattle.std.proofs.Common.{◌≡◌, ℕ, ◌+◌, ◌<◌, ◌≤◌, List, [], ◌∷◌, ◌++◌, length, drop, get_or, refl, ◌∙◌, subst, arith}
use Rattle.std.specs.Prelude.{Some, Ok, Err}
use Rattle.std.proofs.lemmas.List.{drop_all, drop_more}
use Rattle.litmus_model.specs.declared.parts.Part.{Part}
use Rattle.litmus_model.specs.declared.parts.Token.{Token}
use Rattle.litmus_model.specs.declared.parts.Given.{Given}
use Rattle.litmus_model.specs.declared.parts.Value.TheVariants.{Number}
use Rattle.litmus_model.specs.declared.refusal.TestRefusal.{TestRefusal}
use Rattle.litmus_model.specs.Refusing.{and_then}
use Rattle.litmus_model.specs.Tokens.{Piece, parts_of}
use Rattle.litmus_model.specs.Words.{value_of}
use Rattle.litmus_text.specs.declared.judged.Unread.{Unread}
use Rattle.litmus_text.specs.declared.judged.Unread.TheVariants.{Refused, NoMemory}
use Rattle.litmus_text.specs.Reads.{ReadsList}
use Rattle.litmus_read.specs.Becomes.{Becomes}
use Rattle.litmus_model.specs.Init.{given_of, given_value, givens_from, piece_givens, without_type}

pub short_typed : (line : ℕ) (parts : List Part) → length parts < 2 → without_type line parts ≡ Ok parts
unfolding without_type
short_typed line [] few = refl
short_typed line (p ∷ []) few = refl
short_typed line (p ∷ q ∷ parts) few = absurd (omega (arith, few))

pub long_typed : (parts : List Part) (d e : Part) → 2 ≤ length parts → parts ≡ get_or parts 0 d ∷ get_or parts 1 e ∷ drop 2 parts
long_typed [] d e many = absurd (omega (arith, many))
long_typed (p ∷ []) d e many = absurd (omega (arith, many))
long_typed (p ∷ q ∷ parts) d e many = refl

pub no_value : (line : ℕ) (parts : List Part) → length parts ≡ 0 → given_value line parts ≡ Ok (Some (Number 0))
unfolding given_value
no_value line [] none = refl
no_value line (p ∷ parts) none = absurd (omega (arith, none))

pub some_value : (line : ℕ) (parts : List Part) → 0 < length parts → given_value line parts ≡ value_of line (drop 1 parts)
unfolding given_value
some_value line [] some = absurd (omega (arith, some))
some_value line (p ∷ parts) some = refl

pub no_piece : (threads line : ℕ) (before : List Given) (tokens : List Token) → length tokens ≡ 0 → piece_givens threads line before tokens ≡ Ok before
unfolding piece_givens
no_piece threads line before [] none = refl
no_piece threads line before (t ∷ ts) none = absurd (omega (arith, none))

pub some_piece : (threads line : ℕ) (before : List Given) (tokens : List Token) (given : Given) → 0 < length tokens
    → given_of threads line before (parts_of tokens) ≡ Ok given → piece_givens threads line before tokens ≡ Ok (before ++ given ∷ [])
unfolding piece_givens and_then
some_piece threads line before [] given some is = absurd (omega (arith, some))
some_piece threads line before (t ∷ ts) given some is = rw is refl

pub bad_piece : (threads line : ℕ) (before : List Given) (tokens : List Token) (refusal : TestRefusal) → 0 < length tokens
    → given_of threads line before (parts_of tokens) ≡ Err refusal → piece_givens threads line before tokens ≡ Err refusal
unfolding piece_givens and_then
bad_piece threads line before [] refusal some is = absurd (omega (arith, some))
bad_piece threads line before (t ∷ ts) refusal some is = rw is refl

pub givens_next : (threads : ℕ) (before new : List Given) (ps : List Piece) (k : ℕ) (d : Piece) → k < length ps
    → piece_givens threads (get_or ps k d).line before (get_or ps k d).tokens ≡ Ok new → givens_from threads before (drop k ps) ≡ givens_from threads new (drop (k + 1) ps)
unfolding givens_from and_then
givens_next threads before new ps k d inside is = rw (drop_more ps k d inside, is) refl

pub givens_refused : (threads : ℕ) (before : List Given) (ps : List Piece) (k : ℕ) (d : Piece) (refusal : TestRefusal) → k < length ps
    → piece_givens threads (get_or ps k d).line before (get_or ps k d).tokens ≡ Err refusal → givens_from threads before (drop k ps) ≡ Err refusal
unfolding givens_from and_then
givens_refused threads before ps k d refusal inside is = rw (drop_more ps k d inside, is) refl

pub givens_done : (threads : ℕ) (before : List Given) (ps : List Piece) (k : ℕ) → length ps ≤ k → givens_from threads before (drop k ps) ≡ Ok before
unfolding givens_from
givens_done threads before ps k past = rw (drop_all k ps past) refl

pub givens_fail : (threads : ℕ) (before new : List Given) (ps : List Piece) (k : ℕ) (p : Piece) (e : Unread) → k < length ps → p ≡ get_or ps k p
    → givens_from threads [] ps ≡ givens_from threads before (drop k ps) → Becomes (piece_givens threads p.line before p.tokens) new (Err e)
    → ReadsList (givens_from threads [] ps) (Err e)
givens_fail threads before new ps k p (Refused r) inside is whole fails =
    whole ∙ givens_refused threads before ps k p r inside (subst (λ (q : Piece). piece_givens threads q.line before q.tokens ≡ Err r) is fails)
givens_fail threads before new ps k p NoMemory inside is whole fails = tt
