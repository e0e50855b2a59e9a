-- A text in pieces stands as the whole text does.
use Rattle.std.proofs.Common.{◌≡◌, ℕ, ◌+◌, Bool, true, false, cond, nat_lt, List, [], ◌∷◌, ◌++◌, length, Some, None, Err, refl, sym, ap, ◌∙◌, arith, length-append}
use Rattle.std.specs.Prelude.{min}
use Rattle.std.proofs.lemmas.List.Sums.{fold-append}
use Rattle.witness_check.specs.declared.refusal.CheckRefusal.{CheckRefusal}
use Rattle.witness_check.specs.declared.refusal.CheckRefusal.TheVariants.{TooLong}
use Rattle.witness_check.specs.Judging.{Program, Standing, going, refused, text_limit, with_byte, lines_of, standing_of, answer_of}
use Rattle.witness_check.specs.Start.{Setting, program_of, machine_of, start_refusal, answer_unless, check_of}
use Rattle.witness_check.specs.Reader.{ReaderView, begun, fed, reader_after}

pub refused_stays : (p : Program) (refusal : CheckRefusal) (text : List ℕ) → lines_of p (refused refusal) text ≡ refused refusal
unfolding with_byte
refused_stays p refusal [] = refl
refused_stays p refusal (byte ∷ text) = refused_stays p refusal text

-- a text of n bytes that stands so, with k bytes more that make it stand so
long_by : (d : Bool) (p : Program) (limit n k : ℕ) (standing whole : Standing) (piece : List ℕ) → nat_lt limit n ≡ d → whole ≡ lines_of p standing piece
    → cond (nat_lt limit (min n limit + k)) (refused TooLong) (lines_of p (cond d (refused TooLong) standing) piece) ≡ cond (nat_lt limit (n + k)) (refused TooLong) whole
long_by true p limit n k standing whole piece long is = over (nat_lt limit (min n limit + k)) (nat_lt limit (n + k)) refl where
  over : (a b : Bool) → nat_lt limit (n + k) ≡ b → cond a (refused TooLong) (lines_of p (refused TooLong) piece) ≡ cond b (refused TooLong) whole
  over true true _ = refl
  over false true _ = refused_stays p TooLong piece
  over a false short = absurd (grind arith)
long_by false p limit n k standing whole piece short is =
    let same : min n limit ≡ n = grind arith in
    ap (λ (s : ℕ). cond (nat_lt limit (s + k)) (refused TooLong) (lines_of p standing piece)) same
    ∙ ap (λ w. cond (nat_lt limit (n + k)) (refused TooLong) w) (sym is)

size_by : (limit n k : ℕ) → min (min n limit + k) limit ≡ min (n + k) limit
size_by limit n k = omega arith

pub piece_more : (s : Setting) (text piece : List ℕ) → fed (reader_after s text) piece ≡ reader_after s (text ++ piece)
unfolding fed standing_of
piece_more s text piece =
    let p = program_of s in
    let first = going (machine_of s) 0 [] in
    let view : ℕ → Standing → ReaderView = λ size standing. record { program = p; size = size; standing = standing } in
    let n = length text in
    let k = length piece in
    ap (λ size. view size (fed (reader_after s text) piece).standing) (size_by text_limit n k ∙ ap (λ m. min m text_limit) (sym (length-append text piece)))
    ∙ ap (λ standing. view (min (length (text ++ piece)) text_limit) standing)
    (long_by (nat_lt text_limit n) p text_limit n k (lines_of p first text) (lines_of p first (text ++ piece)) piece refl (fold-append (with_byte p) first text piece)
    ∙ ap (λ (m : ℕ). cond (nat_lt text_limit m) (refused TooLong) (lines_of p first (text ++ piece))) (sym (length-append text piece)))

pub nothing_yet : (s : Setting) → begun s ≡ reader_after s []
unfolding standing_of
nothing_yet s = refl

pub answer_is : (s : Setting) (text : List ℕ) → start_refusal s ≡ None → answer_of (reader_after s text).standing ≡ check_of s text
unfolding check_of
answer_is s text accepted = ap (λ o. answer_unless o (answer_of (reader_after s text).standing)) (sym accepted)

pub refused_at_start : (s : Setting) (text : List ℕ) (refusal : CheckRefusal) → start_refusal s ≡ Some refusal → Err refusal ≡ check_of s text
unfolding check_of
refused_at_start s text refusal e = ap (λ o. answer_unless o (answer_of (reader_after s text).standing)) (sym e)

-- a text in one piece
pub whole_text : (s : Setting) (text : List ℕ) → fed (begun s) text ≡ reader_after s text
whole_text s text = ap (λ r. fed r text) (nothing_yet s) ∙ piece_more s [] text
