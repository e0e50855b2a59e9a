-- What a reader does with bytes of a line.
use Rattle.std.proofs.Common.{◌≡◌, ℕ, ◌+◌, ◌<◌, ◌≤◌, Bool, true, false, not, nat_eq, nat_lt, List, [], ◌∷◌, ◌++◌, length, take, drop, Option, Some, None, refl, sym, ap, subst, ◌∙◌, arith, length-append, append_assoc}
use Rattle.std.specs.Prelude.{is_some, position}
use Rattle.std.specs.List.{list_all}
use Rattle.std.proofs.Math.Seq.{take-add}
use Rattle.std.proofs.lemmas.Bool.{lt-ltb}
use Rattle.std.proofs.lemmas.Bool.Decides.{nat_tests}
use Rattle.std.proofs.lemmas.List.{append-nil, take-append-drop}
use Rattle.std.proofs.lemmas.List.Sums.{fold-append}
use Rattle.text_model.specs.Lines.{Lacks}
use Rattle.text_model.proofs.Pieces.{both}
use Rattle.witness_check.specs.FlatModel.Flat.{FlatMachine}
use Rattle.witness_check.specs.declared.refusal.CheckRefusal.{CheckRefusal}
use Rattle.witness_check.specs.declared.refusal.CheckRefusal.TheVariants.{BadLine, TooManyLines}
use Rattle.witness_check.specs.Judging.{Program, Standing, going, refused, in_line, in_text, lines_of, longer_line, with_byte}
use Rattle.witness_check.specs.Reader.{ReaderView, standing_by, with_standing}
use Rattle.witness_check.proofs.Accepting.{going_on, is_other, other_byte_step}
use Rattle.witness_check.proofs.Cuts.{up_to}
use Rattle.witness_check.proofs.Pieces.{refused_stays}
use Rattle.witness_check.proofs.ReaderSteps.{view_of}

full_line : (p : Program) (machine : FlatMachine) (made : ℕ) (front : List ℕ) (byte : ℕ) → made < 1048576 → nat_lt (length front) 160 ≡ false → nat_eq byte 10 ≡ false → with_byte p (going machine made front) byte ≡ refused (BadLine (made + 1))
unfolding with_byte
full_line p machine made front byte room is other =
    ap (λ d. in_text d p machine made front byte) (lt-ltb made 1048576 room)
    ∙ ap (λ d. in_line d p machine made front byte) other
    ∙ ap (λ d. longer_line d machine made front byte) is

-- a line that is too long
long_part : (p : Program) (machine : FlatMachine) (made : ℕ) (front part : List ℕ) → made < 1048576 → Lacks 10 part → length front ≤ 160 → 160 < length front + length part
    → lines_of p (going machine made front) part ≡ refused (BadLine (made + 1))
long_part p machine made front [] room lacks short long = absurd (omega (arith, short, long))
long_part p machine made front (byte ∷ part) room lacks short long =
    let parts = both (not (nat_eq byte 10)) (list_all (λ b. not (nat_eq b 10)) part) lacks in
    let other = is_other (nat_eq byte 10) parts.0 in
    by (nat_lt (length front) 160) refl other (long_part p machine made (front ++ byte ∷ []) part room parts.1)
  where
    size : length (front ++ byte ∷ []) ≡ length front + 1
    size = length-append front (byte ∷ [])

    by : (b : Bool) → nat_lt (length front) 160 ≡ b → nat_eq byte 10 ≡ false → (length (front ++ byte ∷ []) ≤ 160 → 160 < length (front ++ byte ∷ []) + length part → lines_of p (going machine made (front ++ byte ∷ [])) part ≡ refused (BadLine (made + 1)))
        → lines_of p (with_byte p (going machine made front) byte) part ≡ refused (BadLine (made + 1))
    by true is other rest =
        let low : length front < 160 = grind (arith, nat_tests, is) in
        ap (λ s. lines_of p s part) (other_byte_step p machine made front byte room other low) ∙ rest (omega (arith, size, low)) (omega (arith, size, long))
    by false is other rest = ap (λ s. lines_of p s part) (full_line p machine made front byte room is other) ∙ refused_stays p (BadLine (made + 1)) part

-- a line too many
late_part : (p : Program) (machine : FlatMachine) (made : ℕ) (front part : List ℕ) → nat_lt made 1048576 ≡ false → nat_eq (length part) 0 ≡ false → lines_of p (going machine made front) part ≡ refused (TooManyLines (made + 1))
unfolding with_byte
late_part p machine made front [] full some = absurd (cc some)
late_part p machine made front (byte ∷ part) full some = ap (λ d. lines_of p (in_text d p machine made front byte) part) full ∙ refused_stays p (TooManyLines (made + 1)) part

-- ---- as a contract sees it

module _ (p : Program) (size made : ℕ) (machine : FlatMachine) (front part : List ℕ) (view : ReaderView) where
  -- where the reader stands so, and the bytes lead to this
  becomes : (old new : Standing) → view_of p size old ≡ view → lines_of p old part ≡ new → view_of p size new ≡ with_standing (lines_of view.program view.standing part) view
  becomes old new is e =
      let P : ReaderView → Type 0 = λ v. view_of p size new ≡ with_standing (lines_of v.program v.standing part) v in
      subst P is (ap (view_of p size) (sym e))

  pub part_after_refusal : (o : Option CheckRefusal) → view_of p size (standing_by o machine made front) ≡ view → is_some o ≡ true → view ≡ with_standing (lines_of view.program view.standing part) view
  part_after_refusal None is some = cc
  part_after_refusal (Some r) is some = sym is ∙ becomes (refused r) (refused r) is (refused_stays p r part)

  pub part_of_nothing : part ≡ [] → view ≡ with_standing (lines_of view.program view.standing part) view
  part_of_nothing none = ap (λ t. with_standing (lines_of view.program view.standing t) view) (sym none)

  pub part_too_late : (o : Option CheckRefusal) → view_of p size (standing_by o machine made front) ≡ view → is_some o ≡ false → nat_lt made 1048576 ≡ false → (empty : Bool) → empty ≡ nat_eq (length part) 0 → empty ≡ false → view_of p size (refused (TooManyLines (made + 1))) ≡ with_standing (lines_of view.program view.standing part) view
  part_too_late None is none full empty tells some = becomes (going machine made front) (refused (TooManyLines (made + 1))) is (late_part p machine made front part full (sym tells ∙ some))
  part_too_late (Some r) is none full empty tells some = cc

  pub part_too_long : (o : Option CheckRefusal) → view_of p size (standing_by o machine made front) ≡ view → is_some o ≡ false → made < 1048576 → Lacks 10 part → length front ≤ 160 → 160 < length front + length part
      → view_of p size (refused (BadLine (made + 1))) ≡ with_standing (lines_of view.program view.standing part) view
  part_too_long None is none room lacks short long = becomes (going machine made front) (refused (BadLine (made + 1))) is (long_part p machine made front part room lacks short long)
  part_too_long (Some r) is none room lacks short long = cc

  pub part_put : (o : Option CheckRefusal) (line : List ℕ) → view_of p size (standing_by o machine made front) ≡ view → is_some o ≡ false → made < 1048576 → Lacks 10 part → length front + length part ≤ 160 → line ≡ front ++ part
      → view_of p size (standing_by o machine made line) ≡ with_standing (lines_of view.program view.standing part) view
  part_put None line is none room lacks short put =
      ap (λ l. view_of p size (going machine made l)) put
      ∙ becomes (going machine made front) (going machine made (front ++ part)) is (ap (lines_of p (going machine made front)) (sym (append-nil part)) ∙ going_on p machine made front part [] room lacks short)
  part_put (Some r) line is none room lacks short put = cc

-- ---- a piece, line by line

-- a line more
pub line_more : (piece rest : List ℕ) (from end : ℕ) (old mid new : ReaderView) (first : ReaderView) → rest ≡ drop from piece → position (λ byte. nat_eq byte 10) rest ≡ Some end
    → old ≡ with_standing (lines_of first.program first.standing (take from piece)) first → mid ≡ with_standing (lines_of old.program old.standing (take end rest)) old → new ≡ with_standing (with_byte mid.program mid.standing 10) mid
    → new ≡ with_standing (lines_of first.program first.standing (take (from + (end + 1)) piece)) first
line_more piece rest from end old mid new first is found before part feed =
    let p = first.program in
    let line = take end rest ++ 10 ∷ [] in
    let cut : take (from + (end + 1)) piece ≡ take from piece ++ line =
    take-add from (end + 1) piece ∙ ap (λ t. take from piece ++ take (end + 1) t) (sym is) ∙ ap (λ t. take from piece ++ t) (up_to 10 rest end found) in
    let both : mid ≡ with_standing (lines_of p first.standing (take from piece ++ take end rest)) first =
    part ∙ ap (λ (v : ReaderView). with_standing (lines_of v.program v.standing (take end rest)) v) before ∙ ap (λ s. with_standing s first) (sym (fold-append (with_byte p) first.standing (take from piece) (take end rest))) in
    feed ∙ ap (λ (v : ReaderView). with_standing (with_byte v.program v.standing 10) v) both
    ∙ ap (λ s. with_standing s first) (sym (fold-append (with_byte p) first.standing (take from piece ++ take end rest) (10 ∷ [])))
    ∙ ap (λ t. with_standing (lines_of p first.standing t) first) (append_assoc (take from piece) (take end rest) (10 ∷ []) ∙ sym cut)

-- a line that begins here, judged where it lies
pub line_here : (line : List ℕ) (view new : ReaderView) (m : FlatMachine) (k : ℕ) → view.standing ≡ going m k [] → k < 1048576 → Lacks 10 line → length line ≤ 160
    → new ≡ with_standing (with_byte view.program (going m k line) 10) view → new ≡ with_standing (with_byte view.program (lines_of view.program view.standing line) 10) view
line_here line view new m k at room lacks short judged =
    let p = view.program in
    let whole : lines_of p (going m k []) line ≡ going m k line =
    ap (lines_of p (going m k [])) (sym (append-nil line)) ∙ going_on p m k [] line [] room lacks (omega (arith, short)) in
    judged ∙ ap (λ s. with_standing (with_byte p s 10) view) (sym (ap (λ s. lines_of p s line) at ∙ whole))

-- and what is behind the last line feed
pub rest_more : (piece rest : List ℕ) (from : ℕ) (old new first : ReaderView) → rest ≡ drop from piece → old ≡ with_standing (lines_of first.program first.standing (take from piece)) first → new ≡ with_standing (lines_of old.program old.standing rest) old
    → new ≡ with_standing (lines_of first.program first.standing piece) first
rest_more piece rest from old new first is before part =
    let p = first.program in
    part ∙ ap (λ (v : ReaderView). with_standing (lines_of v.program v.standing rest) v) before ∙ ap (λ s. with_standing s first) (sym (fold-append (with_byte p) first.standing (take from piece) rest))
    ∙ ap (λ t. with_standing (lines_of p first.standing t) first) (ap (λ t. take from piece ++ t) is ∙ take-append-drop from piece)
