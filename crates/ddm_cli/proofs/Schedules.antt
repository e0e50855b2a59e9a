-- What a reader says of a schedule that was given to it in pieces, as what the whole file gives.
use Rattle.std.proofs.Common.{◌≡◌, ℕ, ◌+◌, ◌≤◌, List, [], ◌++◌, length, take, drop, Option, Some, None, Ok, Err, refl, sym, ap, ◌∙◌, subst, arith, append_assoc, length-append}
use Rattle.std.specs.Prelude.{IfSome}
use Rattle.std.proofs.lemmas.List.{append-nil, length-take-le}
use Rattle.ddm_cli.specs.DdmTypes.declared.turns.Turn.{Turn}
use Rattle.ddm_cli.specs.DdmOutside.Telling.{ReadsPart}
use Rattle.ddm_cli.specs.TextModel.declared.ScheduleRefusal.{ScheduleRefusal}
use Rattle.ddm_cli.specs.TextModel.Schedule.{ShapeView, Standing, in_line, at_end, refused_at, pieces_at, reading_from, reading_of, resumed, schedule_of}
use Rattle.ddm_cli.specs.TextModel.ReadBack.{GivesTurnsOf}
use Rattle.ddm_cli.proofs.TextModel.Given.{turns-reading_on}
use Rattle.ddm_cli.specs.ScheduleLog.Pieces.{reader_after, turns_of}
use Rattle.ddm_cli.specs.ScheduleLog.Reader.{ReaderView, Fed, answer_of, begun_behind, fed, finish_of, given}
use Rattle.ddm_cli.specs.ScheduleLog.Shapes.{shape_view}
use Rattle.ddm_cli.specs.ScheduleLog.declared.refusal.FeedError.TheVariants as error
use Rattle.ddm_cli.proofs.ScheduleLog.Cuttings.{finish_accepts, finish_refuses, no_piece, reader_cut, turns_cut}
use Rattle.ddm_cli.specs.Causes.{AcceptedAs, IsUnscheduled}
use Rattle.ddm_cli.specs.Parts.{turns_at}
use Rattle.ddm_cli.specs.Reads.{HasRead}
use Rattle.ddm_cli.proofs.ScheduleLengths.{GoesOn, short_text}

-- ---- a refused text with more after it

refused_stays : (shape : ShapeView) (made : ℕ) (text more : List ℕ) (line : ℕ) (refusal : ScheduleRefusal) → (reading_of shape made text).standing ≡ refused_at line refusal → (reading_of shape made (text ++ more)).standing ≡ refused_at line refusal
unfolding resumed
refused_stays shape made text more line refusal is =
    let reader = reader_after shape made text in
    sym (ap (λ (r : ReaderView). r.standing) (reader_cut shape made text more)) ∙ ap (λ s. (resumed shape reader.made reader.held more [] s).standing) is

refused_text : (shape : ShapeView) (made : ℕ) (text : List ℕ) (line : ℕ) (refusal : ScheduleRefusal) → (reading_of shape made text).standing ≡ refused_at line refusal → schedule_of shape made text ≡ Err (line, refusal)
refused_text shape made text line refusal is = finish_refuses shape made text line refusal (ap finish_of is)

answer_refused : (s : Standing) (line : ℕ) (refusal : ScheduleRefusal) → answer_of s ≡ Err (error.Refused line refusal) → s ≡ refused_at line refusal
answer_refused (in_line n) line refusal e = absurd (cc e)
answer_refused (at_end n) line refusal e = absurd (cc e)
answer_refused (refused_at n r) line refusal e = cc e

answer_goes_on : (s : Standing) → answer_of s ≡ Ok tt → GoesOn s
answer_goes_on (in_line n) e = tt
answer_goes_on (at_end n) e = tt
answer_goes_on (refused_at n r) e = absurd (cc e)

-- ---- pieces of a file

module _ (levels : List (List ℕ)) (made : ℕ) (told : Option (List ℕ)) where
  -- before the first
  pub nothing_read : (reader : ReaderView) (turns : List Turn) → reader ≡ begun_behind made → turns ≡ [] → HasRead levels made told 0 reader turns
  unfolding reading_of reading_from pieces_at
  nothing_read reader turns is none = record { text = []; size = refl; reader_is = is ∙ no_piece (shape_view levels) made; turns_are = none; front = front told } where
    front : (o : Option (List ℕ)) → IfSome o (λ file. file ≡ file)
    front None = tt
    front (Some file) = refl

  module _ (count : ℕ) (reader : ReaderView) (turns : List Turn) (read : HasRead levels made told count reader turns) where
    -- one more
    pub piece_read : (n : ℕ) (into : List ℕ) (new : ReaderView) (after : List Turn) → n ≤ length into → IfSome told (λ file. ReadsPart file count n into) → Fed (shape_view levels) reader (take n into) new turns after
        → HasRead levels made told (count + n) new after
    piece_read n into new after few part f =
        let shape = shape_view levels in
        let piece = take n into in
        let size = length-take-le n into few in
        record {
          text = read.text ++ piece;
          size = length-append read.text piece ∙ sizes read.size size;
          reader_is = f.reader ∙ ap (λ r. fed shape r piece) read.reader_is ∙ reader_cut shape made read.text piece;
          turns_are = f.turns ∙ ap (λ ts. ts ++ (given shape reader piece).turns) read.turns_are ∙ ap (λ r. turns_of shape made read.text ++ (given shape r piece).turns) read.reader_is ∙ turns_cut shape made read.text piece;
          front = front told read.front part;
        }
      where
        sizes : {a b c d : ℕ} → a ≡ b → c ≡ d → a + c ≡ b + d
        sizes e g = omega (arith, e, g)

        front : (o : Option (List ℕ)) → IfSome o (λ file. file ≡ read.text ++ drop count file) → IfSome o (λ file. ReadsPart file count n into) → IfSome o (λ file. file ≡ (read.text ++ take n into) ++ drop (count + n) file)
        front None so_far part = tt
        front (Some file) so_far part = so_far ∙ ap (λ t. read.text ++ t) part.bytes ∙ sym (append_assoc read.text (take n into) (drop (count + n) file))

    -- one more, of which the reader gave the turns after none
    pub more_read : (n : ℕ) (into : List ℕ) (new : ReaderView) (none more : List Turn) → none ≡ [] → n ≤ length into → IfSome told (λ file. ReadsPart file count n into) → Fed (shape_view levels) reader (take n into) new none more
        → HasRead levels made told (count + n) new (turns ++ more)
    more_read n into new none more is few part f =
        let given : more ≡ (given (shape_view levels) reader (take n into)).turns = f.turns ∙ ap (λ ts. ts ++ (given (shape_view levels) reader (take n into)).turns) is in
        piece_read n into new (turns ++ more) few part (record { reader = f.reader; turns = ap (λ ts. turns ++ ts) given })

    standing_is : reader.standing ≡ (reading_of (shape_view levels) made read.text).standing
    standing_is = ap (λ (r : ReaderView). r.standing) read.reader_is

    -- they are turns of the tree
    pub given_so_far : made ≤ 1048576 → GivesTurnsOf (shape_view levels) made turns
    unfolding reading_of
    given_so_far few = subst (GivesTurnsOf (shape_view levels) made) (sym read.turns_are) (turns-reading_on (shape_view levels) 1 made read.text few)

    -- a schedule that isn't refused yet
    pub few_read : made ≤ 1048576 → answer_of reader.standing ≡ Ok tt → count ≤ 26214425
    few_read few e =
        let on : GoesOn (reading_of (shape_view levels) made read.text).standing = subst GoesOn standing_is (answer_goes_on reader.standing e) in
        omega (arith, short_text (shape_view levels) made read.text few on, read.size)

    -- a line is refused, whatever is after
    pub refused_read : (line : ℕ) (refusal : ScheduleRefusal) → answer_of reader.standing ≡ Err (error.Refused line refusal) → IfSome told (IsUnscheduled levels made line refusal)
    refused_read line refusal e = by told read.front where
      shape : ShapeView
      shape = shape_view levels

      here : (reading_of (shape_view levels) made read.text).standing ≡ refused_at line refusal
      here = sym standing_is ∙ answer_refused reader.standing line refusal e

      by : (o : Option (List ℕ)) → IfSome o (λ file. file ≡ read.text ++ drop count file) → IfSome o (IsUnscheduled levels made line refusal)
      by None front = tt
      by (Some file) front =
          let refused : schedule_of (shape_view levels) made (read.text ++ drop count file) ≡ Err (line, refusal) = refused_text (shape_view levels) made (read.text ++ drop count file) line refusal (refused_stays (shape_view levels) made read.text (drop count file) line refusal here) in
          subst (IsUnscheduled levels made line refusal) (sym front) refused

    -- ---- the end of the file

    module _ (n : ℕ) (into : List ℕ) (none : n ≡ 0) (part : IfSome told (λ file. ReadsPart file count n into)) where
      whole : IfSome told (λ file. file ≡ read.text)
      whole = by told read.front part where
        by : (o : Option (List ℕ)) → IfSome o (λ file. file ≡ read.text ++ drop count file) → IfSome o (λ file. ReadsPart file count n into) → IfSome o (λ file. file ≡ read.text)
        by None front part = tt
        by (Some file) front part = front ∙ ap (λ t. read.text ++ t) (part.ends none) ∙ append-nil read.text

      accepts : finish_of reader.standing ≡ Ok tt → schedule_of (shape_view levels) made read.text ≡ Ok turns
      accepts e = finish_accepts (shape_view levels) made read.text (ap finish_of (sym standing_is) ∙ e) ∙ ap Ok (sym read.turns_are)

      pub accepted_read : finish_of reader.standing ≡ Ok tt → AcceptedAs (turns_at levels made) told turns
      unfolding turns_at
      accepted_read e = by told whole where
        by : (o : Option (List ℕ)) → IfSome o (λ file. file ≡ read.text) → AcceptedAs (turns_at levels made) o turns
        by None same = tt
        by (Some file) same = rw (same, accepts e) refl

      pub unended_read : (line : ℕ) (refusal : ScheduleRefusal) → finish_of reader.standing ≡ Err (line, refusal) → IfSome told (IsUnscheduled levels made line refusal)
      unended_read line refusal e = by told whole where
        by : (o : Option (List ℕ)) → IfSome o (λ file. file ≡ read.text) → IfSome o (IsUnscheduled levels made line refusal)
        by None same = tt
        by (Some file) same = rw same (finish_refuses (shape_view levels) made read.text line refusal (ap finish_of (sym standing_is) ∙ e))
