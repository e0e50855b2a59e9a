-- What a reader says of a witness that was given to it in pieces, as what the whole file comes to.
use Rattle.std.proofs.Common.{◌≡◌, ℕ, ◌+◌, ◌≤◌, Bool, true, false, cond, nat_lt, List, [], ◌++◌, length, take, drop, Option, Some, None, Result, Ok, Err, refl, sym, ap, subst, ◌∙◌, arith, append_assoc, length-append}
use Rattle.std.specs.Prelude.{IfSome}
use Rattle.std.proofs.lemmas.Bool.Decides.{nat_tests}
use Rattle.std.proofs.lemmas.List.{append-nil, length-take-le}
use Rattle.ddm_cli.specs.DdmOutside.Telling.{ReadsPart}
use Rattle.ddm_cli.proofs.ReportCrate.Written.{rose_before}
use Rattle.ddm_cli.specs.ReportCrate.declared.roles.FileRole.TheVariants.{ImageFile, TreeFile, ScheduleFile, WitnessFile, CheckpointFile}
use Rattle.ddm_cli.specs.TreeModel.Start.Sources.{TreeValue}
use Rattle.witness_check.specs.Judging.{Standing, answer_of, going, lines_of, refused, standing_of, text_limit}
use Rattle.witness_check.specs.Reader.{ReaderView, begun, fed, feed_answer, reader_after}
use Rattle.witness_check.specs.Start.{Setting, check_of, machine_of, program_of}
use Rattle.witness_check.specs.Witness.{IsAccepted}
use Rattle.witness_check.specs.declared.refusal.CheckRefusal.{CheckRefusal}
use Rattle.witness_check.specs.declared.refusal.CheckRefusal.TheVariants as refusal
use Rattle.witness_check.proofs.Accepting.{accepted_is}
use Rattle.witness_check.proofs.Pieces.{answer_is, nothing_yet, piece_more, refused_stays}
use Rattle.ddm_cli.specs.Causes.{AcceptedAs, ComesTo, WitnessCause}
use Rattle.ddm_words.specs.Commands.{Check}
use Rattle.ddm_cli.specs.Parts.{BeginsFor, setting_at, setting_in, tree_at}
use Rattle.ddm_cli.specs.Printed.{legal_line}
use Rattle.ddm_cli.specs.Reads.{HasFed, IsBehind}
use Rattle.ddm_cli.specs.Top.{AcceptsSetting, HasLegalLines, IsJudged, NoVerdict}
use Rattle.ddm_cli.specs.declared.status.Status.{Status}
use Rattle.ddm_cli.specs.declared.status.Status.TheVariants.{Done, Usage, ImageLoad, ImageBuild, Tree, Schedule, Witness, Checkpoint, SmallLists, Table, ReadFault, UnreadTable, WriteFault, NoMemory, Litmus, UnreadTest}

-- ---- where a text is

-- an answer is an error where the text is too long
answer_long : (st : Standing) (r : CheckRefusal) → feed_answer st ≡ Err r → (st ≡ refused refusal.TooLong) × (r ≡ refusal.TooLong)
answer_long (going machine made line) r e = absurd (cc e)
answer_long (refused refusal.TooLong) r e = (refl, cc e)
answer_long (refused (refusal.TooManyItems n)) r e = absurd (cc e)
answer_long (refused (refusal.StackOverlap hart header)) r e = absurd (cc e)
answer_long (refused (refusal.BadLine n)) r e = absurd (cc e)
answer_long (refused (refusal.TooManyLines n)) r e = absurd (cc e)
answer_long (refused (refusal.NotLegal n)) r e = absurd (cc e)
answer_long (refused refusal.NoMemory) r e = absurd (cc e)

-- what is too long stays so
long_stays : (s : Setting) (text rest : List ℕ) → (reader_after s text).standing ≡ refused refusal.TooLong → (reader_after s (text ++ rest)).standing ≡ refused refusal.TooLong
unfolding fed
long_stays s text rest is =
    let reader = reader_after s text in
    sym (ap (λ (r : ReaderView). r.standing) (piece_more s text rest)) ∙ by (nat_lt text_limit (reader.size + length rest)) reader.standing is
  where
    by : (long : Bool) (st : Standing) → st ≡ refused refusal.TooLong → cond long (refused refusal.TooLong) (lines_of (program_of s) st rest) ≡ refused refusal.TooLong
    by true st is = refl
    by false st is = rw is (refused_stays (program_of s) refusal.TooLong rest)

-- where the answer is no error, the text is short
short_text : (s : Setting) (text : List ℕ) → feed_answer (reader_after s text).standing ≡ Ok tt → length text ≤ 168820736
unfolding standing_of
short_text s text = by (nat_lt text_limit (length text)) refl where
  by : (long : Bool) → nat_lt text_limit (length text) ≡ long → feed_answer (cond long (refused refusal.TooLong) (lines_of (program_of s) (going (machine_of s) 0 []) text)) ≡ Ok tt → length text ≤ 168820736
  by true is e = absurd (cc e)
  by false is e = grind (arith, nat_tests)

-- ---- pieces of a file

module _ (first : ReaderView) (told : Option (List ℕ)) where
  -- before the first
  pub nothing_fed : HasFed first told 0 first
  nothing_fed = record { text = []; size = refl; behind = λ s is. is ∙ nothing_yet s; front = front told } where
    front : (o : Option (List ℕ)) → IfSome o (λ file. file ≡ file)
    front None = tt
    front (Some file) = refl

  module _ (count : ℕ) (reader : ReaderView) (read : HasFed first told count reader) (n : ℕ) (into : List ℕ) (part : IfSome told (λ file. ReadsPart file count n into)) where
    -- one more
    pub piece_fed : (new : ReaderView) → n ≤ length into → new ≡ fed reader (take n into) → HasFed first told (count + n) new
    piece_fed new few is = record {
      text = read.text ++ take n into;
      size = length-append read.text (take n into) ∙ sizes read.size (length-take-le n into few);
      behind = λ s begins. is ∙ ap (λ r. fed r (take n into)) (read.behind s begins) ∙ piece_more s read.text (take n into);
      front = front told read.front part;
    } where
      sizes : {a b c d : ℕ} → a ≡ b → c ≡ d → a + c ≡ b + d
      sizes e g = omega (arith, e, g)

      front : (o : Option (List ℕ)) → IfSome o (λ file. file ≡ read.text ++ drop count file) → IfSome o (λ file. ReadsPart file count n into) → IfSome o (λ file. file ≡ (read.text ++ take n into) ++ drop (count + n) file)
      front None so_far part = tt
      front (Some file) so_far part = so_far ∙ ap (λ t. read.text ++ t) part.bytes ∙ sym (append_assoc read.text (take n into) (drop (count + n) file))

    -- the file ends here
    pub all_fed : n ≡ 0 → IfSome told (IsBehind first reader)
    all_fed none = by told read.front part where
      by : (o : Option (List ℕ)) → IfSome o (λ file. file ≡ read.text ++ drop count file) → IfSome o (λ file. ReadsPart file count n into) → IfSome o (IsBehind first reader)
      by None front part = tt
      by (Some file) front part = λ s begins. read.behind s begins ∙ ap (reader_after s) (sym (front ∙ ap (λ t. read.text ++ t) (part.ends none) ∙ append-nil read.text))

  -- so far the text isn't too long
  pub few_fed : (count : ℕ) (reader : ReaderView) → HasFed first told count reader → (s : Setting) → first ≡ begun s → feed_answer reader.standing ≡ Ok tt → count ≤ 168820736
  few_fed count reader read s begins e =
      let short = short_text s read.text (subst (λ (r : ReaderView). feed_answer r.standing ≡ Ok tt) (read.behind s begins) e) in
      omega (arith, short, read.size)

  -- or it is, whatever is after
  pub long_fed : (count : ℕ) (reader : ReaderView) → HasFed first told count reader → (r : CheckRefusal) → feed_answer reader.standing ≡ Err r → IfSome told (ComesTo first (Err r))
  long_fed count reader read r e = by told read.front where
    comes : (file : List ℕ) → file ≡ read.text ++ drop count file → ComesTo first (Err r) file
    comes file front s begins starts =
        let long = answer_long (reader_after s read.text).standing r (subst (λ (v : ReaderView). feed_answer v.standing ≡ Err r) (read.behind s begins) e) in
        let whole : (reader_after s file).standing ≡ refused refusal.TooLong = ap (λ t. (reader_after s t).standing) front ∙ long_stays s read.text (drop count file) long.0 in
        sym (answer_is s file starts) ∙ ap answer_of whole ∙ ap (λ (x : CheckRefusal). Err x) (sym long.1)

    by : (o : Option (List ℕ)) → IfSome o (λ file. file ≡ read.text ++ drop count file) → IfSome o (ComesTo first (Err r))
    by None front = tt
    by (Some file) front = comes file front

-- what a text comes to that was read to its end
pub comes_to : (told : Option (List ℕ)) (first reader : ReaderView) (answer : Result ℕ CheckRefusal) → IfSome told (IsBehind first reader) → answer ≡ answer_of reader.standing → IfSome told (ComesTo first answer)
comes_to None first reader answer behind is = tt
comes_to (Some file) first reader answer behind is = λ s begins starts. sym (answer_is s file starts) ∙ ap (λ (r : ReaderView). answer_of r.standing) (sym (behind s begins)) ∙ sym is

-- ---- the files

setting_taken : (tree image : List ℕ) (t : TreeValue) (s : Setting) → tree_at tree ≡ Some t → setting_in t image ≡ Some s → setting_at tree image ≡ Some s
unfolding setting_at
setting_taken tree image t s taken is = rw taken is

pub takes_setting : (tree image : Option (List ℕ)) (t : TreeValue) (reader : ReaderView) → AcceptedAs tree_at tree t → BeginsFor t image reader → AcceptsSetting tree image
takes_setting None image t reader taken begins = (tt, tt)
takes_setting (Some f) None t reader taken begins = (rw taken refl, tt)
takes_setting (Some f) (Some g) t reader taken begins = (rw taken refl, rw (setting_taken f g t begins.setting taken begins.is) refl)

pub is_judged : (answer : Result ℕ CheckRefusal) (tree image witness : Option (List ℕ)) (t : TreeValue) (reader : ReaderView) → AcceptedAs tree_at tree t → BeginsFor t image reader → IfSome witness (ComesTo reader answer) → IsJudged answer tree image witness
is_judged answer None image witness t reader taken begins comes = tt
is_judged answer (Some f) None witness t reader taken begins comes = tt
is_judged answer (Some f) (Some g) None t reader taken begins comes = tt
is_judged answer (Some f) (Some g) (Some w) t reader taken begins comes = rw (setting_taken f g t begins.setting taken begins.is) (comes begins.setting begins.begins begins.starts)

-- a witness that is accepted
has_lines : (lines : ℕ) (tree image witness : Option (List ℕ)) → IsJudged (Ok lines) tree image witness → HasLegalLines lines tree image witness
has_lines lines None image witness is = tt
has_lines lines (Some f) None witness is = tt
has_lines lines (Some f) (Some g) None is = tt
has_lines lines (Some f) (Some g) (Some w) is = by (setting_at f g) is where
  by : (o : Option Setting) → IfSome o (λ s. check_of s w ≡ Ok lines) → IfSome o (λ s. IsAccepted s w lines)
  by None is = tt
  by (Some s) is = accepted_is s w lines is

pub verdict_taken : (tree image witness : Option (List ℕ)) (t : TreeValue) (reader : ReaderView) (lines : ℕ) → AcceptedAs tree_at tree t → BeginsFor t image reader → IfSome witness (ComesTo reader (Ok lines))
    → AcceptsSetting tree image × ((n : ℕ) × (legal_line lines ≡ legal_line n) × HasLegalLines n tree image witness)
verdict_taken tree image witness t reader lines taken begins comes =
    (takes_setting tree image t reader taken begins, (lines, refl, has_lines lines tree image witness (is_judged (Ok lines) tree image witness t reader taken begins comes)))

-- why a witness isn't accepted, as a cause of the command: the count rose since the image was read, or before
module _ {F : Type 0} (told : F → List ℕ → Option (List ℕ)) (faults : F → List ℕ → ℕ) (files files' : F) (c : Check) (t : TreeValue) (reader : ReaderView) (before : ℕ) (tree : AcceptedAs tree_at (told files c.tree) t)
    (begins : BeginsFor t (told files c.image) reader) (earlier : faults files c.witness ≤ before) where
  pub verdict_refused : (s : Status) → WitnessCause reader (told files c.witness) before (faults files' c.witness) s → NoVerdict told faults files files' s c
  verdict_refused (Witness r) cause = (takes_setting (told files c.tree) (told files c.image) t reader tree begins, is_judged (Err r) (told files c.tree) (told files c.image) (told files c.witness) t reader tree begins cause)
  verdict_refused (ReadFault WitnessFile) cause = (rose_before (faults files c.witness) before (faults files' c.witness) earlier cause, takes_setting (told files c.tree) (told files c.image) t reader tree begins)
  verdict_refused (ReadFault TreeFile) cause = absurd cause
  verdict_refused (ReadFault ImageFile) cause = absurd cause
  verdict_refused (ReadFault ScheduleFile) cause = absurd cause
  verdict_refused (ReadFault CheckpointFile) cause = absurd cause
  verdict_refused NoMemory cause = tt
  verdict_refused Done cause = absurd cause
  verdict_refused (Usage k) cause = absurd cause
  verdict_refused (ImageLoad r) cause = absurd cause
  verdict_refused (ImageBuild r) cause = absurd cause
  verdict_refused (Tree r) cause = absurd cause
  verdict_refused (Schedule line r) cause = absurd cause
  verdict_refused (Checkpoint r) cause = absurd cause
  verdict_refused (SmallLists key) cause = absurd cause
  verdict_refused (Table n r) cause = absurd cause
  verdict_refused (UnreadTable n) cause = absurd cause
  verdict_refused (Litmus x) cause = absurd cause
  verdict_refused UnreadTest cause = absurd cause
  verdict_refused WriteFault cause = absurd cause
