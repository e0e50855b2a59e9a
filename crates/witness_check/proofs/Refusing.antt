-- What a text is refused for: its first line that isn't that of a legal operation, or is one too many.
use Rattle.std.proofs.Common.{◌≡◌, ◌≢◌, ℕ, ◌+◌, ◌<◌, ◌≤◌, Bool, true, false, not, cond, ◌&&◌, nat_eq, nat_lt, List, [], ◌∷◌, ◌++◌, length, Option, Some, None, Err, refl, sym, ap, ◌∙◌, subst, arith, append_assoc, length-append}
use Rattle.std.specs.Prelude.{option_and_then, IsSome}
use Rattle.std.specs.List.{list_all}
use Rattle.std.proofs.lemmas.Bool.{eqb-true, ltb-true, ltb-false}
use Rattle.witness_check.specs.DdmTypes.declared.operations.Op.{Op}
use Rattle.witness_check.specs.FlatModel.Flat.{FlatMachine}
use Rattle.witness_check.specs.FlatModel.Legal.{Legal, legal_step, legal_run}
use Rattle.text_model.specs.Schedule.{pieces_at}
use Rattle.text_model.specs.Lines.{Lacks}
use Rattle.text_model.proofs.Pieces.{Lacks-append, both, pieces_at-append}
use Rattle.witness_check.specs.DdmTypes.ItemTable.{item_count}
use Rattle.witness_check.specs.TreeModel.Start.Machine.{StartRefusal, too_many_items, stack_overlap, no_place, overlap_from}
use Rattle.start_memory.specs.Memory.{memory_items, stacks_of}
use Rattle.witness_check.specs.declared.refusal.CheckRefusal.{CheckRefusal}
use Rattle.witness_check.specs.declared.refusal.CheckRefusal.TheVariants.{TooLong, TooManyItems, StackOverlap, BadLine, TooManyLines, NotLegal, NoMemory}
use Rattle.witness_check.specs.Lines.{op_in}
use Rattle.witness_check.specs.Judging.{Program, going, refused, after_line, after_step, in_line, in_text, longer_line, with_byte, lines_of, standing_of, answer_of}
use Rattle.witness_check.specs.Start.{Setting, program_of, machine_of, start_refusal, answer_unless, check_of, judged}
use Rattle.witness_check.specs.Witness.{BeginsWith, BeginsWithLine, IsRefused}
use Rattle.witness_check.proofs.LineTexts.{line_of, read_line}
use Rattle.witness_check.proofs.Pieces.{refused_stays}
use Rattle.witness_check.proofs.Accepting.{legal_more, legal_none}

-- ---- line feeds

-- a front without line feeds doesn't reach over the first line's
lf_inside : (front tail line more : List ℕ) → Lacks 10 front → front ++ tail ≡ line ++ 10 ∷ more → length line < length front → ⊥
lf_inside [] tail line more lacks is short = omega (arith, short)
lf_inside (b ∷ front) tail [] more lacks is short =
    let parts = both (not (nat_eq b 10)) (list_all (λ c. not (nat_eq c 10)) front) lacks in
    let same : b ≡ 10 = cc is in
    cc (sym parts.0 ∙ ap (λ (c : ℕ). not (nat_eq c 10)) same)
lf_inside (b ∷ front) tail (c ∷ line) more lacks is short =
    let parts = both (not (nat_eq b 10)) (list_all (λ c. not (nat_eq c 10)) front) lacks in
    lf_inside front tail line more parts.1 (cc is) (omega (arith, short))

-- one text has one first line
same_line : (a b x y : List ℕ) → Lacks 10 a → Lacks 10 b → a ++ 10 ∷ x ≡ b ++ 10 ∷ y → a ≡ b
same_line a b x y one two is =
    let e : a ∷ pieces_at 10 x ≡ b ∷ pieces_at 10 y = sym (pieces_at-append 10 a x refl one) ∙ ap (λ t. pieces_at 10 t) is ∙ pieces_at-append 10 b y refl two in
    cc e

not_empty : (front : List ℕ) (byte : ℕ) (text : List ℕ) → front ++ byte ∷ text ≢ []
not_empty [] byte text e = cc e
not_empty (b ∷ front) byte text e = cc e

-- ---- why

-- an operation's line, which isn't legal behind others
pub record IsIllegal (p : Program) (machine : FlatMachine) (ops : List Op) (rest : List ℕ) : Type 0 where
  pub op : Op
  pub begins : BeginsWithLine rest op
  pub illegal : Legal p.code p.items machine (ops ++ op ∷ []) → ⊥

abbrev pub Why : Program → FlatMachine → ℕ → List Op → List ℕ → CheckRefusal → Type 0
Why p machine n ops rest (BadLine k) = (k ≡ n) × (k ≤ 1048576) × ((op : Op) → BeginsWithLine rest op → ⊥)
Why p machine n ops rest (TooManyLines k) = (k ≡ n) × (k ≡ 1048577)
Why p machine n ops rest (NotLegal k) = (k ≡ n) × (k ≤ 1048576) × IsIllegal p machine ops rest
Why p machine n ops rest TooLong = ⊥
Why p machine n ops rest (TooManyItems k) = ⊥
Why p machine n ops rest (StackOverlap hart header) = ⊥
Why p machine n ops rest NoMemory = ⊥

-- behind `made` lines
pub record IsStopped (p : Program) (machine : FlatMachine) (made : ℕ) (text : List ℕ) (refusal : CheckRefusal) : Type 0 where
  pub ops : List Op
  pub rest : List ℕ
  pub text_is : BeginsWith text ops rest
  pub legal : Legal p.code p.items machine ops
  pub some : rest ≢ []
  pub why : Why p machine (made + length ops + 1) ops rest refusal

-- at this line
here : (p : Program) (machine : FlatMachine) (made : ℕ) (text : List ℕ) (refusal : CheckRefusal) → text ≢ [] → Why p machine (made + 1) [] text refusal → IsStopped p machine made text refusal
here p machine made text refusal some why =
    let P : ℕ → Type 0 = λ n. Why p machine n [] text refusal in
    let same : made + 1 ≡ made + 0 + 1 = omega arith in
    record { ops = []; rest = text; text_is = refl; legal = legal_none p machine; some = some; why = subst P same why }

legal_less : (p : Program) (machine next : FlatMachine) (op : Op) (ops : List Op) → legal_step p.code p.items machine op ≡ Some next → Legal p.code p.items machine (op ∷ ops) → Legal p.code p.items next ops
unfolding legal_run
legal_less p machine next op ops step legal =
    let P : Option FlatMachine → Type 0 = λ o. IsSome (option_and_then (λ m. legal_run p.code p.items m ops) o) in
    subst P step legal

illegal_alone : (p : Program) (machine : FlatMachine) (op : Op) → legal_step p.code p.items machine op ≡ None → Legal p.code p.items machine (op ∷ []) → ⊥
unfolding legal_run
illegal_alone p machine op step legal =
    let P : Option FlatMachine → Type 0 = λ o. IsSome (option_and_then (λ m. legal_run p.code p.items m []) o) in
    cc (subst P step legal)

why_more : (p : Program) (machine next : FlatMachine) (made : ℕ) (op : Op) (ops : List Op) (rest : List ℕ) (refusal : CheckRefusal) → legal_step p.code p.items machine op ≡ Some next
    → Why p next (made + 1 + length ops + 1) ops rest refusal → Why p machine (made + length (op ∷ ops) + 1) (op ∷ ops) rest refusal
why_more p machine next made op ops rest (BadLine k) step why = (omega (arith, why.0), why.1, why.2)
why_more p machine next made op ops rest (TooManyLines k) step why = (omega (arith, why.0), why.1)
why_more p machine next made op ops rest (NotLegal k) step why =
    (omega (arith, why.0), why.1, record { op = why.2.op; begins = why.2.begins; illegal = λ legal. why.2.illegal (legal_less p machine next op (ops ++ why.2.op ∷ []) step legal) })
why_more p machine next made op ops rest TooLong step why = why
why_more p machine next made op ops rest (TooManyItems k) step why = why
why_more p machine next made op ops rest (StackOverlap hart header) step why = why
why_more p machine next made op ops rest NoMemory step why = why

-- ---- one byte

refusal_is : (p : Program) (said refusal : CheckRefusal) (text : List ℕ) → answer_of (lines_of p (refused said) text) ≡ Err refusal → said ≡ refusal
refusal_is p said refusal text e = cc (sym (ap answer_of (refused_stays p said text)) ∙ e)

module _ (p : Program) (machine : FlatMachine) (made : ℕ) (front : List ℕ) (byte : ℕ) (text : List ℕ) (refusal : CheckRefusal) (lacks : Lacks 10 front)
    (behind : (next : FlatMachine) → made < 1048576 → answer_of (lines_of p (going next (made + 1) []) text) ≡ Err refusal → IsStopped p next (made + 1) text refusal)
    (longer : made < 1048576 → Lacks 10 (front ++ byte ∷ []) → answer_of (lines_of p (going machine made (front ++ byte ∷ [])) text) ≡ Err refusal → IsStopped p machine made ((front ++ byte ∷ []) ++ text) refusal)
  where
    abbrev Stopped : Type 0
    Stopped = IsStopped p machine made (front ++ byte ∷ text) refusal

    stop_at : (said : CheckRefusal) → said ≡ refusal → Why p machine (made + 1) [] (front ++ byte ∷ text) said → Stopped
    stop_at said is why =
        let P : CheckRefusal → Type 0 = λ r. Why p machine (made + 1) [] (front ++ byte ∷ text) r in
        here p machine made (front ++ byte ∷ text) refusal (not_empty front byte text) (subst P is why)

    by_step : (o : Option FlatMachine) (op : Op) → byte ≡ 10 → made < 1048576 → op_in front ≡ Some op → legal_step p.code p.items machine op ≡ o → answer_of (lines_of p (after_step made o) text) ≡ Err refusal → Stopped
    by_step (Some next) op is room read step e =
        let more = behind next room e in
        record {
          ops = op ∷ more.ops;
          rest = more.rest;
          text_is = (front, text, ap (λ (b : ℕ). front ++ b ∷ text) is, line_of front op read, more.text_is);
          legal = legal_more p machine next op more.ops step more.legal;
          some = more.some;
          why = why_more p machine next made op more.ops more.rest refusal step more.why;
        }
    by_step None op is room read step e =
        stop_at (NotLegal (made + 1)) (refusal_is p (NotLegal (made + 1)) refusal text e)
        (refl, omega (arith, room), record { op = op; begins = (front, text, ap (λ (b : ℕ). front ++ b ∷ text) is, line_of front op read); illegal = illegal_alone p machine op step })

    -- the first line isn't an operation's
    no_line : byte ≡ 10 → op_in front ≡ None → (op : Op) → BeginsWithLine (front ++ byte ∷ text) op → ⊥
    no_line is none op begins =
        let read = read_line begins.0 op begins.3 in
        let same = same_line front begins.0 text begins.1 lacks read.lacks (ap (λ (b : ℕ). front ++ b ∷ text) (sym is) ∙ begins.2) in
        cc (sym none ∙ ap op_in same ∙ read.is)

    by_line : (o : Option Op) → byte ≡ 10 → made < 1048576 → op_in front ≡ o → answer_of (lines_of p (after_line p machine made o) text) ≡ Err refusal → Stopped
    by_line (Some op) is room read e = by_step (legal_step p.code p.items machine op) op is room read refl e
    by_line None is room read e = stop_at (BadLine (made + 1)) (refusal_is p (BadLine (made + 1)) refusal text e) (refl, omega (arith, room), no_line is read)

    lacks_more : nat_eq byte 10 ≡ false → Lacks 10 (front ++ byte ∷ [])
    lacks_more other = Lacks-append 10 front (byte ∷ []) lacks (ap (λ b. not b && true) other)

    -- the first line is too long
    long_line : nat_eq byte 10 ≡ false → 160 ≤ length front → (op : Op) → BeginsWithLine (front ++ byte ∷ text) op → ⊥
    long_line other long op begins =
        let read = read_line begins.0 op begins.3 in
        lf_inside (front ++ byte ∷ []) text begins.0 begins.1 (lacks_more other) (append_assoc front (byte ∷ []) text ∙ begins.2) (omega (arith, read.short, long, length-append front (byte ∷ [])))

    by_length : (d : Bool) → nat_lt (length front) 160 ≡ d → nat_eq byte 10 ≡ false → made < 1048576 → answer_of (lines_of p (longer_line d machine made front byte) text) ≡ Err refusal → Stopped
    by_length true short other room e =
        let P : List ℕ → Type 0 = λ t. IsStopped p machine made t refusal in
        subst P (append_assoc front (byte ∷ []) text) (longer room (lacks_more other) e)
    by_length false long other room e =
        stop_at (BadLine (made + 1)) (refusal_is p (BadLine (made + 1)) refusal text e) (refl, omega (arith, room), long_line other (ltb-false (length front) 160 long))

    by_byte : (d : Bool) → nat_eq byte 10 ≡ d → made < 1048576 → answer_of (lines_of p (in_line d p machine made front byte) text) ≡ Err refusal → Stopped
    by_byte true is room e = by_line (op_in front) (eqb-true byte 10 is) room refl e
    by_byte false other room e = by_length (nat_lt (length front) 160) refl other room e

    one_byte : (d : Bool) → nat_lt made 1048576 ≡ d → made ≤ 1048576 → answer_of (lines_of p (in_text d p machine made front byte) text) ≡ Err refusal → Stopped
    one_byte true room few e = by_byte (nat_eq byte 10) refl (ltb-true made 1048576 room) e
    one_byte false full few e =
        let all : 1048576 ≤ made = ltb-false made 1048576 full in
        stop_at (TooManyLines (made + 1)) (refusal_is p (TooManyLines (made + 1)) refusal text e) (refl, omega arith)

-- ---- a text

-- a line that isn't whole is there only where there may be one
abbrev MayBegin : ℕ → List ℕ → Type 0
MayBegin made [] = made ≤ 1048576
MayBegin made (b ∷ front) = made < 1048576

few_of : (made : ℕ) (front : List ℕ) → MayBegin made front → made ≤ 1048576
few_of made [] few = few
few_of made (b ∷ front) few = omega (arith, few)

may_go_on : (made : ℕ) (front : List ℕ) (byte : ℕ) → made < 1048576 → MayBegin made (front ++ byte ∷ [])
may_go_on made [] byte room = room
may_go_on made (b ∷ front) byte room = room

stopped : (p : Program) (machine : FlatMachine) (made : ℕ) (front text : List ℕ) (refusal : CheckRefusal) → Lacks 10 front → MayBegin made front → answer_of (lines_of p (going machine made front) text) ≡ Err refusal
    → IsStopped p machine made (front ++ text) refusal
unfolding with_byte
stopped p machine made [] [] refusal lacks may e = absurd (cc e)
stopped p machine made (b ∷ front) [] refusal lacks may e =
    let P : CheckRefusal → Type 0 = λ r. Why p machine (made + 1) [] ((b ∷ front) ++ []) r in
    let is : BadLine (made + 1) ≡ refusal = cc e in
    here p machine made ((b ∷ front) ++ []) refusal (λ none. cc none)
    (subst P is (
      refl,
      omega (arith, may),
      λ op begins.
          lf_inside (b ∷ front) [] begins.0 begins.1 lacks begins.2 (omega (arith, ap (λ (t : List ℕ). length t) begins.2, length-append (b ∷ front) [], length-append begins.0 (10 ∷ begins.1))),
    ))
stopped p machine made front (byte ∷ text) refusal lacks may e =
    one_byte p machine made front byte text refusal lacks
    (λ next room e'. stopped p next (made + 1) [] text refusal refl (omega (arith, room)) e')
    (λ room lacks' e'. stopped p machine made (front ++ byte ∷ []) text refusal lacks' (may_go_on made front byte room) e')
    (nat_lt made 1048576) refl (few_of made front may) e

-- ---- the whole

by_why : (s : Setting) (text : List ℕ) (refusal : CheckRefusal) → start_refusal s ≡ None → length text ≤ 168820736 → IsStopped (program_of s) (machine_of s) 0 text refusal → IsRefused s text refusal
by_why s text (BadLine n) start short stop = (
  start,
  short,
  record {
    ops = stop.ops;
    rest = stop.rest;
    line = record { text_is = stop.text_is; number = omega (arith, stop.why.0); legal = stop.legal; some = stop.some };
    few = stop.why.1;
    bad = stop.why.2;
  },
)
by_why s text (TooManyLines n) start short stop = (
  start,
  short,
  record {
    ops = stop.ops;
    rest = stop.rest;
    line = record { text_is = stop.text_is; number = omega (arith, stop.why.0); legal = stop.legal; some = stop.some };
    number = stop.why.1;
  },
)
by_why s text (NotLegal n) start short stop = (
  start,
  short,
  record {
    ops = stop.ops;
    rest = stop.rest;
    op = stop.why.2.op;
    line = record { text_is = stop.text_is; number = omega (arith, stop.why.0); legal = stop.legal; some = stop.some };
    few = stop.why.1;
    begins = stop.why.2.begins;
    illegal = stop.why.2.illegal;
  },
)
by_why s text TooLong start short stop = absurd stop.why
by_why s text (TooManyItems k) start short stop = absurd stop.why
by_why s text (StackOverlap hart header) start short stop = absurd stop.why
by_why s text NoMemory start short stop = absurd stop.why

-- a refusal that says so
says : (said : CheckRefusal) (s : Setting) (text : List ℕ) (refusal : CheckRefusal) → said ≡ refusal → (start_refusal s ≡ Some said → IsRefused s text said) → start_refusal s ≡ Some refusal → IsRefused s text refusal
says said s text refusal is by start =
    let P : CheckRefusal → Type 0 = λ r. start_refusal s ≡ Some r → IsRefused s text r in
    subst P is by start

start_says : (many : Bool) (n : ℕ) (met : Option StartRefusal) (s : Setting) (text : List ℕ) (refusal : CheckRefusal) → cond many (Some (TooManyItems n)) (option_and_then judged met) ≡ Some refusal → start_refusal s ≡ Some refusal
    → IsRefused s text refusal
start_says true n met s text refusal is start = says (TooManyItems n) s text refusal (cc is) (λ e. e) start
start_says false n None s text refusal is start = absurd (cc is)
start_says false n (Some (too_many_items k)) s text refusal is start = says (TooManyItems k) s text refusal (cc is) (λ e. e) start
start_says false n (Some (stack_overlap hart header)) s text refusal is start = says (StackOverlap hart header) s text refusal (cc is) (λ e. e) start
start_says false n (Some (no_place k)) s text refusal is start = absurd (cc is)

start_refused : (s : Setting) (text : List ℕ) (refusal : CheckRefusal) → start_refusal s ≡ Some refusal → IsRefused s text refusal
unfolding start_refusal
start_refused s text refusal e =
    let n = item_count (memory_items s.start s.item_bytes s.image.segments) in
    start_says (nat_lt 65536 n) n (overlap_from s.image.segments 0 (stacks_of s.start)) s text refusal e e

pub refused_is : (s : Setting) (text : List ℕ) (refusal : CheckRefusal) → check_of s text ≡ Err refusal → IsRefused s text refusal
unfolding check_of standing_of
refused_is s text refusal e = by_start (start_refusal s) refl e where
  by_length : (d : Bool) → nat_lt 168820736 (length text) ≡ d → start_refusal s ≡ None → answer_of (cond d (refused TooLong) (lines_of (program_of s) (going (machine_of s) 0 []) text)) ≡ Err refusal → IsRefused s text refusal
  by_length true long start e =
      let P : CheckRefusal → Type 0 = λ r. IsRefused s text r in
      let is : TooLong ≡ refusal = cc e in
      subst P is (start, ltb-true 168820736 (length text) long)
  by_length false short start e =
      by_why s text refusal start (ltb-false 168820736 (length text) short) (stopped (program_of s) (machine_of s) 0 [] text refusal refl (omega arith) e)

  by_start : (o : Option CheckRefusal) → start_refusal s ≡ o → answer_unless o (answer_of (standing_of (program_of s) (machine_of s) text)) ≡ Err refusal → IsRefused s text refusal
  by_start (Some said) start e =
      let is : said ≡ refusal = cc e in
      start_refused s text refusal (start ∙ ap (λ (r : CheckRefusal). Some r) is)
  by_start None start e = by_length (nat_lt 168820736 (length text)) refl start e
