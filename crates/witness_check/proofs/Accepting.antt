-- A text is accepted exactly where it is the lines of legal operations.
use Rattle.std.proofs.Common.{◌≡◌, ℕ, ◌+◌, ◌*◌, ◌<◌, ◌≤◌, Bool, true, false, not, cond, nat_eq, nat_lt, List, [], ◌∷◌, ◌++◌, length, Option, Some, None, Ok, refl, sym, ap, ◌∙◌, subst, arith, append_assoc, length-append}
use Rattle.std.specs.Prelude.{option_and_then, IsSome}
use Rattle.std.specs.List.{list_all}
use Rattle.std.proofs.lemmas.Bool.{eqb-true, lt-ltb, le-ltb, ltb-true}
use Rattle.std.proofs.lemmas.List.{append-nil}
use Rattle.witness_check.specs.DdmTypes.declared.operations.Op.{Op}
use Rattle.witness_check.specs.FlatModel.Flat.{FlatMachine}
use Rattle.witness_check.specs.FlatModel.Legal.{Legal, legal_step, legal_run}
use Rattle.text_model.specs.Lines.{Lacks}
use Rattle.text_model.proofs.Pieces.{both}
use Rattle.witness_check.specs.declared.refusal.CheckRefusal.{CheckRefusal}
use Rattle.witness_check.specs.declared.refusal.CheckRefusal.TheVariants.{TooLong, BadLine, TooManyLines, NotLegal}
use Rattle.witness_check.specs.Lines.{op_in, without_key}
use Rattle.witness_check.specs.Judging.{Program, going, refused, after_line, after_step, in_line, in_text, longer_line, with_byte, lines_of, standing_of, answer_of}
use Rattle.witness_check.specs.Start.{Setting, program_of, machine_of, start_refusal, answer_unless, check_of}
use Rattle.witness_check.specs.Witness.{BeginsWith, IsAccepted}
use Rattle.witness_check.proofs.LineTexts.{line_of, read_line}
use Rattle.witness_check.proofs.Pieces.{refused_stays}

-- ---- what is accepted is so

-- behind `made` lines, a text of lines of legal operations
pub record IsLegalText (p : Program) (machine : FlatMachine) (made : ℕ) (text : List ℕ) (lines : ℕ) : Type 0 where
  pub ops : List Op
  pub text_is : BeginsWith text ops []
  pub count : made + length ops ≡ lines
  pub few : lines ≤ 1048576
  pub legal : Legal p.code p.items machine ops

no_refusal : (p : Program) (refusal : CheckRefusal) (text : List ℕ) (lines : ℕ) {P : Type 0} → answer_of (lines_of p (refused refusal) text) ≡ Ok lines → P
no_refusal p refusal text lines e = absurd (cc (sym (ap answer_of (refused_stays p refusal text)) ∙ e))

pub legal_none : (p : Program) (machine : FlatMachine) → Legal p.code p.items machine []
unfolding legal_run
legal_none p machine = refl

-- one more operation before legal ones
pub legal_more : (p : Program) (machine next : FlatMachine) (op : Op) (ops : List Op) → legal_step p.code p.items machine op ≡ Some next → Legal p.code p.items next ops → Legal p.code p.items machine (op ∷ ops)
unfolding legal_run
legal_more p machine next op ops step legal =
    let P : Option FlatMachine → Type 0 = λ o. IsSome (option_and_then (λ m. legal_run p.code p.items m ops) o) in
    subst P (sym step) legal

-- one byte of a text that is accepted, where the same is known of what it makes: behind its line, and with a longer line
module _ (p : Program) (machine : FlatMachine) (made : ℕ) (front : List ℕ) (byte : ℕ) (text : List ℕ) (lines : ℕ)
    (behind : (next : FlatMachine) → made < 1048576 → answer_of (lines_of p (going next (made + 1) []) text) ≡ Ok lines → IsLegalText p next (made + 1) text lines)
    (longer : answer_of (lines_of p (going machine made (front ++ byte ∷ [])) text) ≡ Ok lines → IsLegalText p machine made ((front ++ byte ∷ []) ++ text) lines)
  where
    by_step : (o : Option FlatMachine) (op : Op) → byte ≡ 10 → made < 1048576 → op_in front ≡ Some op → legal_step p.code p.items machine op ≡ o → answer_of (lines_of p (after_step made o) text) ≡ Ok lines → IsLegalText p machine made (front ++ byte ∷ text) lines
    by_step (Some next) op is room read step e =
        let more = behind next room e in
        record {
          ops = op ∷ more.ops;
          text_is = (front, text, ap (λ (b : ℕ). front ++ b ∷ text) is, line_of front op read, more.text_is);
          count = omega (arith, more.count);
          few = more.few;
          legal = legal_more p machine next op more.ops step more.legal;
        }
    by_step None op is room read step e = no_refusal p (NotLegal (made + 1)) text lines e

    by_line : (o : Option Op) → byte ≡ 10 → made < 1048576 → op_in front ≡ o → answer_of (lines_of p (after_line p machine made o) text) ≡ Ok lines → IsLegalText p machine made (front ++ byte ∷ text) lines
    by_line (Some op) is room read e = by_step (legal_step p.code p.items machine op) op is room read refl e
    by_line None is room read e = no_refusal p (BadLine (made + 1)) text lines e

    by_length : (d : Bool) → answer_of (lines_of p (longer_line d machine made front byte) text) ≡ Ok lines → IsLegalText p machine made (front ++ byte ∷ text) lines
    by_length true e =
        let P : List ℕ → Type 0 = λ t. IsLegalText p machine made t lines in
        subst P (append_assoc front (byte ∷ []) text) (longer e)
    by_length false e = no_refusal p (BadLine (made + 1)) text lines e

    by_byte : (d : Bool) → nat_eq byte 10 ≡ d → made < 1048576 → answer_of (lines_of p (in_line d p machine made front byte) text) ≡ Ok lines → IsLegalText p machine made (front ++ byte ∷ text) lines
    by_byte true is room e = by_line (op_in front) (eqb-true byte 10 is) room refl e
    by_byte false is room e = by_length (nat_lt (length front) 160) e

    one_byte : (d : Bool) → nat_lt made 1048576 ≡ d → answer_of (lines_of p (in_text d p machine made front byte) text) ≡ Ok lines → IsLegalText p machine made (front ++ byte ∷ text) lines
    one_byte true room e = by_byte (nat_eq byte 10) refl (ltb-true made 1048576 room) e
    one_byte false room e = no_refusal p (TooManyLines (made + 1)) text lines e

accepted : (p : Program) (machine : FlatMachine) (made : ℕ) (front text : List ℕ) (lines : ℕ) → made ≤ 1048576 → answer_of (lines_of p (going machine made front) text) ≡ Ok lines → IsLegalText p machine made (front ++ text) lines
unfolding with_byte
accepted p machine made [] [] lines few e =
    let same : made ≡ lines = cc e in
    record { ops = []; text_is = refl; count = omega arith; few = omega arith; legal = legal_none p machine }
accepted p machine made (b ∷ front) [] lines few e = absurd (cc e)
accepted p machine made front (byte ∷ text) lines few e =
    one_byte p machine made front byte text lines
    (λ next room e'. accepted p next (made + 1) [] text lines (omega (arith, room)) e')
    (λ e'. accepted p machine made (front ++ byte ∷ []) text lines few e')
    (nat_lt made 1048576) refl e

-- ---- and what is so is accepted

pub other_byte_step : (p : Program) (machine : FlatMachine) (made : ℕ) (front : List ℕ) (byte : ℕ) → made < 1048576 → nat_eq byte 10 ≡ false → length front < 160
    → with_byte p (going machine made front) byte ≡ going machine made (front ++ byte ∷ [])
unfolding with_byte
other_byte_step p machine made front byte room other short =
    ap (λ d. in_text d p machine made front byte) (lt-ltb made 1048576 room)
    ∙ ap (λ d. in_line d p machine made front byte) other
    ∙ ap (λ d. longer_line d machine made front byte) (lt-ltb (length front) 160 short)

line_end_step : (p : Program) (machine : FlatMachine) (made : ℕ) (line : List ℕ) → made < 1048576 → with_byte p (going machine made line) 10 ≡ after_line p machine made (op_in line)
unfolding with_byte
line_end_step p machine made line room = ap (λ d. in_text d p machine made line 10) (lt-ltb made 1048576 room)

pub is_other : (d : Bool) → not d ≡ true → d ≡ false
is_other true e = absurd (cc e)
is_other false e = refl

pub going_on : (p : Program) (machine : FlatMachine) (made : ℕ) (front line rest : List ℕ) → made < 1048576 → Lacks 10 line → length front + length line ≤ 160
    → lines_of p (going machine made front) (line ++ rest) ≡ lines_of p (going machine made (front ++ line)) rest
going_on p machine made front [] rest room lacks short = ap (λ (f : List ℕ). lines_of p (going machine made f) rest) (sym (append-nil front))
going_on p machine made front (byte ∷ line) rest room lacks short =
    let parts = both (not (nat_eq byte 10)) (list_all (λ b. not (nat_eq b 10)) line) lacks in
    let short' : length (front ++ byte ∷ []) + length line ≤ 160 = omega (arith, length-append front (byte ∷ []), short) in
    ap (λ s. lines_of p s (line ++ rest)) (other_byte_step p machine made front byte room (is_other (nat_eq byte 10) parts.0) (omega arith))
    ∙ going_on p machine made (front ++ byte ∷ []) line rest room parts.1 short'
    ∙ ap (λ (f : List ℕ). lines_of p (going machine made f) rest) (append_assoc front (byte ∷ []) line)

-- a step doesn't look at the key
step_of_key : (p : Program) (machine : FlatMachine) (a b : Op) → without_key a ≡ without_key b → legal_step p.code p.items machine a ≡ legal_step p.code p.items machine b
unfolding legal_step
step_of_key p machine a b same = ap (λ (o : Op). legal_step p.code p.items machine o) same

complete : (p : Program) (machine : FlatMachine) (made : ℕ) (text : List ℕ) (ops : List Op) → BeginsWith text ops [] → made + length ops ≤ 1048576 → Legal p.code p.items machine ops
    → answer_of (lines_of p (going machine made []) text) ≡ Ok (made + length ops)
unfolding legal_run
complete p machine made text [] is few legal =
    let same : made ≡ made + 0 = omega arith in
    ap (λ (t : List ℕ). answer_of (lines_of p (going machine made []) t)) is ∙ ap (λ (n : ℕ). Ok n) same
complete p machine made text (op ∷ ops) is few legal =
    by (λ next legal'. complete p next (made + 1) is.1 ops is.4 (omega (arith, few)) legal') (legal_step p.code p.items machine op) refl legal
  where
    by : ((next : FlatMachine) → Legal p.code p.items next ops → answer_of (lines_of p (going next (made + 1) []) is.1) ≡ Ok (made + 1 + length ops))
        → (o : Option FlatMachine) → legal_step p.code p.items machine op ≡ o → IsSome (option_and_then (λ m. legal_run p.code p.items m ops) o)
        → answer_of (lines_of p (going machine made []) text) ≡ Ok (made + length (op ∷ ops))
    by more None step legal = absurd (cc legal)
    by more (Some next) step legal =
        let line = is.0 in
        let rest = is.1 in
        let read = read_line line op is.3 in
        let room : made < 1048576 = omega (arith, few) in
        let same : made + 1 + length ops ≡ made + length (op ∷ ops) = omega arith in
        ap (λ (t : List ℕ). answer_of (lines_of p (going machine made []) t)) is.2
        ∙ ap answer_of (going_on p machine made [] line (10 ∷ rest) room read.lacks (omega (arith, read.short)))
        ∙ ap (λ s. answer_of (lines_of p s rest)) (line_end_step p machine made line room ∙ ap (λ o. after_line p machine made o) read.is ∙ ap (λ o. after_step made o) (step_of_key p machine read.read op read.same ∙ step))
        ∙ more next legal
        ∙ ap (λ (n : ℕ). Ok n) same

length-text : (text : List ℕ) (ops : List Op) → BeginsWith text ops [] → length text ≤ 161 * length ops
length-text text [] is = omega (arith, ap length is)
length-text text (op ∷ ops) is =
    omega (arith, ap length is.2, length-append is.0 (10 ∷ is.1), (read_line is.0 op is.3).short, length-text is.1 ops is.4)

-- ---- the whole

pub accepted_is : (s : Setting) (text : List ℕ) (n : ℕ) → check_of s text ≡ Ok n → IsAccepted s text n
unfolding check_of standing_of
accepted_is s text n e = by_start (start_refusal s) refl e where
  by_length : (d : Bool) → start_refusal s ≡ None → answer_of (cond d (refused TooLong) (lines_of (program_of s) (going (machine_of s) 0 []) text)) ≡ Ok n → IsAccepted s text n
  by_length true start e = absurd (cc e)
  by_length false start e =
      let are = accepted (program_of s) (machine_of s) 0 [] text n (omega arith) e in
      record { start = start; ops = are.ops; text_is = are.text_is; count = omega (arith, are.count); few = are.few; legal = are.legal }

  by_start : (o : Option CheckRefusal) → start_refusal s ≡ o → answer_unless o (answer_of (standing_of (program_of s) (machine_of s) text)) ≡ Ok n → IsAccepted s text n
  by_start (Some refusal) start e = absurd (cc e)
  by_start None start e = by_length (nat_lt 168820736 (length text)) start e

pub is_accepted : (s : Setting) (text : List ℕ) (n : ℕ) → IsAccepted s text n → check_of s text ≡ Ok n
unfolding check_of standing_of
is_accepted s text n are =
    let p = program_of s in
    let first = going (machine_of s) 0 [] in
    let short : length text ≤ 168820736 = omega (arith, length-text text are.ops are.text_is, are.count, are.few) in
    let same : 0 + length are.ops ≡ n = omega (arith, are.count) in
    ap (λ o. answer_unless o (answer_of (standing_of p (machine_of s) text))) are.start
    ∙ ap (λ d. answer_of (cond d (refused TooLong) (lines_of p first text))) (le-ltb 168820736 (length text) short)
    ∙ complete p (machine_of s) 0 text are.ops are.text_is (omega (arith, are.count, are.few)) are.legal
    ∙ ap (λ (k : ℕ). Ok k) same
