-- What a reader does with a byte.
use Rattle.std.proofs.Common.{◌≡◌, ℕ, ◌+◌, ◌<◌, Bool, true, false, not, List, [], Option, Some, None, take, refl, sym, ap, ◌∙◌, subst}
use Rattle.std.specs.Prelude.{is_some, option_map}
use Rattle.std.proofs.lemmas.Bool.{lt-ltb}
use Rattle.witness_check.specs.DdmTypes.declared.operations.Op.{Op}
use Rattle.witness_check.specs.FlatModel.Flat.{FlatMachine}
use Rattle.witness_check.specs.FlatModel.Legal.{legal_step}
use Rattle.witness_check.specs.declared.refusal.CheckRefusal.{CheckRefusal}
use Rattle.witness_check.specs.declared.refusal.CheckRefusal.TheVariants.{NotLegal}
use Rattle.witness_check.specs.Lines.{op_in, without_key}
use Rattle.witness_check.specs.Judging.{Program, Standing, going, refused, after_line, after_step, in_text, with_byte}
use Rattle.witness_check.specs.Reader.{ReaderView, IsAtLineEnd, StepGives, standing_by, with_standing}
use Rattle.witness_check.proofs.Steps.{step_taken, step_not_taken}

-- a reader as a contract sees it
abbrev pub view_of : Program → ℕ → Standing → ReaderView
view_of p size standing = record { program = p; size = size; standing = standing }

without_key_step : (p : Program) (machine : FlatMachine) (op : Op) → legal_step p.code p.items machine op ≡ legal_step p.code p.items machine (without_key op)
unfolding legal_step
without_key_step p machine op = refl

read_by : (p : Program) (machine : FlatMachine) (made : ℕ) (o : Option Op) (op : Op) → Some op ≡ option_map without_key o → after_line p machine made o ≡ after_step made (legal_step p.code p.items machine op)
read_by p machine made (Some read) op e =
    let same : without_key read ≡ op = cc e in
    ap (λ s. after_step made s) (without_key_step p machine read ∙ ap (λ (o : Op). legal_step p.code p.items machine o) same)
read_by p machine made None op e = absurd (cc e)

-- the line feed of a line that is an operation's
line_feed : (p : Program) (machine : FlatMachine) (made : ℕ) (line : List ℕ) (op : Op) → made < 1048576 → Some op ≡ option_map without_key (op_in line)
    → with_byte p (going machine made line) 10 ≡ after_step made (legal_step p.code p.items machine op)
unfolding with_byte
line_feed p machine made line op room read =
    ap (λ d. in_text d p machine made line 10) (lt-ltb made 1048576 room) ∙ read_by p machine made (op_in line) op read

-- after a step
pub line_legal : (refusal : Option CheckRefusal) (p p' : Program) (size made : ℕ) (machine after : FlatMachine) (line none : List ℕ) (op : Op) (view : ReaderView)
    → view_of p size (standing_by refusal machine made line) ≡ view → IsAtLineEnd view.standing → Some op ≡ option_map without_key (op_in line)
    → StepGives (legal_step p.code p.items machine op) true after → p' ≡ p → none ≡ []
    → view_of p' size (standing_by refusal after (made + 1) none) ≡ with_standing (with_byte view.program view.standing 10) view
line_legal refusal p p' size made machine after line none op view is end read gives kept empty =
    let P : ReaderView → Type 0 = λ v. IsAtLineEnd v.standing → view_of p' size (standing_by refusal after (made + 1) none) ≡ with_standing (with_byte v.program v.standing 10) v in
    subst P is (by refusal) end
  where
    by : (refusal : Option CheckRefusal) → IsAtLineEnd (standing_by refusal machine made line)
        → view_of p' size (standing_by refusal after (made + 1) none) ≡ with_standing (with_byte p (standing_by refusal machine made line) 10) (view_of p size (standing_by refusal machine made line))
    by (Some refusal) end = absurd end
    by None end =
        ap (λ q. view_of q size (going after (made + 1) none)) kept
        ∙ ap (λ (l : List ℕ). view_of p size (going after (made + 1) l)) empty
        ∙ ap (λ s. view_of p size s) (sym (line_feed p machine made line op end read ∙ ap (λ o. after_step made o) (step_taken (legal_step p.code p.items machine op) after gives)))

-- after no step
pub line_not_legal : (refusal : Option CheckRefusal) (p p' : Program) (size made : ℕ) (machine after : FlatMachine) (line : List ℕ) (op : Op) (view : ReaderView)
    → view_of p size (standing_by refusal machine made line) ≡ view → IsAtLineEnd view.standing → Some op ≡ option_map without_key (op_in line)
    → StepGives (legal_step p.code p.items machine op) false after → p' ≡ p
    → view_of p' size (refused (NotLegal (made + 1))) ≡ with_standing (with_byte view.program view.standing 10) view
line_not_legal refusal p p' size made machine after line op view is end read gives kept =
    let P : ReaderView → Type 0 = λ v. IsAtLineEnd v.standing → view_of p' size (refused (NotLegal (made + 1))) ≡ with_standing (with_byte v.program v.standing 10) v in
    subst P is (by refusal) end
  where
    by : (refusal : Option CheckRefusal) → IsAtLineEnd (standing_by refusal machine made line)
        → view_of p' size (refused (NotLegal (made + 1))) ≡ with_standing (with_byte p (standing_by refusal machine made line) 10) (view_of p size (standing_by refusal machine made line))
    by (Some refusal) end = absurd end
    by None end =
        ap (λ q. view_of q size (refused (NotLegal (made + 1)))) kept
        ∙ ap (λ s. view_of p size s) (sym (line_feed p machine made line op end read ∙ ap (λ o. after_step made o) (step_not_taken (legal_step p.code p.items machine op) after gives)))

-- ---- the line feed of a line that isn't kept

pub line_legal_at : (refusal : Option CheckRefusal) (p p' : Program) (size made : ℕ) (machine after : FlatMachine) (line front none : List ℕ) (op : Op) (view : ReaderView)
    → view_of p size (standing_by refusal machine made front) ≡ view → IsAtLineEnd view.standing → Some op ≡ option_map without_key (op_in line)
    → StepGives (legal_step p.code p.items machine op) true after → p' ≡ p → none ≡ []
    → (m : FlatMachine) (k : ℕ) (kept : List ℕ) → view.standing ≡ going m k kept
    → view_of p' size (standing_by refusal after (made + 1) none) ≡ with_standing (with_byte view.program (going m k line) 10) view
line_legal_at refusal p p' size made machine after line front none op view is end read gives same empty m k kept at =
    let P : ReaderView → Type 0 = λ v. IsAtLineEnd v.standing → v.standing ≡ going m k kept → view_of p' size (standing_by refusal after (made + 1) none) ≡ with_standing (with_byte v.program (going m k line) 10) v in
    subst P is (by refusal) end at
  where
    by : (refusal : Option CheckRefusal) → IsAtLineEnd (standing_by refusal machine made front) → standing_by refusal machine made front ≡ going m k kept
        → view_of p' size (standing_by refusal after (made + 1) none) ≡ view_of p size (with_byte p (going m k line) 10)
    by (Some refusal) end at = absurd end
    by None end at =
        let moved : going machine made line ≡ going m k line = cc at in
        line_legal None p p' size made machine after line none op (view_of p size (going machine made line)) refl end read gives same empty ∙ ap (λ s. view_of p size (with_byte p s 10)) moved

pub line_not_legal_at : (refusal : Option CheckRefusal) (p p' : Program) (size made : ℕ) (machine after : FlatMachine) (line front : List ℕ) (op : Op) (view : ReaderView)
    → view_of p size (standing_by refusal machine made front) ≡ view → IsAtLineEnd view.standing → Some op ≡ option_map without_key (op_in line)
    → StepGives (legal_step p.code p.items machine op) false after → p' ≡ p
    → (m : FlatMachine) (k : ℕ) (kept : List ℕ) → view.standing ≡ going m k kept
    → view_of p' size (refused (NotLegal (made + 1))) ≡ with_standing (with_byte view.program (going m k line) 10) view
line_not_legal_at refusal p p' size made machine after line front op view is end read gives same m k kept at =
    let P : ReaderView → Type 0 = λ v. IsAtLineEnd v.standing → v.standing ≡ going m k kept → view_of p' size (refused (NotLegal (made + 1))) ≡ with_standing (with_byte v.program (going m k line) 10) v in
    subst P is (by refusal) end at
  where
    by : (refusal : Option CheckRefusal) → IsAtLineEnd (standing_by refusal machine made front) → standing_by refusal machine made front ≡ going m k kept
        → view_of p' size (refused (NotLegal (made + 1))) ≡ view_of p size (with_byte p (going m k line) 10)
    by (Some refusal) end at = absurd end
    by None end at =
        let moved : going machine made line ≡ going m k line = cc at in
        line_not_legal None p p' size made machine after line op (view_of p size (going machine made line)) refl end read gives same ∙ ap (λ s. view_of p size (with_byte p s 10)) moved

-- ---- where a line begins

pub at_start : (refusal : Option CheckRefusal) (p : Program) (size made len : ℕ) (machine : FlatMachine) (line : List ℕ) (view : ReaderView) (good : Bool) → view_of p size (standing_by refusal machine made (take len line)) ≡ view
    → len ≡ 0 → made < 1048576 → is_some refusal ≡ not good → good ≡ true → (m : FlatMachine) × (k : ℕ) × (view.standing ≡ going m k []) × (k < 1048576)
at_start None p size made len machine line view good is none room tells is_good =
    (machine, made, ap (λ (v : ReaderView). v.standing) (sym is) ∙ ap (λ (n : ℕ). going machine made (take n line)) none, room)
at_start (Some refusal) p size made len machine line view good is none room tells is_good = absurd (cc (tells ∙ ap not is_good))
