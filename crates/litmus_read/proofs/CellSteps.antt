-- The cells of a program, one operand or label more at a time.
use Rattle.std.proofs.Common.{◌≡◌, ℕ, ◌+◌, ◌<◌, ◌≤◌, List, [], ◌∷◌, ◌++◌, length, map, drop, get_or, refl, sym, ap, ◌∙◌, append_assoc, arith}
use Rattle.std.specs.Prelude.{Some, None, Result, Ok, Err}
use Rattle.std.proofs.lemmas.List.{append-nil, drop_all, drop_more}
use Rattle.litmus_model.specs.declared.parts.Part.{Part}
use Rattle.litmus_model.specs.declared.parts.Part.TheVariants.{Word, Mark}
use Rattle.litmus_model.specs.declared.parts.Token.{Token}
use Rattle.litmus_model.specs.declared.parts.Step.{Step}
use Rattle.litmus_model.specs.declared.parts.Step.TheVariants.{Label}
use Rattle.litmus_model.specs.declared.refusal.Fault.TheVariants.{BadOperands}
use Rattle.litmus_model.specs.declared.refusal.TestRefusal.{TestRefusal}
use Rattle.litmus_model.specs.declared.refusal.TestRefusal.TheVariants.{InLine}
use Rattle.litmus_model.specs.Refusing.{Judged, ◌>>=◌, and_then}
use Rattle.litmus_model.specs.declared.parts.PlacedStep.{PlacedStep}
use Rattle.litmus_model.specs.Tokens.{Piece, parts_of, pieces_at}
use Rattle.litmus_model.specs.Program.{cell_steps, instruction_steps, label_name, operands_of, placed, steps_behind_labels}
use Rattle.litmus_text.specs.declared.judged.Unread.{Unread}
use Rattle.litmus_text.specs.declared.judged.Unread.TheVariants.{Refused, NoMemory}
use Rattle.litmus_text.specs.Reads.{Adds, Reads, behind}
use Rattle.litmus_text.proofs.Judging.{refused_behind}
use Rattle.litmus_read.specs.Cells.{cell_placed, first_label, placed_steps}

pub operands_next : (old : List (List Part)) (ps : List Piece) (k : ℕ) (d : Piece) → k < length ps
    → old ++ map (λ (p : Piece). parts_of p.tokens) (drop k ps) ≡ (old ++ parts_of (get_or ps k d).tokens ∷ []) ++ map (λ (p : Piece). parts_of p.tokens) (drop (k + 1) ps)
operands_next old ps k d inside =
    rw (drop_more ps k d inside) (sym (append_assoc old (parts_of (get_or ps k d).tokens ∷ []) (map (λ (p : Piece). parts_of p.tokens) (drop (k + 1) ps))))

pub operands_done : (old : List (List Part)) (ps : List Piece) (k : ℕ) → length ps ≤ k → old ++ map (λ (p : Piece). parts_of p.tokens) (drop k ps) ≡ old
operands_done old ps k past = rw (drop_all k ps past) (append-nil old)

pub no_operands : (line : ℕ) (tokens : List Token) → length tokens ≡ 0 → operands_of line tokens ≡ []
unfolding operands_of
no_operands line [] none = refl
no_operands line (t ∷ ts) none = absurd (omega (arith, none))

pub some_operands : (line : ℕ) (tokens : List Token) → 0 < length tokens → operands_of line tokens ≡ map (λ (p : Piece). parts_of p.tokens) (pieces_at 44 line tokens)
unfolding operands_of
some_operands line [] some = absurd (omega (arith, some))
some_operands line (t ∷ ts) some = refl

pub two_placed : (old : List PlacedStep) (thread line : ℕ) (s t : Step) → (old ++ placed thread line (s ∷ [])) ++ placed thread line (t ∷ []) ≡ old ++ placed thread line (s ∷ t ∷ [])
two_placed old thread line s t = append_assoc old (placed thread line (s ∷ [])) (placed thread line (t ∷ []))

pub short_labelled : (tokens : List Token) → length tokens < 2 → first_label tokens ≡ None
unfolding first_label
short_labelled [] few = refl
short_labelled (t ∷ []) few = refl
short_labelled (t ∷ u ∷ ts) few = absurd (omega (arith, few))

pub long_labelled : (tokens : List Token) (d e : Token) → 2 ≤ length tokens → first_label tokens ≡ label_name (get_or tokens 0 d).part (get_or tokens 1 e).part
unfolding first_label
long_labelled [] d e many = absurd (omega (arith, many))
long_labelled (t ∷ []) d e many = absurd (omega (arith, many))
long_labelled (t ∷ u ∷ ts) d e many = refl

with_label : (old : List PlacedStep) (thread line : ℕ) (name : List ℕ) (j : Judged (List Step))
    → behind old (placed_steps thread line (j >>= (λ steps. Ok (Label name ∷ steps)))) ≡ behind (old ++ placed thread line (Label name ∷ [])) (placed_steps thread line j)
unfolding behind placed_steps and_then
with_label old thread line name (Ok steps) =
    ap (λ (ss : List PlacedStep). Ok ss) (sym (append_assoc old (placed thread line (Label name ∷ [])) (placed thread line steps)))
with_label old thread line name (Err r) = refl

pub label_next : (old : List PlacedStep) (thread line : ℕ) (tokens : List Token) (name : List ℕ) → first_label tokens ≡ Some name
    → behind old (cell_placed thread line tokens) ≡ behind (old ++ placed thread line (Label name ∷ [])) (cell_placed thread line (drop 2 tokens))
unfolding first_label cell_steps
label_next old thread line [] name is = absurd (cc)
label_next old thread line (t ∷ []) name is = absurd (cc)
label_next old thread line (t ∷ u ∷ ts) name is = rw is (with_label old thread line name (cell_steps line ts))

pub made_added : (old : List PlacedStep) (thread line : ℕ) (w : List ℕ) (operands : List Token) (made : List Step) → instruction_steps line w operands ≡ Ok made
    → behind old (placed_steps thread line (steps_behind_labels line (Word w) operands)) ≡ Ok (old ++ placed thread line made)
unfolding behind placed_steps steps_behind_labels and_then
made_added old thread line w operands made is = rw is refl

pub made_fails : (old new : List PlacedStep) (thread line : ℕ) (w : List ℕ) (operands : List Token) (e : Unread)
    → Reads (λ (steps : List Step). steps) (instruction_steps line w operands) (Err e) → Adds (placed_steps thread line (steps_behind_labels line (Word w) operands)) old new (Err e)
unfolding placed_steps steps_behind_labels and_then
made_fails old new thread line w operands (Refused r) is = rw is refl
made_fails old new thread line w operands NoMemory is = tt

pub mark_refused : (thread line b : ℕ) (operands : List Token) → placed_steps thread line (steps_behind_labels line (Mark b) operands) ≡ Err (InLine line BadOperands)
unfolding placed_steps steps_behind_labels and_then
mark_refused thread line b operands = refl

pub behind_err : {A : Type 0} (old : List A) (r : TestRefusal) (j : Judged (List A)) → behind old j ≡ Err r → j ≡ Err r
unfolding behind and_then
behind_err old r (Ok xs) is = absurd (cc)
behind_err old r (Err s) is = is

-- what is added behind a beginning is added to the whole
pub adds_behind : {A : Type 0} (old mid new : List A) (j m : Judged (List A)) (result : Result (Unit {0}) Unread) → behind old j ≡ behind mid m → Adds m mid new result → Adds j old new result
adds_behind old mid new j m (Ok done) same adds = same ∙ adds
adds_behind old mid new j m (Err (Refused r)) same adds = behind_err old r j (same ∙ refused_behind mid r m adds)
adds_behind old mid new j m (Err NoMemory) same adds = tt

cell_nothing : (line : ℕ) (tokens : List Token) → length tokens ≡ 0 → cell_steps line tokens ≡ Ok []
unfolding cell_steps
cell_nothing line [] none = refl
cell_nothing line (t ∷ ts) none = absurd (omega (arith, none))

cell_behind : (line : ℕ) (tokens : List Token) (d : Token) → 0 < length tokens → first_label tokens ≡ None
    → cell_steps line tokens ≡ steps_behind_labels line (get_or tokens 0 d).part (drop 1 tokens)
unfolding cell_steps first_label
cell_behind line [] d some none = absurd (omega (arith, some))
cell_behind line (t ∷ []) d some none = refl
cell_behind line (t ∷ u ∷ ts) d some none = rw none refl

pub cell_left : (line : ℕ) (tokens : List Token) (d : Token) (rest : List Token) → 0 < length tokens → rest ≡ drop 1 tokens → first_label tokens ≡ None
    → cell_steps line tokens ≡ steps_behind_labels line (get_or tokens 0 d).part rest
cell_left line tokens d rest some are none = cell_behind line tokens d some none ∙ ap (steps_behind_labels line (get_or tokens 0 d).part) (sym are)

pub nothing_left : (old : List PlacedStep) (thread line : ℕ) (tokens : List Token) → length tokens ≡ 0 → behind old (cell_placed thread line tokens) ≡ Ok old
unfolding behind placed_steps and_then
nothing_left old thread line tokens none = rw (cell_nothing line tokens none) (ap (λ (ss : List PlacedStep). Ok ss) (append-nil old))
