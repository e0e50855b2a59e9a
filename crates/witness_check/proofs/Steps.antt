-- The step that an operation names, by what the machine's step answers.
use Rattle.std.proofs.Common.{◌≡◌, ℕ, ◌≤◌, Bool, true, false, cond, nat_eq, List, length, Option, Some, None, Result, Ok, Err, refl, sym, ap, ◌∙◌, subst, arith}
use Rattle.std.specs.Prelude.{slice_index_or}
use Rattle.std.proofs.lemmas.List.{get_or_past}
use Rattle.witness_check.specs.DdmTypes.declared.operations.Effect.{Effect}
use Rattle.witness_check.specs.DdmTypes.declared.operations.HaltCause.{HaltCause}
use Rattle.witness_check.specs.DdmTypes.declared.operations.Op.{Op}
use Rattle.witness_check.specs.DdmTypes.CodeMap.{CodeWord}
use Rattle.witness_check.specs.DdmTypes.ItemTable.{ItemTable}
use Rattle.witness_check.specs.FlatModel.Flat.{FlatHart, FlatMachine, FlatStepped, flat_hart, flat_step, hart_step, item_words, machine_after, no_flat_hart, stepped}
use Rattle.witness_check.specs.FlatModel.Legal.{if_effect, is_sc_ok, legal_step, same_effect}
use Rattle.rv_flat.specs.FlatState.{outcome_of}
use Rattle.witness_check.specs.Reader.{JudgeView, StepGives}

-- whether an outcome is the effect that was said
abbrev pub is_said : Result Effect HaltCause → Effect → Bool → Type 0
is_said (Ok effect) said same = same ≡ same_effect effect said
is_said (Err cause) said same = same ≡ false

none_by : (d : Bool) (o : Option FlatMachine) → cond d o o ≡ o
none_by true o = refl
none_by false o = refl

-- a hart that isn't there has no step
pub no_hart : (code : List CodeWord) (items : ItemTable) (m : FlatMachine) (op : Op) → length m.harts ≤ op.hart → legal_step code items m op ≡ None
unfolding legal_step flat_step hart_step
no_hart code items m op past =
    ap (λ (g : FlatHart). cond (nat_eq g.hart.pc op.pc) (if_effect op.effect (stepped m op.hart (hart_step code items g (item_words m) (is_sc_ok op.effect)))) None) (past_end m.harts op.hart past)
    ∙ none_by (nat_eq no_flat_hart.hart.pc op.pc) None
  where
    past_end : (harts : List FlatHart) (h : ℕ) → length harts ≤ h → slice_index_or harts h no_flat_hart ≡ no_flat_hart
    past_end harts h past = get_or_past harts h no_flat_hart past

-- a hart that is at another place has no such step
pub other_pc : (code : List CodeWord) (items : ItemTable) (m : FlatMachine) (op : Op) → ((flat_hart m op.hart).hart.pc ≡ op.pc → ⊥) → legal_step code items m op ≡ None
unfolding legal_step
other_pc code items m op other = by (nat_eq (flat_hart m op.hart).hart.pc op.pc) refl where
  by : (d : Bool) → nat_eq (flat_hart m op.hart).hart.pc op.pc ≡ d → cond d (if_effect op.effect (flat_step code items m op.hart (is_sc_ok op.effect))) None ≡ None
  by true same = absurd (other (grind arith))
  by false _ = refl

pub this_pc : (code : List CodeWord) (items : ItemTable) (m : FlatMachine) (op : Op) → (flat_hart m op.hart).hart.pc ≡ op.pc
    → legal_step code items m op ≡ if_effect op.effect (flat_step code items m op.hart (is_sc_ok op.effect))
unfolding legal_step
this_pc code items m op same = by (nat_eq (flat_hart m op.hart).hart.pc op.pc) refl where
  by : (d : Bool) → nat_eq (flat_hart m op.hart).hart.pc op.pc ≡ d
      → cond d (if_effect op.effect (flat_step code items m op.hart (is_sc_ok op.effect))) None ≡ if_effect op.effect (flat_step code items m op.hart (is_sc_ok op.effect))
  by true _ = refl
  by false other = absurd (grind arith)

-- ---- what the machine's step answers

-- a judge's program and machine, as a contract sees them
abbrev pub view_of : List CodeWord → ItemTable → FlatMachine → JudgeView
view_of code items m = record { program = record { code = code; items = items }; machine = m }

pub view_is : (code code' : List CodeWord) (items items' : ItemTable) (m m' : FlatMachine) → code ≡ code' → items ≡ items' → m ≡ m' → view_of code items m ≡ view_of code' items' m'
view_is code code' items items' m m' one two three = ap (λ c. view_of c items m) one ∙ ap (λ i. view_of code' i m) two ∙ ap (λ x. view_of code' items' x) three

abbrev step_in : JudgeView → Op → Option FlatMachine
step_in view op = legal_step view.program.code view.program.items view.machine op

none_gives : (o : Option FlatMachine) (after : FlatMachine) → o ≡ None → StepGives o false after
none_gives o after none = let P : Option FlatMachine → Type 0 = λ o. StepGives o false after in subst P (sym none) tt

pub gives_no_hart : (code : List CodeWord) (items : ItemTable) (m : FlatMachine) (view : JudgeView) (op : Op) (after : FlatMachine) → view_of code items m ≡ view → length m.harts ≤ op.hart
    → StepGives (step_in view op) false after
gives_no_hart code items m view op after is past =
    let P : JudgeView → Type 0 = λ v. StepGives (step_in v op) false after in
    subst P is (none_gives (legal_step code items m op) after (no_hart code items m op past))

pub gives_other_pc : (code : List CodeWord) (items : ItemTable) (m : FlatMachine) (view : JudgeView) (op : Op) (after : FlatMachine) → view_of code items m ≡ view → ((flat_hart m op.hart).hart.pc ≡ op.pc → ⊥)
    → StepGives (step_in view op) false after
gives_other_pc code items m view op after is other =
    let P : JudgeView → Type 0 = λ v. StepGives (step_in v op) false after in
    subst P is (none_gives (legal_step code items m op) after (other_pc code items m op other))

outcome_gives : (o : FlatStepped) (m after : FlatMachine) (hart : ℕ) (said : Effect) (outcome : Result Effect HaltCause) (same : Bool) → outcome ≡ outcome_of o → after ≡ machine_after m hart o
    → is_said outcome said same → StepGives (if_effect said o) same after
outcome_gives (Ok x) m after hart said (Ok effect) same is are e =
    let made : effect ≡ x.0 = cc is in
    by (same_effect x.0 said) same (e ∙ ap (λ a. same_effect a said) made) are where
      by : (d same : Bool) → same ≡ d → after ≡ x.1 → StepGives (cond d (Some x.1) None) same after
      by true true e are = are
      by true false e are = absurd (cc e)
      by false true e are = absurd (cc e)
      by false false e are = tt
outcome_gives (Ok x) m after hart said (Err cause) same is are e = absurd (cc is)
outcome_gives (Err halt) m after hart said (Ok effect) same is are e = absurd (cc is)
outcome_gives (Err halt) m after hart said (Err cause) same is are e = let P : Bool → Type 0 = λ b. StepGives None b after in subst P (sym e) tt

pub gives_step : (code : List CodeWord) (items : ItemTable) (m : FlatMachine) (view : JudgeView) (op : Op) (sc_ok : Bool) (outcome : Result Effect HaltCause) (same : Bool) (after : FlatMachine)
    → view_of code items m ≡ view → (flat_hart m op.hart).hart.pc ≡ op.pc → sc_ok ≡ is_sc_ok op.effect → outcome ≡ outcome_of (flat_step code items m op.hart sc_ok)
    → after ≡ machine_after m op.hart (flat_step code items m op.hart sc_ok) → is_said outcome op.effect same → StepGives (step_in view op) same after
gives_step code items m view op sc_ok outcome same after is pc stores answers becomes said =
    let P : JudgeView → Type 0 = λ v. StepGives (step_in v op) same after in
    let Q : Option FlatMachine → Type 0 = λ o. StepGives o same after in
    let R : Bool → Type 0 = λ b. StepGives (if_effect op.effect (flat_step code items m op.hart b)) same after in
    subst P is (subst Q (sym (this_pc code items m op pc)) (subst R stores (outcome_gives (flat_step code items m op.hart sc_ok) m after op.hart op.effect outcome same answers becomes said)))

-- ---- what a step that was taken says

pub step_taken : (o : Option FlatMachine) (after : FlatMachine) → StepGives o true after → o ≡ Some after
step_taken (Some next) after gives = ap (λ m. Some m) (sym gives)
step_taken None after gives = absurd gives

pub step_not_taken : (o : Option FlatMachine) (after : FlatMachine) → StepGives o false after → o ≡ None
step_not_taken (Some next) after gives = absurd gives
step_not_taken None after gives = refl
