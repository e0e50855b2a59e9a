-- The lists in which each SC that has its reservation stores are the legal ones in which none fails whose hart has its
-- item reserved.
-- Letters: f is the flat machine before, g its hart, c the change of a step.
use Rattle.std.proofs.Common.{◌≡◌, ℕ, Bool, true, false, ◌&&◌, List, [], ◌∷◌, Option, Some, None, Ok, Err, refl, sym, ap, subst, ◌∙◌}
use Rattle.std.specs.Prelude.{Result, not, is_some, nat_eq, option_and_then}
use Rattle.std.specs.Cmp.Derive.{both_true}
use Rattle.std.proofs.lemmas.Bool.{true≢false, eq-eqb}
use Rattle.serving_model.specs.DdmTypes.CodeMap.{CodeWord}
use Rattle.serving_model.specs.DdmTypes.ItemTable.{ItemTable}
use Rattle.serving_model.specs.DdmTypes.declared.operations.Effect.{Effect}
use Rattle.serving_model.specs.DdmTypes.declared.operations.HaltCause.{HaltCause}
use Rattle.serving_model.specs.DdmTypes.declared.operations.Op.{Op}
use Rattle.bus_laws.specs.FlatModel.declared.Ask.{Ask}
use Rattle.bus_laws.specs.FlatModel.Hart.{Finished, ask_of, finish_of}
use Rattle.bus_laws.specs.FlatModel.Flat.{Change, Stored, conditional, change_by, unless_halted, FlatHart, FlatMachine, flat_hart, item_words, with_change, has_reserved, hart_step, flat_step}
use Rattle.serving_model.specs.FlatModel.Legal.{is_sc_ok, legal_step, legal_run, if_effect}
use Rattle.bus_laws.proofs.FlatModel.Completing.{change_completes}
use Rattle.bus_laws.proofs.FlatModel.Insert.{change_of, record_change, flat_step_is, LegalFirst, legal_more, legal_first}
use Rattle.bus_laws.proofs.FlatModel.Steps.{same_change}
use Rattle.bus_laws.proofs.FlatModel.Runs.{same_effect_refl, legal_step_is, legal_step_of}
use Rattle.serving_model.specs.ServedLists.{storing_step, storing_run, fails_by, fails_reserved, where_next, reserved_ones_store, IsStoring}
use Rattle.serving_model.proofs.Listed.{Stepped, stepped}

-- ---- a change

same-test : (b s : Bool) → (s && not b) ≡ false → (b && s) ≡ (true && s)
same-test true s none = refl
same-test false true none = absurd (true≢false none)
same-test false false none = refl

-- an SC stores as its effect says, where it doesn't fail with its reservation
as-told : (ask : Ask) (r : Option ℕ) (finish : List ℕ → Bool → Finished) (words : ℕ → List ℕ) (e : Effect) → fails_by ask r e ≡ false → change_by ask r finish words (is_sc_ok e) ≡ change_by ask r finish words true
as-told Ask.Plain r finish words e none = refl
as-told (Ask.Put byte) r finish words e none = refl
as-told (Ask.NeedsShared x lr) r finish words e none = refl
as-told (Ask.NeedsExclusive x) r finish words e none = refl
as-told (Ask.Conditional x) r finish words e none = ap (λ b. Ok (conditional b x (finish (words x)))) (same-test (is_sc_ok e) (has_reserved r x) none)
as-told (Ask.Halt cause) r finish words e none = refl

-- one that has its reservation doesn't do both
one-of : (x : ℕ) (finish : Bool → Finished) (c : Change) (b s : Bool) → (let r : Result Change HaltCause = Ok (conditional (true && s) x finish) in r ≡ Ok c) → (let r : Result Change HaltCause = Ok (conditional (b && s) x finish) in r ≡ Ok c) → (s && not b) ≡ false
one-of x finish c true true stores other = refl
one-of x finish c true false stores other = refl
one-of x finish c false true stores other = absurd (true≢false (ap (λ (k : Change). is_some k.stored) (same_change (conditional true x finish) c stores) ∙ sym (ap (λ (k : Change). is_some k.stored) (same_change (conditional false x finish) c other))))
one-of x finish c false false stores other = refl

never-fails : (ask : Ask) (r : Option ℕ) (finish : List ℕ → Bool → Finished) (words : ℕ → List ℕ) (c : Change) → change_by ask r finish words true ≡ Ok c → change_by ask r finish words (is_sc_ok c.effect) ≡ Ok c → fails_by ask r c.effect ≡ false
never-fails Ask.Plain r finish words c stores other = refl
never-fails (Ask.Put byte) r finish words c stores other = refl
never-fails (Ask.NeedsShared x lr) r finish words c stores other = refl
never-fails (Ask.NeedsExclusive x) r finish words c stores other = refl
never-fails (Ask.Conditional x) r finish words c stores other = one-of x (finish (words x)) c (is_sc_ok c.effect) (has_reserved r x) stores other
never-fails (Ask.Halt cause) r finish words c stores other = refl

-- ---- a step

module _ (code : List CodeWord) (items : ItemTable) (words : ℕ → List ℕ) (g : FlatHart) (c : Change) where
  abbrev by : Bool → Result Change HaltCause
  by sc_ok = change_by (ask_of code items g.hart) g.reserved (finish_of code items g.hart) words sc_ok

  running : (sc_ok : Bool) → hart_step code items g words sc_ok ≡ Ok c → g.hart.halt ≡ None
  unfolding hart_step
  running sc_ok step = at g.hart.halt refl step where
    at : (o : Option HaltCause) → g.hart.halt ≡ o → unless_halted o (by sc_ok) ≡ Ok c → g.hart.halt ≡ None
    at None is e = is
    at (Some cause) is e = cc

  changes : (sc_ok : Bool) → hart_step code items g words sc_ok ≡ Ok c → by sc_ok ≡ Ok c
  unfolding hart_step
  changes sc_ok step = ap (λ o. unless_halted o (by sc_ok)) (sym (running sc_ok step)) ∙ step

  steps : (sc_ok other : Bool) → hart_step code items g words other ≡ Ok c → by sc_ok ≡ Ok c → hart_step code items g words sc_ok ≡ Ok c
  unfolding hart_step
  steps sc_ok other step change = ap (λ o. unless_halted o (by sc_ok)) (running other step) ∙ change

  -- the same step where an SC stores as the effect says
  again : (sc_ok : Bool) → hart_step code items g words sc_ok ≡ Ok c → by (is_sc_ok c.effect) ≡ Ok c
  again sc_ok step = (change_completes code items g words sc_ok (ask_of code items g.hart) c refl (changes sc_ok step)).same

  as-said : hart_step code items g words true ≡ Ok c → hart_step code items g words (is_sc_ok c.effect) ≡ Ok c
  as-said step = steps (is_sc_ok c.effect) true step (again true step)

  pub not-failed : hart_step code items g words true ≡ Ok c → fails_by (ask_of code items g.hart) g.reserved c.effect ≡ false
  not-failed step = never-fails (ask_of code items g.hart) g.reserved (finish_of code items g.hart) words c (changes true step) (again true step)

  stores : (e : Effect) → fails_by (ask_of code items g.hart) g.reserved e ≡ false → hart_step code items g words (is_sc_ok e) ≡ Ok c → hart_step code items g words true ≡ Ok c
  stores e none step = steps true (is_sc_ok e) step (sym (as-told (ask_of code items g.hart) g.reserved (finish_of code items g.hart) words e none) ∙ changes (is_sc_ok e) step)

-- ---- lists

module _ (code : List CodeWord) (items : ItemTable) where
  pub step-legal : (f next : FlatMachine) (op : Op) → storing_step code items f op ≡ Some next → legal_step code items f op ≡ Some next
  step-legal f next op e =
      let s = stepped code items f op next e in
      let made = flat_step_is code items f op.hart (is_sc_ok s.change.effect) s.change (as-said code items (item_words f) (flat_hart f op.hart) s.change s.step) in
      let said : flat_step code items f op.hart (is_sc_ok op.effect) ≡ Ok (op.effect, with_change f op.hart s.change) = subst (λ (a : Effect). flat_step code items f op.hart (is_sc_ok a) ≡ Ok (a, with_change f op.hart s.change)) s.effect made in
      legal_step_of code items f next op s.pc (subst (λ (n : FlatMachine). flat_step code items f op.hart (is_sc_ok op.effect) ≡ Ok (op.effect, n)) s.after said)

  step-reserved : (f next : FlatMachine) (op : Op) → storing_step code items f op ≡ Some next → fails_reserved code items f op ≡ false
  step-reserved f next op e =
      let s = stepped code items f op next e in
      subst (λ (a : Effect). fails_by (ask_of code items (flat_hart f op.hart).hart) (flat_hart f op.hart).reserved a ≡ false) s.effect (not-failed code items (item_words f) (flat_hart f op.hart) s.change s.step)

  pub step-stores : (f next : FlatMachine) (op : Op) → legal_step code items f op ≡ Some next → fails_reserved code items f op ≡ false → storing_step code items f op ≡ Some next
  step-stores f next op e none =
      let c = record_change code items f next op e in
      let step = stores code items (item_words f) (flat_hart f op.hart) c.change op.effect none c.step in
      let made = flat_step_is code items f op.hart true c.change step in
      let pc : nat_eq (flat_hart f op.hart).hart.pc op.pc ≡ true = eq-eqb _ _ (legal_step_is code items f next op e).0 in
      rw (pc, made, c.made, c.after, same_effect_refl op.effect) refl

  pub run-legal : (f : FlatMachine) (ops : List Op) (last : FlatMachine) → storing_run code items f ops ≡ Some last → legal_run code items f ops ≡ Some last
  unfolding legal_run
  run-legal f [] last e = e
  run-legal f (op ∷ ops) last e = at (λ next rest. run-legal next ops last rest) (storing_step code items f op) refl e where
    at : ((next : FlatMachine) → storing_run code items next ops ≡ Some last → legal_run code items next ops ≡ Some last) → (o : Option FlatMachine) → storing_step code items f op ≡ o → option_and_then (λ next. storing_run code items next ops) o ≡ Some last → legal_run code items f (op ∷ ops) ≡ Some last
    at later None is e = cc
    at later (Some next) is e = legal_more code items f next op ops (step-legal f next op is) ∙ later next e

  run-reserved : (f : FlatMachine) (ops : List Op) (last : FlatMachine) → storing_run code items f ops ≡ Some last → reserved_ones_store code items f ops ≡ true
  run-reserved f [] last e = refl
  run-reserved f (op ∷ ops) last e = at (λ next rest. run-reserved next ops last rest) (storing_step code items f op) refl e where
    at : ((next : FlatMachine) → storing_run code items next ops ≡ Some last → reserved_ones_store code items next ops ≡ true) → (o : Option FlatMachine) → storing_step code items f op ≡ o → option_and_then (λ next. storing_run code items next ops) o ≡ Some last → reserved_ones_store code items f (op ∷ ops) ≡ true
    at later None is e = cc
    at later (Some next) is e = both_true (ap not (step-reserved f next op is)) (ap (where_next (λ next. reserved_ones_store code items next ops)) (step-legal f next op is) ∙ later next e)

  run-stores : (f : FlatMachine) (ops : List Op) (last : FlatMachine) → legal_run code items f ops ≡ Some last → reserved_ones_store code items f ops ≡ true → storing_run code items f ops ≡ Some last
  unfolding legal_run
  run-stores f [] last e all = e
  run-stores f (op ∷ ops) last e all = at (λ next rest more. run-stores next ops last rest more) (legal_first code items f op ops last e) (fails_reserved code items f op) refl all where
    at : ((next : FlatMachine) → legal_run code items next ops ≡ Some last → reserved_ones_store code items next ops ≡ true → storing_run code items next ops ≡ Some last) → (first : LegalFirst code items f op ops last) → (b : Bool) → fails_reserved code items f op ≡ b
        → (not b && where_next (λ next. reserved_ones_store code items next ops) (legal_step code items f op)) ≡ true → storing_run code items f (op ∷ ops) ≡ Some last
    at later first true is all = absurd (true≢false (sym all))
    at later first false is all =
        let stores = step-stores f first.next op first.step is in
        ap (option_and_then (λ next. storing_run code items next ops)) stores ∙ later first.next first.rest (sym (ap (where_next (λ next. reserved_ones_store code items next ops)) first.step) ∙ all)

pub storing-runs : (code : List CodeWord) (items : ItemTable) (f : FlatMachine) (ops : List Op) (last : FlatMachine) → IsStoring code items f ops last
storing-runs code items f ops last = record { legal = run-legal code items f ops last; reserved = run-reserved code items f ops last; stores = run-stores code items f ops last }
