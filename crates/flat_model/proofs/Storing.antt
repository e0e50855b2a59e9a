-- The words of the flat machine are those that the effects say.
use Rattle.std.proofs.Common.{◌≡◌, ℕ, ◌-◌, ◌*◌, ◌/◌, ◌%◌, Bool, true, false, ◌&&◌, nat_eq, nat_lt, List, [], ◌∷◌, length, Option, Some, None, Ok, refl, sym, ap, subst, ◌∙◌, arith}
use Rattle.std.proofs.Math.ListN.{get_or-eq_default}
use Rattle.std.proofs.lemmas.Bool.{eqb-true, eqb-false, ltb-true, ltb-false}
use Rattle.std.proofs.lemmas.Option.{none-some, same_Some}
use Rattle.std.specs.Prelude.{if◌then◌else◌}
use Rattle.ddm_types.specs.declared.operations.HaltCause.{HaltCause}
use Rattle.ddm_types.specs.declared.operations.Effect.{Effect}
use Rattle.ddm_types.specs.declared.operations.Effect.TheVariants.{Plain, Put, Load, Store, Lr, ScOk, ScFail, Amo}
use Rattle.ddm_types.specs.declared.operations.Op.{Op}
use Rattle.ddm_types.specs.CodeMap.{CodeWord}
use Rattle.ddm_types.specs.ItemTable.{ItemTable, no_row, row_at}
use Rattle.flat_model.specs.Hart.{HartValue, Finished, Action, Halts, Computes, Puts, Loads, Stores, Reserves, StoresIfReserved, Changes, action_of, ask_by, ask_of, finish_by, finish_of}
use Rattle.flat_model.specs.Flat.{FlatHart, FlatMachine, Stored, Change, flat_hart, item_words, has_reserved, storing_to, conditional, change_by, unless_halted, hart_step, with_change}
use Rattle.flat_model.specs.Legal.{effect_item, is_change, on_item, changes_item, changed_item, stored_by, words_by, words_after, is_sc_ok, HasWholeWords, legal_step, legal_run}
use Rattle.flat_model.proofs.Actions.{IsActionOf, action_is}
use Rattle.flat_model.proofs.Frames.{other_words, own_words, same_counts}
use Rattle.flat_model.proofs.Steps.{same_change}
use Rattle.flat_model.proofs.Insert.{stored_item, StepChange, record_change, changed_is, LegalFirst, legal_first}

row_whole : (items : ItemTable) (x : ℕ) → HasWholeWords items → (row_at items x).address % 4 ≡ 0
row_whole items x whole = go (nat_lt x (length items.rows)) refl where
  go : (b : Bool) → nat_lt x (length items.rows) ≡ b → (row_at items x).address % 4 ≡ 0
  go true k = whole.1 x no_row (ltb-true x (length items.rows) k)
  go false k = rw (get_or-eq_default items.rows no_row (ltb-false x (length items.rows) k)) refl

same_place : (a b : ℕ) → b % 4 ≡ 0 → (a - b) / 4 ≡ (a / 4 * 4 - b) / 4
same_place a b h = grind arith

-- what a step stores is what its effect says of the words before it
abbrev pub StoresBy : ItemTable → (ℕ → List ℕ) → Change → Type 0
StoresBy items words c = (s : Stored) → c.stored ≡ Some s → s.words ≡ stored_by items s.item (words s.item) c.effect

stored_is : (items : ItemTable) (words : ℕ → List ℕ) (x : ℕ) (f : Finished) (r : Option ℕ) (c : Change) → storing_to x f r ≡ c → f.words ≡ stored_by items x (words x) f.effect → StoresBy items words c
stored_is items words x f r c e is = subst (StoresBy items words) e (λ s k. one s k) where
  one : (s : Stored) → (let o : Option Stored = Some (record { item = x; words = f.words }) in o ≡ Some s) → s.words ≡ stored_by items s.item (words s.item) f.effect
  one s k = subst (λ (s : Stored). s.words ≡ stored_by items s.item (words s.item) f.effect) (same_Some (record { item = x; words = f.words }) s k) is

change_stores : (items : ItemTable) (act : Action) (h : HartValue) (r : Option ℕ) (words : ℕ → List ℕ) (sc_ok : Bool) (c : Change) → HasWholeWords items → IsActionOf items h act → change_by (ask_by act) r (finish_by act h) words sc_ok ≡ Ok c → StoresBy items words c
change_stores items (Halts cause) h r words sc_ok c whole at e = grind arith
change_stores items (Computes after) h r words sc_ok c whole at e = grind arith
change_stores items (Puts byte after) h r words sc_ok c whole at e = grind arith
change_stores items (Loads op rd a) h r words sc_ok c whole at e = grind arith
change_stores items (Reserves rd a) h r words sc_ok c whole at e = grind arith
change_stores items (Stores op v a) h r words sc_ok c whole at e =
    let f : Finished = finish_by (Stores op v a) h (words a.item) false in
    stored_is items words a.item f r c (same_change (storing_to a.item f r) c e) (rw (at.place ∙ same_place a.address (row_at items a.item).address (row_whole items a.item whole)) refl)
change_stores items (StoresIfReserved rd v a) h r words sc_ok c whole at e = go (sc_ok && has_reserved r a.item) (same_change (conditional (sc_ok && has_reserved r a.item) a.item (finish_by (StoresIfReserved rd v a) h (words a.item))) c e) where
  go : (b : Bool) → conditional b a.item (finish_by (StoresIfReserved rd v a) h (words a.item)) ≡ c → StoresBy items words c
  go true k = stored_is items words a.item (finish_by (StoresIfReserved rd v a) h (words a.item) true) None c k (rw (at.place ∙ same_place a.address (row_at items a.item).address (row_whole items a.item whole)) refl)
  go false k = grind arith
change_stores items (Changes op rd v a) h r words sc_ok c whole at e =
    let f : Finished = finish_by (Changes op rd v a) h (words a.item) false in
    stored_is items words a.item f r c (same_change (storing_to a.item f r) c e) (rw (at.place ∙ same_place a.address (row_at items a.item).address (row_whole items a.item whole)) refl)

pub step_stores : (code : List CodeWord) (items : ItemTable) (g : FlatHart) (words : ℕ → List ℕ) (sc_ok : Bool) (c : Change) → HasWholeWords items → hart_step code items g words sc_ok ≡ Ok c → StoresBy items words c
unfolding hart_step ask_of finish_of
step_stores code items g words sc_ok c whole e = go g.hart.halt e where
  go : (halt : Option HaltCause) → unless_halted halt (change_by (ask_of code items g.hart) g.reserved (finish_of code items g.hart) words sc_ok) ≡ Ok c → StoresBy items words c
  go None k = change_stores items (action_of code items g.hart) g.hart g.reserved words sc_ok c whole (action_is code items g.hart) k
  go (Some cause) k = grind arith

stored_in_none : (items : ItemTable) (x : ℕ) (effect : Effect) → stored_by items x [] effect ≡ []
stored_in_none items x Plain = refl
stored_in_none items x (Put byte) = refl
stored_in_none items x (Load address word) = refl
stored_in_none items x (Store address before after) = refl
stored_in_none items x (Lr address word) = refl
stored_in_none items x (ScOk address before after) = refl
stored_in_none items x (ScFail address) = refl
stored_in_none items x (Amo address before after) = refl

-- the words of the item that a step stores to, also where the machine has no such item
own_words_by : (items : ItemTable) (m : FlatMachine) (h : ℕ) (c : Change) (s : Stored) → c.stored ≡ Some s → StoresBy items (item_words m) c → item_words (with_change m h c) s.item ≡ stored_by items s.item (item_words m s.item) c.effect
own_words_by items m h c s k by = go (nat_lt s.item (length m.words)) refl where
  go : (b : Bool) → nat_lt s.item (length m.words) ≡ b → item_words (with_change m h c) s.item ≡ stored_by items s.item (item_words m s.item) c.effect
  go true t = own_words m h c s k (ltb-true s.item (length m.words) t) ∙ by s k
  go false t =
      let past = ltb-false s.item (length m.words) t in
      get_or-eq_default (with_change m h c).words [] (rw (same_counts m h c).1 past) ∙ sym (rw (get_or-eq_default m.words [] past) (stored_in_none items s.item c.effect))

pub changes_is : (items : ItemTable) (x : ℕ) (effect : Effect) → changes_item items x effect ≡ has_reserved (changed_item items effect) x
unfolding changes_item on_item
changes_is items x effect = go (is_change effect) where
  go : (b : Bool) → (b && has_reserved (effect_item items effect) x) ≡ has_reserved (if b then effect_item items effect else None) x
  go true = refl
  go false = refl

change_words : (items : ItemTable) (m : FlatMachine) (h : ℕ) (c : Change) (x : ℕ) → changed_item items c.effect ≡ stored_item c.stored → StoresBy items (item_words m) c → item_words (with_change m h c) x ≡ (if changes_item items x c.effect then stored_by items x (item_words m x) c.effect else item_words m x)
change_words items m h c x is by = rw (changes_is items x c.effect) (rw is (go c.stored refl)) where
  at : (s : Stored) → c.stored ≡ Some s → (t : Bool) → nat_eq s.item x ≡ t → item_words (with_change m h c) x ≡ (if t then stored_by items x (item_words m x) c.effect else item_words m x)
  at s k true t = subst (λ y. item_words (with_change m h c) y ≡ stored_by items y (item_words m y) c.effect) (eqb-true s.item x t) (own_words_by items m h c s k by)
  at s k false t = other_words m h c x (λ s' k' i. eqb-false s.item x t (ap (λ (s : Stored). s.item) (same_Some s s' (sym k ∙ k')) ∙ sym i))

  go : (o : Option Stored) → c.stored ≡ o → item_words (with_change m h c) x ≡ (if has_reserved (stored_item o) x then stored_by items x (item_words m x) c.effect else item_words m x)
  go None k = other_words m h c x (λ s k' i. none-some s (sym k ∙ k'))
  go (Some s) k = at s k (nat_eq s.item x) refl

-- a legal record does to each item's words what its effect says
pub record_stores : (code : List CodeWord) (items : ItemTable) (m n : FlatMachine) (op : Op) (x : ℕ) → HasWholeWords items → legal_step code items m op ≡ Some n → item_words n x ≡ words_by items x (item_words m x) op
record_stores code items m n op x whole e =
    let words : Effect → List ℕ = λ f. if changes_item items x f then stored_by items x (item_words m x) f else item_words m x in
    ap (λ k. item_words k x) (sym s.after)
    ∙ change_words items m op.hart s.change x (changed_is code items (flat_hart m op.hart) (item_words m) (is_sc_ok op.effect) s.change whole s.step) (step_stores code items (flat_hart m op.hart) (item_words m) (is_sc_ok op.effect) s.change whole s.step)
    ∙ ap words s.made where
      s : StepChange code items m n op.hart (is_sc_ok op.effect) op.effect
      s = record_change code items m n op e

-- and so does a legal list
pub words_is : (code : List CodeWord) (items : ItemTable) (m : FlatMachine) (ops : List Op) (z : FlatMachine) (x : ℕ) → HasWholeWords items → legal_run code items m ops ≡ Some z → item_words z x ≡ words_after items x (item_words m x) ops
unfolding legal_run words_after
words_is code items m [] z x whole e = ap (λ k. item_words k x) (sym (same_Some m z e))
words_is code items m (op ∷ ops) z x whole e = go (legal_first code items m op ops z e) (λ n k. words_is code items n ops z x whole k) where
  go : LegalFirst code items m op ops z → ((n : FlatMachine) → legal_run code items n ops ≡ Some z → item_words z x ≡ words_after items x (item_words n x) ops) → item_words z x ≡ words_after items x (item_words m x) (op ∷ ops)
  go f rest = rest f.next f.rest ∙ ap (λ w. words_after items x w ops) (record_stores code items m f.next op x whole f.step)
