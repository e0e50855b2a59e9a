-- The reservations of the flat machine are those that the effects say.
use Rattle.std.proofs.Common.{◌≡◌, ◌≢◌, ℕ, zero, suc, map, slice_index_or, Bool, true, false, ◌&&◌, List, [], ◌∷◌, Option, Some, None, Ok, refl, sym, ap, subst, ◌∙◌, arith}
use Rattle.std.proofs.lemmas.Bool.{eqb-true, eqb-false}
use Rattle.std.proofs.lemmas.Option.{same_Some}
use Rattle.std.specs.Prelude.{if◌then◌else◌}
use Rattle.ddm_types.specs.declared.operations.HaltCause.{HaltCause}
use Rattle.ddm_types.specs.declared.operations.Op.{Op}
use Rattle.std.specs.List.{range_with_len}
use Rattle.ddm_types.specs.declared.sizes.Start.{Start}
use Rattle.ddm_types.specs.CodeMap.{CodeWord}
use Rattle.ddm_types.specs.ItemTable.{ItemTable}
use Rattle.flat_model.specs.Hart.{HartValue, Action, Halts, Computes, Puts, Loads, Stores, Reserves, StoresIfReserved, Changes, action_of, ask_by, ask_of, finish_by, finish_of}
use Rattle.flat_model.specs.Flat.{FlatHart, FlatMachine, Stored, Change, flat_hart_start, no_flat_hart, flat_start, flat_hart, item_words, has_reserved, leaving, conditional, change_by, unless_halted, hart_step}
use Rattle.flat_model.specs.Legal.{is_of, changed_item, reserved_by_own, reserved_by_other, reserved_by, reservation, is_sc_ok, HasWholeWords, legal_step, legal_run}
use Rattle.flat_model.proofs.Actions.{IsActionOf, action_is}
use Rattle.flat_model.proofs.Items.{item_at_word}
use Rattle.flat_model.proofs.Frames.{freed, other_hart, own_hart}
use Rattle.flat_model.proofs.Steps.{same_change}
use Rattle.flat_model.proofs.Insert.{stored_item, StepChange, record_change, changed_is, in_range, LegalFirst, legal_first}

change_reserves : (items : ItemTable) (act : Action) (h : HartValue) (r : Option ℕ) (words : ℕ → List ℕ) (sc_ok : Bool) (c : Change) → HasWholeWords items → IsActionOf items h act → change_by (ask_by act) r (finish_by act h) words sc_ok ≡ Ok c → c.after.reserved ≡ reserved_by_own items r c.effect
change_reserves items (Halts cause) h r words sc_ok c whole at e = grind arith
change_reserves items (Computes after) h r words sc_ok c whole at e = grind arith
change_reserves items (Puts byte after) h r words sc_ok c whole at e = grind arith
change_reserves items (Loads op rd a) h r words sc_ok c whole at e = grind arith
change_reserves items (Stores op v a) h r words sc_ok c whole at e = grind arith
change_reserves items (Reserves rd a) h r words sc_ok c whole at e =
    let P : Change → Type 0 = λ k. k.after.reserved ≡ reserved_by_own items r k.effect in
    subst P (same_change (leaving (finish_by (Reserves rd a) h (words a.item) false) (Some a.item)) c e) (sym (item_at_word items a.address whole ∙ at.item))
change_reserves items (StoresIfReserved rd v a) h r words sc_ok c whole at e = go (sc_ok && has_reserved r a.item) (same_change (conditional (sc_ok && has_reserved r a.item) a.item (finish_by (StoresIfReserved rd v a) h (words a.item))) c e) where
  go : (b : Bool) → conditional b a.item (finish_by (StoresIfReserved rd v a) h (words a.item)) ≡ c → c.after.reserved ≡ reserved_by_own items r c.effect
  go true k = grind arith
  go false k = grind arith
change_reserves items (Changes op rd v a) h r words sc_ok c whole at e = grind arith

pub step_reserves : (code : List CodeWord) (items : ItemTable) (g : FlatHart) (words : ℕ → List ℕ) (sc_ok : Bool) (c : Change) → HasWholeWords items → hart_step code items g words sc_ok ≡ Ok c → c.after.reserved ≡ reserved_by_own items g.reserved c.effect
unfolding hart_step ask_of finish_of
step_reserves code items g words sc_ok c whole e = go g.hart.halt e where
  go : (halt : Option HaltCause) → unless_halted halt (change_by (ask_of code items g.hart) g.reserved (finish_of code items g.hart) words sc_ok) ≡ Ok c → c.after.reserved ≡ reserved_by_own items g.reserved c.effect
  go None k = change_reserves items (action_of code items g.hart) g.hart g.reserved words sc_ok c whole (action_is code items g.hart) k
  go (Some cause) k = grind arith

freed_is : (stored : Option Stored) (g : FlatHart) → (freed stored g).reserved ≡ reserved_by_other g.reserved (stored_item stored)
freed_is None g = refl
freed_is (Some s) g = refl

-- a legal record does to each hart's reservation what its effect says
pub record_reserves : (code : List CodeWord) (items : ItemTable) (m n : FlatMachine) (op : Op) (g : ℕ) → HasWholeWords items → legal_step code items m op ≡ Some n → (flat_hart n g).reserved ≡ reserved_by items g (flat_hart m g).reserved op
record_reserves code items m n op g whole e = by_hart (is_of g op) refl where
  s : StepChange code items m n op.hart (is_sc_ok op.effect) op.effect
  s = record_change code items m n op e

  own : (flat_hart n op.hart).reserved ≡ reserved_by_own items (flat_hart m op.hart).reserved op.effect
  own = ap (λ k. (flat_hart k op.hart).reserved) (sym s.after) ∙ ap (λ (k : FlatHart). k.reserved) (own_hart m op.hart s.change (in_range code items m op.hart (item_words m) (is_sc_ok op.effect) s.change s.step)) ∙ step_reserves code items (flat_hart m op.hart) (item_words m) (is_sc_ok op.effect) s.change whole s.step ∙ ap (reserved_by_own items (flat_hart m op.hart).reserved) s.made

  other : g ≢ op.hart → (flat_hart n g).reserved ≡ reserved_by_other (flat_hart m g).reserved (changed_item items op.effect)
  other off = ap (λ k. (flat_hart k g).reserved) (sym s.after) ∙ ap (λ (k : FlatHart). k.reserved) (other_hart m op.hart s.change g off) ∙ freed_is s.change.stored (flat_hart m g) ∙ ap (reserved_by_other (flat_hart m g).reserved) (sym (changed_is code items (flat_hart m op.hart) (item_words m) (is_sc_ok op.effect) s.change whole s.step) ∙ ap (changed_item items) s.made)

  by_hart : (b : Bool) → is_of g op ≡ b → (flat_hart n g).reserved ≡ (if b then reserved_by_own items (flat_hart m g).reserved op.effect else reserved_by_other (flat_hart m g).reserved (changed_item items op.effect))
  by_hart true k = subst (λ h. (flat_hart n h).reserved ≡ reserved_by_own items (flat_hart m h).reserved op.effect) (eqb-true op.hart g k) own
  by_hart false k = other (λ i. eqb-false op.hart g k (sym i))

-- and so does a legal list
pub run_reserves : (code : List CodeWord) (items : ItemTable) (m : FlatMachine) (ops : List Op) (z : FlatMachine) (g : ℕ) → HasWholeWords items → legal_run code items m ops ≡ Some z → (flat_hart z g).reserved ≡ reservation items g (flat_hart m g).reserved ops
unfolding legal_run reservation
run_reserves code items m [] z g whole e = ap (λ k. (flat_hart k g).reserved) (sym (same_Some m z e))
run_reserves code items m (op ∷ ops) z g whole e = go (legal_first code items m op ops z e) (λ n k. run_reserves code items n ops z g whole k) where
  go : LegalFirst code items m op ops z → ((n : FlatMachine) → legal_run code items n ops ≡ Some z → (flat_hart z g).reserved ≡ reservation items g (flat_hart n g).reserved ops) → (flat_hart z g).reserved ≡ reservation items g (flat_hart m g).reserved (op ∷ ops)
  go f rest = rest f.next f.rest ∙ ap (λ r. reservation items g r ops) (record_reserves code items m f.next op g whole f.step)

none_reserved : (start : Start) (hs : List ℕ) (g : ℕ) → (slice_index_or (map (flat_hart_start start) hs) g no_flat_hart).reserved ≡ None
none_reserved start [] g = refl
none_reserved start (h ∷ hs) zero = refl
none_reserved start (h ∷ hs) (suc g) = none_reserved start hs g

-- at the end of a legal list from the start a hart has the reservation that the effects say
pub reservation_is : (code : List CodeWord) (items : ItemTable) (start : Start) (words : List (List ℕ)) (ops : List Op) (z : FlatMachine) (g : ℕ) → HasWholeWords items → legal_run code items (flat_start start words) ops ≡ Some z → (flat_hart z g).reserved ≡ reservation items g None ops
unfolding flat_start
reservation_is code items start words ops z g whole e = run_reserves code items (flat_start start words) ops z g whole e ∙ ap (λ r. reservation items g r ops) (none_reserved start (range_with_len 0 start.harts) g)
