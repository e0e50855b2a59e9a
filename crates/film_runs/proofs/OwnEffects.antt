-- A leaf after a turn of its hart that answers so, is the leaf that it was, but for its hart.
-- Letters: v is a leaf, d what a turn comes to, c a change, x an item.
use Rattle.std.proofs.Common.{◌≡◌, ◌∙◌, ℕ, Bool, true, false, List, [], Option, Some, None, Result, Ok, Err, refl, sym, ap}
use Rattle.ddm_types.specs.declared.keys.Key.{Key}
use Rattle.ddm_types.specs.declared.operations.HaltCause.{HaltCause}
use Rattle.ddm_types.specs.declared.sizes.LeafState.{LeafState}
use Rattle.ddm_types.specs.CodeMap.{CodeWord}
use Rattle.ddm_types.specs.ItemTable.{ItemTable}
use Rattle.flat_model.specs.Flat.{Change, change_by, conditional, has_reserved, leaving}
use Rattle.flat_model.specs.Hart.{Action, Finished, Halts, Computes, Puts, Loads, Stores, Reserves, StoresIfReserved, Changes, HartValue, action_of, ask_by, ask_of, finish_by, finish_of}
use Rattle.tree_model.specs.State.Leaf.{buffer_full, free_way, waiting_item}
use Rattle.tree_model.specs.State.Values.{LeafValue}
use Rattle.tree_model.specs.Turns.HartTurn.{Deed, completes, Need, no_need, a_copy, no_other_copy, time, answer_of_deed, change_here, deed_by_need, deed_of, deed_of_change, deed_to_fetch, deed_unless_halted, deed_unless_waiting, leaf_after_deed, leaf_step, need_of, replaces, words_here}
use Rattle.film_runs.specs.HartAlone.{IsHartOf, hart_alone, is_own}

-- it stores nothing, and the reservation stays
record StoresNothing (reserved : Option ℕ) (c : Change) : Type 0 where
  stored : c.stored ≡ None
  kept : c.after.reserved ≡ reserved

left : (f : Finished) (reserved : Option ℕ) (c : Change) → leaving f reserved ≡ c → StoresNothing reserved c
left f reserved c is = record { stored = ap (λ (k : Change). k.stored) (sym is); kept = ap (λ (k : Change). k.after.reserved) (sym is) }

by_conditional : (b : Bool) (x : ℕ) (finish : Bool → Finished) (reserved : Option ℕ) (c : Change) → is_own (finish true).effect ≡ false → is_own (finish false).effect ≡ false → conditional b x finish ≡ c → is_own c.effect ≡ true
    → StoresNothing reserved c
by_conditional true x finish reserved c stores fails is own = absurd (let wrong : false ≡ true = sym stores ∙ ap (λ (k : Change). is_own k.effect) is ∙ own in cc)
by_conditional false x finish reserved c stores fails is own = absurd (let wrong : false ≡ true = sym fails ∙ ap (λ (k : Change). is_own k.effect) is ∙ own in cc)

by_action : (a : Action) (h : HartValue) (reserved : Option ℕ) (words : ℕ → List ℕ) (c : Change) → change_by (ask_by a) reserved (finish_by a h) words true ≡ Ok c → is_own c.effect ≡ true → StoresNothing reserved c
by_action (Halts cause) h reserved words c is own = cc
by_action (Computes after) h reserved words c is own = left (finish_by (Computes after) h [] false) reserved c cc
by_action (Puts byte after) h reserved words c is own = left (finish_by (Puts byte after) h [] false) reserved c cc
by_action (Loads op rd a) h reserved words c is own = left (finish_by (Loads op rd a) h (words a.item) false) reserved c cc
by_action (Stores op v a) h reserved words c is own = cc
by_action (Reserves rd a) h reserved words c is own = cc
by_action (StoresIfReserved rd v a) h reserved words c is own = by_conditional (has_reserved reserved a.item) a.item (finish_by (StoresIfReserved rd v a) h (words a.item)) reserved c refl refl (cc) own
by_action (Changes op rd v a) h reserved words c is own = cc

module _ (code : List CodeWord) (items : ItemTable) (victim : ℕ) (now : Key) (v : LeafValue) where
  abbrev KeepsRest : Deed → Type 0
  KeepsRest d = hart_alone (answer_of_deed now v d) ≡ true → IsHartOf v (leaf_after_deed v d)

  completed : (c : Change) → StoresNothing v.reservation c → IsHartOf v (leaf_after_deed v (completes c))
  completed c none = rw (none.stored, none.kept) refl

  change_rest : (r : Result Change HaltCause) → change_here code items v ≡ r → KeepsRest (deed_of_change r)
  unfolding change_here ask_of finish_of
  change_rest (Ok c) is own = completed c (by_action (action_of code items v.hart) v.hart v.reservation (words_here v) c is own)
  change_rest (Err cause) is own = refl

  full_rest : (x : ℕ) (state : LeafState) (way : ℕ) (full : Bool) → KeepsRest (replaces x state way full)
  full_rest x state way true own = cc
  full_rest x state way false own = cc

  fetch_rest : (x : ℕ) (state : LeafState) (o : Option ℕ) → KeepsRest (deed_to_fetch x state victim v o)
  fetch_rest x state (Some way) own = cc
  fetch_rest x state None own = full_rest x state _ (buffer_full v) own

  need_rest : (n : Need) → KeepsRest (deed_by_need code items victim v n)
  need_rest no_need own = change_rest (change_here code items v) refl own
  need_rest (a_copy x state) own = fetch_rest x state (free_way v.sizes x v.ways) own
  need_rest (no_other_copy x words) own = cc
  need_rest (time x) own = cc

  waiting_rest : (o : Option ℕ) → KeepsRest (deed_unless_waiting code items victim v o)
  waiting_rest (Some x) own = cc
  waiting_rest None own = need_rest (need_of (ask_of code items v.hart) v) own

  halted_rest : (o : Option HaltCause) → KeepsRest (deed_unless_halted code items victim v o)
  halted_rest (Some cause) own = refl
  halted_rest None own = waiting_rest (waiting_item v.ways v.buffer) own

  -- the leaf after a turn of its hart
  pub leaf-alone : hart_alone (leaf_step code items now victim v).answer ≡ true → IsHartOf v (leaf_step code items now victim v).leaf
  unfolding leaf_step deed_of
  leaf-alone own = halted_rest v.hart.halt own
