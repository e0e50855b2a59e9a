-- The turn of a hart at a quiet instruction: what it does depends on nothing that another part of the machine can change.
-- Letters: v is a leaf, a an action, d a deed.
use Rattle.std.proofs.Common.{◌≡◌, ℕ, ◌+◌, Bool, true, false, not, List, Option, Some, None, Ok, is_some, refl, sym, ap, subst, ◌∙◌, ◌%◌, true≢false}
use Rattle.std.specs.Prelude.{if◌then◌else◌}
use Rattle.search_model.specs.DdmTypes.declared.operations.Effect.{Effect}
use Rattle.search_model.specs.DdmTypes.declared.operations.HaltCause.{HaltCause}
use Rattle.search_model.specs.DdmTypes.declared.keys.Key.{Key}
use Rattle.search_model.specs.DdmTypes.declared.sizes.LeafState.{LeafState}
use Rattle.search_model.specs.DdmTypes.CodeMap.{CodeWord}
use Rattle.search_model.specs.DdmTypes.ItemTable.{ItemTable}
use Rattle.search_model.specs.RvDecode.declared.instructions.Reg.{Reg}
use Rattle.search_model.specs.FlatModel.Flat.{change_by, conditional, has_reserved}
use Rattle.search_model.specs.FlatModel.Hart.{HartValue, Access, Action, Halts, Computes, Puts, Loads, Stores, Reserves, StoresIfReserved, Changes, action_of, ask_by, ask_of, finish_by, finish_of, written, word_address}
use Rattle.tree_model.specs.State.Leaf.{leaf_entry, free_way, buffer_full, waiting_item}
use Rattle.tree_model.specs.State.Values.{LeafValue}
use Rattle.tree_model.specs.Turns.HartTurn.{Deed, waits_for, halts, completes, upgrades, finds_buffer_full, Need, no_need, a_copy, no_other_copy, time, need_to_write, need_of, words_here, change_here, deed_of_change, replaces, deed_to_fetch, deed_by_need, deed_unless_waiting, deed_unless_halted, deed_of, answer_of_deed, leaf_after_deed}
use Rattle.search_model.specs.Tried.{is_quiet_answer}
use Rattle.tree_model.proofs.Tests.{not-true}
use Rattle.search_model.proofs.Calm.{NoneWaits, none-waits, waits-none}

-- an action that is quiet where this is reserved
abbrev pub is_calm : Action → Option ℕ → Bool
is_calm (Halts cause) r = true
is_calm (Computes after) r = true
is_calm (Puts byte after) r = true
is_calm (Loads op rd a) r = false
is_calm (Stores op v a) r = false
is_calm (Reserves rd a) r = false
is_calm (StoresIfReserved rd v a) r = not (has_reserved r a.item)
is_calm (Changes op rd v a) r = false

-- what it does, and what it leaves: its hart, how many instructions are completed, and whether a reservation ends
abbrev pub calm_deed : Action → HartValue → Option ℕ → Deed
calm_deed (Halts cause) h r = halts cause
calm_deed (Computes after) h r = completes (record { effect = Effect.Plain; after = record { hart = after; reserved = r }; stored = None })
calm_deed (Puts byte after) h r = completes (record { effect = Effect.Put byte; after = record { hart = after; reserved = r }; stored = None })
calm_deed (Loads op rd a) h r = finds_buffer_full
calm_deed (Stores op v a) h r = finds_buffer_full
calm_deed (Reserves rd a) h r = finds_buffer_full
calm_deed (StoresIfReserved rd v a) h r = completes (record { effect = Effect.ScFail (word_address a); after = record { hart = written h rd 1; reserved = None }; stored = None })
calm_deed (Changes op rd v a) h r = finds_buffer_full

abbrev pub hart_then : Action → HartValue → HartValue
hart_then (Halts cause) h = record h { halt = Some cause }
hart_then (Computes after) h = after
hart_then (Puts byte after) h = after
hart_then (Loads op rd a) h = h
hart_then (Stores op v a) h = h
hart_then (Reserves rd a) h = h
hart_then (StoresIfReserved rd v a) h = written h rd 1
hart_then (Changes op rd v a) h = h

abbrev pub done_then : Action → ℕ → ℕ
done_then (Halts cause) done = done
done_then (Computes after) done = done + 1
done_then (Puts byte after) done = done + 1
done_then (Loads op rd a) done = done
done_then (Stores op v a) done = done
done_then (Reserves rd a) done = done
done_then (StoresIfReserved rd v a) done = done + 1
done_then (Changes op rd v a) done = done

abbrev pub ends_then : Action → Bool
ends_then (Halts cause) = false
ends_then (Computes after) = false
ends_then (Puts byte after) = false
ends_then (Loads op rd a) = false
ends_then (Stores op v a) = false
ends_then (Reserves rd a) = false
ends_then (StoresIfReserved rd v a) = true
ends_then (Changes op rd v a) = false

-- the leaf after it
pub calm-leaf : (a : Action) (v : LeafValue) → is_calm a v.reservation ≡ true
    → leaf_after_deed v (calm_deed a v.hart v.reservation) ≡ record v { hart = hart_then a v.hart; done = done_then a v.done; reservation = if ends_then a then None else v.reservation }
calm-leaf (Halts cause) v calm = refl
calm-leaf (Computes after) v calm = refl
calm-leaf (Puts byte after) v calm = refl
calm-leaf (Loads op rd a) v calm = cc
calm-leaf (Stores op w a) v calm = cc
calm-leaf (Reserves rd a) v calm = cc
calm-leaf (StoresIfReserved rd w a) v calm = refl
calm-leaf (Changes op rd w a) v calm = cc

-- and its answer
pub calm-answer : (a : Action) (v : LeafValue) (now : Key) → is_calm a v.reservation ≡ true → is_quiet_answer (answer_of_deed now v (calm_deed a v.hart v.reservation)) false ≡ true
calm-answer (Halts cause) v now calm = refl
calm-answer (Computes after) v now calm = refl
calm-answer (Puts byte after) v now calm = refl
calm-answer (Loads op rd a) v now calm = cc
calm-answer (Stores op w a) v now calm = cc
calm-answer (Reserves rd a) v now calm = cc
calm-answer (StoresIfReserved rd w a) v now calm = refl
calm-answer (Changes op rd w a) v now calm = cc

module _ (code : List CodeWord) (items : ItemTable) (victim : ℕ) (v : LeafValue) where
  -- ---- by the action

  abbrev by_need : Action → Need → Deed
  by_need a no_need = deed_of_change (change_by (ask_by a) v.reservation (finish_by a v.hart) (words_here v) true)
  by_need a (a_copy x state) = deed_to_fetch x state victim v (free_way v.sizes x v.ways)
  by_need a (no_other_copy x words) = upgrades x words
  by_need a (time x) = waits_for x

  abbrev by_action : Action → Deed
  by_action a = by_need a (need_of (ask_by a) v)

  need-action : (need : Need) → deed_by_need code items victim v need ≡ by_need (action_of code items v.hart) need
  unfolding change_here ask_of finish_of
  need-action no_need = refl
  need-action (a_copy x state) = refl
  need-action (no_other_copy x words) = refl
  need-action (time x) = refl

  waiting-action : deed_unless_waiting code items victim v None ≡ by_action (action_of code items v.hart)
  unfolding ask_of
  waiting-action = need-action (need_of (ask_of code items v.hart) v)

  -- an SC by whether its item is reserved
  abbrev if_reserved : Reg → ℕ → Access → Bool → Deed
  if_reserved rd w a b = deed_of_change (Ok (conditional b a.item (finish_by (StoresIfReserved rd w a) v.hart (words_here v a.item))))

  -- ---- a calm one

  action-calm : (a : Action) → is_calm a v.reservation ≡ true → by_action a ≡ calm_deed a v.hart v.reservation
  action-calm (Halts cause) calm = refl
  action-calm (Computes after) calm = refl
  action-calm (Puts byte after) calm = refl
  action-calm (Loads op rd a) calm = cc
  action-calm (Stores op w a) calm = cc
  action-calm (Reserves rd a) calm = cc
  action-calm (StoresIfReserved rd w a) calm =
      let free : has_reserved v.reservation a.item ≡ false = not-true _ calm in
      ap (λ b. by_need (StoresIfReserved rd w a) (if b then need_to_write a.item (leaf_entry a.item v) else no_need)) free ∙ ap (λ b. if_reserved rd w a b) free
  action-calm (Changes op rd w a) calm = cc

  pub deed-calm : v.hart.halt ≡ None → NoneWaits v.ways v.buffer → is_calm (action_of code items v.hart) v.reservation ≡ true → deed_of code items victim v ≡ calm_deed (action_of code items v.hart) v.hart v.reservation
  unfolding deed_of
  deed-calm runs none calm =
      ap (deed_unless_halted code items victim v) runs ∙ ap (deed_unless_waiting code items victim v) (waits-none v.ways v.buffer none) ∙ waiting-action ∙ action-calm (action_of code items v.hart) calm

  -- ---- a turn that answers quietly is calm

  module _ (now : Key) where
    abbrev Loud : Deed → Type 0
    Loud d = is_quiet_answer (answer_of_deed now v d) false ≡ false

    fetch-loud : (x : ℕ) (state : LeafState) (way : Option ℕ) → Loud (deed_to_fetch x state victim v way)
    fetch-loud x state (Some way) = refl
    fetch-loud x state None = full-loud (buffer_full v)
      where
        full-loud : (b : Bool) → Loud (replaces x state (victim % v.sizes.way_count) b)
        full-loud true = refl
        full-loud false = refl

    need-loud : (a : Action) (need : Need) → Loud (by_need a no_need) → Loud (by_need a need)
    need-loud a no_need loud = loud
    need-loud a (a_copy x state) loud = fetch-loud x state (free_way v.sizes x v.ways)
    need-loud a (no_other_copy x words) loud = refl
    need-loud a (time x) loud = refl

    abbrev Quiet : Deed → Type 0
    Quiet d = is_quiet_answer (answer_of_deed now v d) false ≡ true

    loud-not : (d : Deed) → Loud d → Quiet d → ⊥
    loud-not d loud quiet = true≢false (sym quiet ∙ loud)

    quiet-action : (a : Action) → Quiet (by_action a) → is_calm a v.reservation ≡ true
    quiet-action (Halts cause) quiet = refl
    quiet-action (Computes after) quiet = refl
    quiet-action (Puts byte after) quiet = refl
    quiet-action (Loads op rd a) quiet = absurd (loud-not _ (need-loud (Loads op rd a) (need_of (ask_by (Loads op rd a)) v) refl) quiet)
    quiet-action (Stores op w a) quiet = absurd (loud-not _ (need-loud (Stores op w a) (need_of (ask_by (Stores op w a)) v) refl) quiet)
    quiet-action (Reserves rd a) quiet = absurd (loud-not _ (need-loud (Reserves rd a) (need_of (ask_by (Reserves rd a)) v) refl) quiet)
    quiet-action (StoresIfReserved rd w a) quiet = elim (has_reserved v.reservation a.item) as (λ b. has_reserved v.reservation a.item ≡ b → not b ≡ true) [
      | true ↦ λ has.
          let loud : Loud (by_need (StoresIfReserved rd w a) no_need) = ap (λ b. is_quiet_answer (answer_of_deed now v (if_reserved rd w a b)) false) has in
          absurd (loud-not _ (need-loud (StoresIfReserved rd w a) (need_of (ask_by (StoresIfReserved rd w a)) v) loud) quiet)
      | false ↦ λ has. refl
    ] refl
    quiet-action (Changes op rd w a) quiet = absurd (loud-not _ (need-loud (Changes op rd w a) (need_of (ask_by (Changes op rd w a)) v) refl) quiet)

    -- what is so where a hart's turn answers quietly
    pub record QuietLeaf : Type 0 where
      pub runs : v.hart.halt ≡ None
      pub none : NoneWaits v.ways v.buffer
      pub calm : is_calm (action_of code items v.hart) v.reservation ≡ true

    quiet-waiting : (waiting : Option ℕ) → waiting_item v.ways v.buffer ≡ waiting → v.hart.halt ≡ None → Quiet (deed_unless_waiting code items victim v waiting) → QuietLeaf
    quiet-waiting (Some x) is runs quiet = cc
    quiet-waiting None is runs quiet = record {
      runs = runs;
      none = none-waits v.ways v.buffer is;
      calm = quiet-action (action_of code items v.hart) (subst Quiet waiting-action quiet);
    }

    quiet-halted : (halt : Option HaltCause) → v.hart.halt ≡ halt → is_quiet_answer (answer_of_deed now v (deed_unless_halted code items victim v halt)) (is_some halt) ≡ true → QuietLeaf
    quiet-halted (Some cause) is quiet = cc
    quiet-halted None is quiet = quiet-waiting (waiting_item v.ways v.buffer) refl is quiet

    pub quiet-leaf : is_quiet_answer (answer_of_deed now v (deed_of code items victim v)) (is_some v.hart.halt) ≡ true → QuietLeaf
    unfolding deed_of
    quiet-leaf quiet = quiet-halted v.hart.halt refl quiet
