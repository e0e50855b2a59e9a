-- A turn of the hart, by what its instruction asks for.
-- Letters: v is the leaf before, x an item, c a change.
use Rattle.std.proofs.Common.{◌≡◌, ℕ, ◌+◌, ◌%◌, Bool, true, false, ◌&&◌, List, [], Option, Some, None, Ok, refl, ap, ◌∙◌}
use Rattle.std.specs.Prelude.{option_map, if◌then◌else◌}
use Rattle.leaf_protocol.specs.DdmTypes.declared.answers.TurnAnswer.{TurnAnswer}
use Rattle.leaf_protocol.specs.DdmTypes.declared.answers.TurnAnswer.TheVariants.{Retired}
use Rattle.leaf_protocol.specs.DdmTypes.declared.operations.Effect.{Effect}
use Rattle.leaf_protocol.specs.DdmTypes.declared.operations.HaltCause.{HaltCause}
use Rattle.leaf_protocol.specs.DdmTypes.declared.sizes.LeafState.{LeafState}
use Rattle.leaf_protocol.specs.DdmTypes.declared.keys.Key.{Key}
use Rattle.leaf_protocol.specs.DdmTypes.CodeMap.{CodeWord}
use Rattle.leaf_protocol.specs.DdmTypes.ItemTable.{ItemTable}
use Rattle.leaf_protocol.specs.FlatModel.declared.Ask.{Ask}
use Rattle.leaf_protocol.specs.FlatModel.declared.Ask.TheVariants.{Plain, Put, NeedsShared, NeedsExclusive, Conditional, Halt}
use Rattle.leaf_protocol.specs.FlatModel.Hart.{HartValue, Finished, ask_of, finish_of}
use Rattle.leaf_protocol.specs.FlatModel.Flat.{Change, has_reserved, asked_item, leaving, storing_to, conditional, change_by}
use Rattle.rv_hart.specs.Steps.{IsReady}
use Rattle.leaf_protocol.specs.TreeModel.State.Values.{LeafValue}
use Rattle.leaf_protocol.specs.TreeModel.State.Leaf.{LeafEntry, leaf_entry, entry_state, entry_words, state_at, becomes, ways_after, buffer_after, buffer_full, free_way, waiting_item}
use Rattle.leaf_protocol.specs.TreeModel.Turns.HartTurn.{Deed, halts, upgrades, need_to_write, has_halted, waits_for, fetches, finds_buffer_full, need_of, words_here, change_here, deed_of_change, deed_to_fetch, replaces, deed_by_need, deed_unless_waiting, deed_unless_halted, deed_of, ways_stored, buffer_stored, leaf_step}
use Rattle.leaf_protocol.specs.Entries.{way_to_take}
use Rattle.leaf_protocol.specs.Leaf.{IsDone, write_ask}

-- ---- what a turn comes to

module _ (code : List CodeWord) (items : ItemTable) (victim : ℕ) (v : LeafValue) where
  pub halted-deed : (cause : HaltCause) → v.hart.halt ≡ Some cause → deed_of code items victim v ≡ has_halted cause
  unfolding deed_of
  halted-deed cause is = ap (deed_unless_halted code items victim v) is

  pub waiting-deed : (x : ℕ) → v.hart.halt ≡ None → waiting_item v.ways v.buffer ≡ Some x → deed_of code items victim v ≡ waits_for x
  unfolding deed_of
  waiting-deed x runs waits = ap (deed_unless_halted code items victim v) runs ∙ ap (deed_unless_waiting code items victim v) waits

  pub next-deed : v.hart.halt ≡ None → waiting_item v.ways v.buffer ≡ None → deed_of code items victim v ≡ deed_by_need code items victim v (need_of (ask_of code items v.hart) v)
  unfolding deed_of
  next-deed runs alone = ap (deed_unless_halted code items victim v) runs ∙ ap (deed_unless_waiting code items victim v) alone

  pub step-answer : (now : Key) (d : Deed) (answer : TurnAnswer) (after : LeafValue) → deed_of code items victim v ≡ d → IsDone now v d answer after → answer ≡ (leaf_step code items now victim v).answer
  unfolding leaf_step
  step-answer now d answer after is done = rw is done.answers

  pub step-leaf : (now : Key) (d : Deed) (answer : TurnAnswer) (after : LeafValue) → deed_of code items victim v ≡ d → IsDone now v d answer after → after ≡ (leaf_step code items now victim v).leaf
  unfolding leaf_step
  step-leaf now d answer after is done = rw is done.leaf

-- ---- a new item's way

module _ (x : ℕ) (state : LeafState) (victim : ℕ) (v : LeafValue) where
  pub fetch-full : None ≡ way_to_take (victim % v.sizes.way_count) (buffer_full v) (free_way v.sizes x v.ways) → deed_to_fetch x state victim v (free_way v.sizes x v.ways) ≡ finds_buffer_full
  fetch-full none = go (free_way v.sizes x v.ways) none
    where
      full : (b : Bool) → None ≡ way_to_take (victim % v.sizes.way_count) b None → replaces x state (victim % v.sizes.way_count) b ≡ finds_buffer_full
      full true h = refl
      full false h = absurd cc

      go : (o : Option ℕ) → None ≡ way_to_take (victim % v.sizes.way_count) (buffer_full v) o → deed_to_fetch x state victim v o ≡ finds_buffer_full
      go (Some way) h = absurd cc
      go None h = full (buffer_full v) h

  pub fetch-way : (way : ℕ) → Some way ≡ way_to_take (victim % v.sizes.way_count) (buffer_full v) (free_way v.sizes x v.ways) → deed_to_fetch x state victim v (free_way v.sizes x v.ways) ≡ fetches x state way
  fetch-way way some = go (free_way v.sizes x v.ways) some
    where
      full : (b : Bool) → Some way ≡ way_to_take (victim % v.sizes.way_count) b None → replaces x state (victim % v.sizes.way_count) b ≡ fetches x state way
      full true h = absurd cc
      full false h = let same : way ≡ victim % v.sizes.way_count = cc in rw same refl

      go : (o : Option ℕ) → Some way ≡ way_to_take (victim % v.sizes.way_count) (buffer_full v) o → deed_to_fetch x state victim v o ≡ fetches x state way
      go (Some free) h = let same : way ≡ free = cc in rw same refl
      go None h = full (buffer_full v) h

-- ---- an instruction that completes

module _ (code : List CodeWord) (items : ItemTable) (v : LeafValue) where
  abbrev finished : List ℕ → Bool → Finished
  finished words stores = finish_of code items v.hart words stores

  pub change-plain : IsReady (ask_of code items v.hart) → asked_item (ask_of code items v.hart) ≡ None → change_here code items v ≡ Ok (leaving (finished [] false) v.reservation)
  unfolding change_here
  change-plain ready plain = go (ask_of code items v.hart) ready plain
    where
      go : (ask : Ask) → IsReady ask → asked_item ask ≡ None → change_by ask v.reservation (finish_of code items v.hart) (words_here v) true ≡ Ok (leaving (finish_of code items v.hart [] false) v.reservation)
      go Plain r h = refl
      go (Put byte) r h = refl
      go (NeedsShared x lr) r h = absurd cc
      go (NeedsExclusive x) r h = absurd cc
      go (Conditional x) r h = absurd cc
      go (Halt cause) r h = absurd r

  pub change-load : (x : ℕ) (lr : Bool) → ask_of code items v.hart ≡ NeedsShared x lr → change_here code items v ≡ Ok (leaving (finished (words_here v x) false) (if lr then Some x else v.reservation))
  unfolding change_here
  change-load x lr asks = ap (λ ask. change_by ask v.reservation (finish_of code items v.hart) (words_here v) true) asks

  pub change-fail : (x : ℕ) → ask_of code items v.hart ≡ Conditional x → has_reserved v.reservation x ≡ false → change_here code items v ≡ Ok (leaving (finished (words_here v x) false) None)
  unfolding change_here
  change-fail x asks not = ap (λ ask. change_by ask v.reservation (finish_of code items v.hart) (words_here v) true) asks ∙ ap (λ b. Ok (conditional (true && b) x (finish_of code items v.hart (words_here v x)))) not

  pub change-store : (x : ℕ) (sc : Bool) → ask_of code items v.hart ≡ write_ask sc x → (sc ≡ true → has_reserved v.reservation x ≡ true) → change_here code items v ≡ Ok (storing_to x (finished (words_here v x) sc) (if sc then None else v.reservation))
  unfolding change_here
  change-store x true asks reserved = ap (λ ask. change_by ask v.reservation (finish_of code items v.hart) (words_here v) true) asks ∙ ap (λ b. Ok (conditional (true && b) x (finish_of code items v.hart (words_here v x)))) (reserved refl)
  change-store x false asks reserved = ap (λ ask. change_by ask v.reservation (finish_of code items v.hart) (words_here v) true) asks

  -- the leaf after a change
  pub completes-done : (now : Key) (c : Change) (effect : Effect) (hart : HartValue) (answer : TurnAnswer) (after : LeafValue) → change_here code items v ≡ Ok c → effect ≡ c.effect → hart ≡ c.after.hart → answer ≡ Retired (record { key = now; hart = v.number; pc = v.hart.pc; effect = effect }) → after ≡ record v { hart = hart; done = v.done + 1; ways = ways_stored c.stored v.ways; buffer = buffer_stored c.stored v.ways v.buffer; reservation = c.after.reserved } → IsDone now v (deed_of_change (change_here code items v)) answer after
  completes-done now c effect hart answer after is same_effect same_hart answers leaf =
      rw is (record {
        answers = answers ∙ ap (λ e. Retired (record { key = now; hart = v.number; pc = v.hart.pc; effect = e })) same_effect;
        leaf = leaf ∙ ap (λ h. record v { hart = h; done = v.done + 1; ways = ways_stored c.stored v.ways; buffer = buffer_stored c.stored v.ways v.buffer; reservation = c.after.reserved }) same_hart;
      })

  -- a load or an LR on these words
  pub load-done : (now : Key) (x : ℕ) (lr : Bool) (words : List ℕ) (r : Option ℕ) (answer : TurnAnswer) (after : LeafValue) → ask_of code items v.hart ≡ NeedsShared x lr → words ≡ words_here v x → r ≡ (if lr then Some x else v.reservation) → answer ≡ Retired (record { key = now; hart = v.number; pc = v.hart.pc; effect = (finished words false).effect }) → after ≡ record v { hart = (finished words false).hart; done = v.done + 1; reservation = r } → IsDone now v (deed_of_change (change_here code items v)) answer after
  load-done now x lr words r answer after asks here reserved answers leaf =
      completes-done now _ (finished words false).effect (finished words false).hart answer after (change-load x lr asks) (ap (λ w. (finish_of code items v.hart w false).effect) here) (ap (λ w. (finish_of code items v.hart w false).hart) here) answers
      (leaf ∙ ap (λ s. record v { hart = (finished words false).hart; done = v.done + 1; reservation = s }) reserved)

  -- what is stored on these words
  pub store-done : (now : Key) (x : ℕ) (sc : Bool) (words : List ℕ) (r : Option ℕ) (answer : TurnAnswer) (after : LeafValue) → ask_of code items v.hart ≡ write_ask sc x → (sc ≡ true → has_reserved v.reservation x ≡ true) → words ≡ words_here v x → r ≡ (if sc then None else v.reservation) → answer ≡ Retired (record { key = now; hart = v.number; pc = v.hart.pc; effect = (finished words sc).effect }) → after ≡ record v { hart = (finished words sc).hart; done = v.done + 1; ways = ways_after x (becomes LeafState.Exclusive (finished words sc).words) v.ways; buffer = buffer_after x (becomes LeafState.Exclusive (finished words sc).words) v.ways v.buffer; reservation = r } → IsDone now v (deed_of_change (change_here code items v)) answer after
  store-done now x sc words r answer after asks stores here reserved answers leaf =
      completes-done now _ (finished words sc).effect (finished words sc).hart answer after (change-store x sc asks stores) (ap (λ w. (finish_of code items v.hart w sc).effect) here) (ap (λ w. (finish_of code items v.hart w sc).hart) here) answers
      (leaf ∙ (ap (λ s. record v { hart = (finished words sc).hart; done = v.done + 1; ways = ways_after x (becomes LeafState.Exclusive (finished words sc).words) v.ways; buffer = buffer_after x (becomes LeafState.Exclusive (finished words sc).words) v.ways v.buffer; reservation = s }) reserved
      ∙ ap (λ w. record v { hart = (finished words sc).hart; done = v.done + 1; ways = ways_after x (becomes LeafState.Exclusive (finish_of code items v.hart w sc).words) v.ways; buffer = buffer_after x (becomes LeafState.Exclusive (finish_of code items v.hart w sc).words) v.ways v.buffer; reservation = if sc then None else v.reservation }) here))

-- ---- an instruction that doesn't

module _ (code : List CodeWord) (items : ItemTable) (victim : ℕ) (v : LeafValue) where
  pub halt-deed : (cause : HaltCause) → ask_of code items v.hart ≡ Halt cause → deed_by_need code items victim v (need_of (ask_of code items v.hart) v) ≡ halts cause
  unfolding change_here
  halt-deed cause asks =
      ap (λ ask. deed_by_need code items victim v (need_of ask v)) asks
      ∙ ap (λ ask. deed_of_change (change_by ask v.reservation (finish_of code items v.hart) (words_here v) true)) asks

  pub write-shared : (x : ℕ) → Some LeafState.Shared ≡ state_at x v → deed_by_need code items victim v (need_to_write x (leaf_entry x v)) ≡ upgrades x (words_here v x)
  write-shared x shared = go (leaf_entry x v) shared
    where
      go : (o : Option LeafEntry) → Some LeafState.Shared ≡ option_map entry_state o → deed_by_need code items victim v (need_to_write x o) ≡ upgrades x (entry_words o)
      go None h = absurd cc
      go (Some e) h = let same : e.state ≡ LeafState.Shared = cc in rw same refl

  pub absent-state : (x : ℕ) → None ≡ state_at x v → leaf_entry x v ≡ None
  absent-state x none = go (leaf_entry x v) none
    where
      go : (o : Option LeafEntry) → None ≡ option_map entry_state o → o ≡ None
      go None h = refl
      go (Some e) h = absurd cc

  pub absent-words : (x : ℕ) → None ≡ option_map (λ e. e.words) (leaf_entry x v) → leaf_entry x v ≡ None
  absent-words x none = go (leaf_entry x v) none
    where
      go : (o : Option LeafEntry) → None ≡ option_map (λ e. e.words) o → o ≡ None
      go None h = refl
      go (Some e) h = absurd cc

pub write-asks : (sc : Bool) (x : ℕ) → asked_item (write_ask sc x) ≡ Some x
write-asks true x = refl
write-asks false x = refl
