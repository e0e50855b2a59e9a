-- A leaf's turn that completes, by its effect alone: what the rules of order need of it.
use Rattle.std.proofs.Common.{◌≡◌, ℕ, ◌+◌, Bool, true, false, nat_eq, ◌⊎◌, inl, inr, List, [], Option, Some, None, Ok, Result, option_map, refl, sym, ap, subst, ◌∙◌, arith}
use Rattle.std.specs.Prelude.{option_and_then, if◌then◌else◌}
use Rattle.std.proofs.lemmas.Bool.{eqb-true, eqb-false, eq-eqb}
use Rattle.std.proofs.lemmas.Option.{none-some, same_Some}
use Rattle.order_laws.specs.DdmTypes.declared.operations.Effect.{Effect}
use Rattle.order_laws.specs.DdmTypes.declared.operations.HaltCause.{HaltCause}
use Rattle.order_laws.specs.DdmTypes.declared.operations.Op.{Op}
use Rattle.order_laws.specs.DdmTypes.declared.sizes.LeafState.{LeafState}
use Rattle.order_laws.specs.DdmTypes.declared.keys.Key.{Key}
use Rattle.order_laws.specs.DdmTypes.ItemTable.{ItemTable, item_at}
use Rattle.order_laws.specs.DdmTypes.CodeMap.{CodeWord}
use Rattle.order_laws.specs.FlatModel.declared.Ask.{Ask}
use Rattle.order_laws.specs.FlatModel.declared.Ask.TheVariants.{Plain, Put, NeedsShared, NeedsExclusive, Conditional, Halt}
use Rattle.order_laws.specs.FlatModel.Hart.{HartValue, Finished, Action, Halts, Computes, Puts, Loads, Stores, Reserves, StoresIfReserved, Changes, action_of, ask_by, ask_of, finish_by, finish_of}
use Rattle.order_laws.specs.FlatModel.Flat.{Stored, Change, has_reserved, leaving, storing_to, conditional, change_by, asked_item}
use Rattle.order_laws.specs.FlatModel.Legal.{effect_address, effect_item, on_item, changes_item, stored_by, reserved_by_own, HasWholeWords}
use Rattle.order_laws.proofs.FlatModel.Items.{FollowsAsk, step_follows}
use Rattle.order_laws.proofs.FlatModel.Insert.{stored_item, changed_is}
use Rattle.order_laws.proofs.FlatModel.Steps.{same_change}
use Rattle.order_laws.proofs.FlatModel.Storing.{step_stores, changes_is}
use Rattle.order_laws.proofs.FlatModel.Reserving.{step_reserves}
use Rattle.order_laws.specs.TreeModel.State.Values.{LeafValue}
use Rattle.order_laws.specs.TreeModel.State.States.{is_waiting, is_held, entry_hold}
use Rattle.order_laws.specs.TreeModel.State.Leaf.{LeafEntry, entry_state, entry_words, entry_at, leaf_entry, leaf_hold, waiting_item}
use Rattle.order_laws.specs.TreeModel.Turns.HartTurn.{words_here, change_here, ways_stored, buffer_stored}
use Rattle.order_laws.specs.TreeRules.Bus.Own.{state_waits}
use Rattle.order_laws.specs.TreeRules.Order.Copies.{entry_copies}
use Rattle.bus_laws.proofs.HartFacts.{waiting-none}
use Rattle.bus_laws.proofs.HartChanges.{entry_with, entry-becomes, entry-becomes_other}
use Rattle.order_laws.proofs.Hart.Retiring.{Retires}
use Rattle.order_laws.proofs.Hart.FlatStep.{own_flat, HasFor, AnyState, IsExclusiveState, shared_entry, written_entry, conditional_entry, own_step, goes_on}

-- ---- one item's entry

-- the copy and the hold that the leaf has of it stay
pub record SameHeld (x : ℕ) (v w : LeafValue) : Type 0 where
  pub copies : (place clock : List ℕ) → entry_copies place clock (leaf_entry x w) ≡ entry_copies place clock (leaf_entry x v)
  pub hold : leaf_hold x w ≡ leaf_hold x v

-- they stay, where the effect doesn't change the item; else it is Exclusive, and has the words that the effect leaves
pub record EntryStored (items : ItemTable) (effect : Effect) (x : ℕ) (v w : LeafValue) : Type 0 where
  pub changes : changes_item items x effect ≡ true
  pub entry : LeafEntry
  pub before : leaf_entry x v ≡ Some entry
  pub exclusive : entry.state ≡ LeafState.Exclusive
  pub after : leaf_entry x w ≡ Some (record { state = LeafState.Exclusive; words = stored_by items x entry.words effect })

abbrev pub EntryTurned : ItemTable → Effect → ℕ → LeafValue → LeafValue → Type 0
EntryTurned items effect x v w = ((changes_item items x effect ≡ false) × SameHeld x v w) ⊎ EntryStored items effect x v w

pub same_entry : (x : ℕ) (v w : LeafValue) → leaf_entry x w ≡ leaf_entry x v → SameHeld x v w
unfolding leaf_hold
same_entry x v w e = record { copies = λ place clock. ap (entry_copies place clock) e; hold = ap (λ o. entry_hold (option_map entry_state o)) e }

pub hold_turned : (items : ItemTable) (effect : Effect) (x : ℕ) (v w : LeafValue) → EntryTurned items effect x v w → leaf_hold x w ≡ leaf_hold x v
unfolding leaf_hold
hold_turned items effect x v w (inl h) = h.1.hold
hold_turned items effect x v w (inr h) = rw (h.before, h.after, h.exclusive) refl

-- the leaf has words of it
pub record HasEntry (x : ℕ) (v : LeafValue) : Type 0 where
  pub entry : LeafEntry
  pub at : leaf_entry x v ≡ Some entry
  pub held : is_held (entry_hold (Some entry.state)) ≡ true

pub awake_held : (s : LeafState) → is_waiting s ≡ false → is_held (entry_hold (Some s)) ≡ true
awake_held LeafState.Shared h = refl
awake_held LeafState.Exclusive h = refl
awake_held LeafState.Waiting h = absurd (let wrong : ⊥ = cc in wrong)
awake_held LeafState.Reading h = absurd (let wrong : ⊥ = cc in wrong)
awake_held LeafState.ReadingWaiting h = absurd (let wrong : ⊥ = cc in wrong)

-- where nothing waits, an entry has words
pub awake_entry : (x : ℕ) (v : LeafValue) (e : LeafEntry) → waiting_item v.ways v.buffer ≡ None → leaf_entry x v ≡ Some e → HasEntry x v
awake_entry x v e awake at =
    let waits : state_waits (option_map entry_state (leaf_entry x v)) ≡ false = waiting-none v.ways v.buffer awake x in
    let mine : is_waiting e.state ≡ false = rw at at waits in
    record { entry = e; at = at; held = awake_held e.state mine }

-- ---- the leaf

pub record IsBeside (now : Key) (v : LeafValue) (op : Op) (w : LeafValue) : Type 0 where
  pub key : op.key ≡ now
  pub own : op.hart ≡ v.number
  pub pc : op.pc ≡ v.hart.pc
  pub number : w.number ≡ v.number
  pub done : w.done ≡ v.done + 1
  pub replies : w.replies ≡ v.replies
  pub runs : w.hart.halt ≡ None

pub record LeafTurned (items : ItemTable) (now : Key) (v : LeafValue) (op : Op) (w : LeafValue) : Type 0 where
  pub beside : IsBeside now v op w
  pub reservation : w.reservation ≡ reserved_by_own items v.reservation op.effect
  pub entries : (x : ℕ) → EntryTurned items op.effect x v w
  pub has : (x : ℕ) → on_item items x op.effect ≡ true → HasEntry x v

-- a failed SC is on no word
failed_address : (act : Action) (x : ℕ) (h : HartValue) (words : List ℕ) → ask_by act ≡ Conditional x → effect_address (finish_by act h words false).effect ≡ None
failed_address (Halts cause) x h words e = grind arith
failed_address (Computes after) x h words e = grind arith
failed_address (Puts byte after) x h words e = grind arith
failed_address (Loads op rd a) x h words e = grind arith
failed_address (Stores op v a) x h words e = grind arith
failed_address (Reserves rd a) x h words e = grind arith
failed_address (StoresIfReserved rd v a) x h words e = refl
failed_address (Changes op rd v a) x h words e = grind arith

failed_effect : (code : List CodeWord) (items : ItemTable) (h : HartValue) (x : ℕ) (words : List ℕ) → ask_of code items h ≡ Conditional x → effect_item items (finish_of code items h words false).effect ≡ None
unfolding ask_of finish_of
failed_effect code items h x words e = ap (option_and_then (item_at items)) (failed_address (action_of code items h) x h words e)

stores_nothing : (f : Finished) (r : Option ℕ) (c : Change) (s : Stored) → leaving f r ≡ c → c.stored ≡ Some s → ⊥
stores_nothing f r c s h k = none-some s (ap (λ (c : Change). c.stored) h ∙ k)

stores_there : (x : ℕ) (f : Finished) (r : Option ℕ) (c : Change) (s : Stored) → storing_to x f r ≡ c → c.stored ≡ Some s → x ≡ s.item
stores_there x f r c s h k = ap (λ (t : Stored). t.item) (same_Some _ s (ap (λ (c : Change). c.stored) h ∙ k))

has_is : (r : Option ℕ) (x : ℕ) → has_reserved r x ≡ true → r ≡ Some x
has_is None x h = absurd (let wrong : ⊥ = cc in wrong)
has_is (Some y) x h = ap Some (eqb-true y x h)

module _ (code : List CodeWord) (items : ItemTable) (now : Key) (v : LeafValue) (op : Op) (w : LeafValue) (r : Retires code items now v op w) where
  abbrev makes : Ask → Result Change HaltCause
  makes ask = change_by ask v.reservation (finish_of code items v.hart) (words_here v) true

  made_by : (ask : Ask) → ask_of code items v.hart ≡ ask → makes ask ≡ Ok r.change
  unfolding change_here
  made_by ask asked = ap makes (sym asked) ∙ r.made

  -- what is stored to stands Exclusive
  stored_at : (s : Stored) → r.change.stored ≡ Some s → HasFor IsExclusiveState s.item v
  stored_at s k = go (ask_of code items v.hart) refl where
    go : (ask : Ask) → ask_of code items v.hart ≡ ask → HasFor IsExclusiveState s.item v
    go Plain asked = absurd (stores_nothing (finish_of code items v.hart [] false) v.reservation r.change s (same_change _ r.change (made_by Plain asked)) k)
    go (Put byte) asked = absurd (stores_nothing (finish_of code items v.hart [] false) v.reservation r.change s (same_change _ r.change (made_by (Put byte) asked)) k)
    go (NeedsShared x lr) asked = absurd (stores_nothing (finish_of code items v.hart (words_here v x) false) (if lr then Some x else v.reservation) r.change s (same_change _ r.change (made_by (NeedsShared x lr) asked)) k)
    go (NeedsExclusive x) asked = subst (λ y. HasFor IsExclusiveState y v) (stores_there x (finish_of code items v.hart (words_here v x) false) v.reservation r.change s (same_change _ r.change (made_by (NeedsExclusive x) asked)) k) (written_entry x v (ask_of code items v.hart) asked r.at_hand.met)
    go (Conditional x) asked = by_reserved (has_reserved v.reservation x) refl (same_change _ r.change (made_by (Conditional x) asked)) where
      by_reserved : (t : Bool) → has_reserved v.reservation x ≡ t → conditional t x (finish_of code items v.hart (words_here v x)) ≡ r.change → HasFor IsExclusiveState s.item v
      by_reserved true i h = subst (λ y. HasFor IsExclusiveState y v) (stores_there x (finish_of code items v.hart (words_here v x) true) None r.change s h k) (conditional_entry x v (ask_of code items v.hart) asked i r.at_hand.met)
      by_reserved false i h = absurd (stores_nothing (finish_of code items v.hart (words_here v x) false) None r.change s h k)
    go (Halt cause) asked = absurd (let e : makes (Halt cause) ≡ Ok r.change = made_by (Halt cause) asked in let wrong : ⊥ = cc in wrong)

  is_beside : IsBeside now v op w
  is_beside = record {
    key = ap (λ (o : Op). o.key) r.op_is;
    own = ap (λ (o : Op). o.hart) r.op_is;
    pc = ap (λ (o : Op). o.pc) r.op_is;
    number = ap (λ (u : LeafValue). u.number) r.leaf_is;
    done = ap (λ (u : LeafValue). u.done) r.leaf_is;
    replies = ap (λ (u : LeafValue). u.replies) r.leaf_is;
    runs = ap (λ (u : LeafValue). u.hart.halt) r.leaf_is ∙ goes_on code items now v op w r;
  }

  effect_is : op.effect ≡ r.change.effect
  effect_is = ap (λ (o : Op). o.effect) r.op_is

  -- the entries, by what is stored
  entry_is : (x : ℕ) → leaf_entry x w ≡ entry_at x (ways_stored r.change.stored v.ways) (buffer_stored r.change.stored v.ways v.buffer)
  entry_is x = ap (leaf_entry x) r.leaf_is

  module _ (whole : HasWholeWords items) where
    changes : (x : ℕ) (o : Option Stored) → r.change.stored ≡ o → changes_item items x op.effect ≡ has_reserved (stored_item o) x
    changes x o is = ap (changes_item items x) effect_is ∙ changes_is items x r.change.effect ∙ ap (λ k. has_reserved k x) (changed_is code items (own_flat v) (words_here v) true r.change whole (own_step code items now v op w r) ∙ ap stored_item is)

    entry_stored : (x : ℕ) (o : Option Stored) → r.change.stored ≡ o → leaf_entry x w ≡ entry_at x (ways_stored o v.ways) (buffer_stored o v.ways v.buffer) → EntryTurned items op.effect x v w
    entry_stored x None is e = inl (changes x None is, same_entry x v w e)
    entry_stored x (Some s) is e = at (nat_eq s.item x) refl where
      h : HasFor IsExclusiveState s.item v
      h = stored_at s is

      words : s.words ≡ stored_by items s.item h.entry.words op.effect
      words = step_stores code items (own_flat v) (words_here v) true r.change whole (own_step code items now v op w r) s is ∙ ap (stored_by items s.item (words_here v s.item)) (sym effect_is) ∙ ap (λ o. stored_by items s.item (entry_words o) op.effect) h.at

      here : (y : ℕ) → s.item ≡ y → leaf_entry y w ≡ entry_at y (ways_stored (Some s) v.ways) (buffer_stored (Some s) v.ways v.buffer) → EntryStored items op.effect y v w
      here y same f = subst (λ z. leaf_entry z w ≡ entry_at z (ways_stored (Some s) v.ways) (buffer_stored (Some s) v.ways v.buffer) → EntryStored items op.effect z v w) same (λ g. record {
        changes = changes s.item (Some s) is ∙ eq-eqb s.item s.item refl;
        entry = h.entry;
        before = h.at;
        exclusive = h.state;
        after = g ∙ entry-becomes s.item LeafState.Exclusive s.words v.ways v.buffer ∙ ap (option_map (entry_with LeafState.Exclusive s.words)) h.at ∙ ap (λ q. let k : LeafEntry = record { state = LeafState.Exclusive; words = q } in Some k) words;
      }) f

      at : (t : Bool) → nat_eq s.item x ≡ t → EntryTurned items op.effect x v w
      at true j = inr (here x (eqb-true s.item x j) e)
      at false j = inl (changes x (Some s) is ∙ j, same_entry x v w (e ∙ entry-becomes_other s.item LeafState.Exclusive s.words v.ways v.buffer x (λ k. eqb-false s.item x j (sym k))))

    -- an effect on an item is that of an instruction that asks for it
    asked_entry : (x : ℕ) → effect_item items r.change.effect ≡ Some x → (ask : Ask) → ask_of code items v.hart ≡ ask → asked_item ask ≡ Some x → HasEntry x v
    asked_entry x on Plain asked k = absurd (none-some x k)
    asked_entry x on (Put byte) asked k = absurd (none-some x k)
    asked_entry x on (NeedsShared y lr) asked k =
        let h : HasFor AnyState y v = shared_entry y lr v (ask_of code items v.hart) asked r.at_hand.met in
        subst (λ z. HasEntry z v) (same_Some y x k) (awake_entry y v h.entry r.at_hand.awake h.at)
    asked_entry x on (NeedsExclusive y) asked k =
        let h : HasFor IsExclusiveState y v = written_entry y v (ask_of code items v.hart) asked r.at_hand.met in
        subst (λ z. HasEntry z v) (same_Some y x k) (awake_entry y v h.entry r.at_hand.awake h.at)
    asked_entry x on (Conditional y) asked k = go (has_reserved v.reservation y) refl (same_change _ r.change (made_by (Conditional y) asked)) where
      go : (t : Bool) → has_reserved v.reservation y ≡ t → conditional t y (finish_of code items v.hart (words_here v y)) ≡ r.change → HasEntry x v
      go true i h =
          let f : HasFor IsExclusiveState y v = conditional_entry y v (ask_of code items v.hart) asked i r.at_hand.met in
          subst (λ z. HasEntry z v) (same_Some y x k) (awake_entry y v f.entry r.at_hand.awake f.at)
      go false i h = absurd (none-some x (sym (failed_effect code items v.hart y (words_here v y) asked) ∙ ap (λ (c : Change). effect_item items c.effect) h ∙ on))
    asked_entry x on (Halt cause) asked k = absurd (none-some x k)

    pub leaf_turned : LeafTurned items now v op w
    unfolding on_item
    leaf_turned = record {
      beside = is_beside;
      reservation = ap (λ (u : LeafValue). u.reservation) r.leaf_is ∙ step_reserves code items (own_flat v) (words_here v) true r.change whole (own_step code items now v op w r) ∙ ap (reserved_by_own items v.reservation) (sym effect_is);
      entries = λ x. entry_stored x r.change.stored refl (entry_is x);
      has = λ x on. by_follow x (ap (effect_item items) (sym effect_is) ∙ has_is (effect_item items op.effect) x on) (step_follows code items (own_flat v) (words_here v) true r.change whole (own_step code items now v op w r));
    } where
      by_follow : (x : ℕ) → effect_item items r.change.effect ≡ Some x → FollowsAsk items (ask_of code items v.hart) r.change → HasEntry x v
      by_follow x i (f, inl k) = asked_entry x i (ask_of code items v.hart) refl (sym k ∙ i)
      by_follow x i (f, inr k) = absurd (none-some x (sym k.2 ∙ i))
