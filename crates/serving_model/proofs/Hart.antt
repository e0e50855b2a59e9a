-- A hart of a leaf at rest, with room: where its turn issues a request, the leaf asks for the item, and all else of it
-- is as before.
-- Letters: n is how many items there are, x the item, v a leaf, o what stands in a way.
use Rattle.std.proofs.Common.{◌≡◌, ℕ, ◌*◌, ◌<◌, ◌≤◌, Bool, true, false, List, [], ◌∷◌, ◌++◌, length, Option, Some, None, Result, Ok, Err, refl, sym, ap, subst, ◌∙◌, arith, get_or-set_same, get_or-set_other}
use Rattle.std.specs.Prelude.{nat_le, is_none, find, if◌then◌else◌}
use Rattle.std.specs.List.{range_with_len}
use Rattle.std.proofs.lemmas.Bool.{and_parts, true≢false}
use Rattle.std.proofs.lemmas.Bool.Decides.{nat_tests}
use Rattle.serving_model.specs.DdmTypes.CodeMap.{CodeWord}
use Rattle.serving_model.specs.DdmTypes.ItemTable.{ItemTable, item_count}
use Rattle.serving_model.specs.DdmTypes.declared.answers.TurnAnswer.{TurnAnswer}
use Rattle.serving_model.specs.DdmTypes.declared.answers.TxKind.{TxKind}
use Rattle.serving_model.specs.DdmTypes.declared.answers.TxKind.TheVariants.{ReadTx, EraseTx}
use Rattle.serving_model.specs.DdmTypes.declared.keys.Key.{Key}
use Rattle.serving_model.specs.DdmTypes.declared.operations.HaltCause.{HaltCause}
use Rattle.serving_model.specs.DdmTypes.declared.sizes.LeafState.{LeafState}
use Rattle.bus_laws.specs.FlatModel.declared.Ask.{Ask}
use Rattle.bus_laws.specs.FlatModel.Hart.{ask_of}
use Rattle.bus_laws.specs.FlatModel.Flat.{Change, asked_item, has_reserved, FlatHart}
use Rattle.bus_laws.proofs.FlatModel.Items.{asks_inside}
use Rattle.serving_model.specs.TreeModel.State.States.{is_reading}
use Rattle.serving_model.specs.TreeModel.State.Values.{WayValue, LeafSizes, LeafValue, leaf_node}
use Rattle.serving_model.specs.TreeModel.State.Leaf.{blank, way_at, way_entry, entry_at, leaf_entry, item_in_way, free_way, waiting_item}
use Rattle.serving_model.specs.TreeModel.Turns.HartTurn.{Deed, fetches, upgrades, Need, no_need, a_copy, no_other_copy, time, need_to_read, need_in_state, need_to_write, need_of, change_here, deed_of_change, deed_to_fetch, deed_by_need, deed_unless_waiting, deed_unless_halted, deed_of, answer_of_deed, leaf_after_deed, leaf_step}
use Rattle.serving_model.specs.TreeRules.Bus.Own.{IsLeafOk}
use Rattle.serving_model.specs.Rest.{way_rests}
use Rattle.serving_model.specs.Parts.{FlatView, Settled}
use Rattle.serving_model.specs.OneLeaf.{leaf_hart, LeafIs}
use Rattle.bus_laws.proofs.HartFacts.{entries-from_rules, way-within}
use Rattle.serving_model.proofs.Lists.{pass-at}
use Rattle.serving_model.proofs.Settled.{LeafRests, leaf-rests}
use Rattle.serving_model.proofs.Give.{have-set}
use Rattle.serving_model.proofs.FreeWay.{some-free}
use Rattle.serving_model.proofs.Wants.{to_read, to_write, to_write_reserved, Wants, finally}

module _ (code : List CodeWord) (items : ItemTable) (n : ℕ) (flat : FlatView) (g : FlatHart) where
  -- the leaf asks for the item: to read it, or to erase all other copies
  pub data Issue (u : LeafValue) (kind : TxKind) (x : ℕ) : Type 0 where
    reads_it : (state : LeafState) → is_reading state ≡ true → kind ≡ ReadTx → x < n → Wants code items g x (finally state) → LeafIs n flat g x state (Some (record { kind = ReadTx; item = x })) u → Issue u kind x
    erases_it : kind ≡ EraseTx → x < n → Wants code items g x LeafState.Exclusive → LeafIs n flat g x LeafState.Waiting (Some (record { kind = EraseTx; item = x })) u → Issue u kind x

-- a way that is found free has no item in it
free-empty : (sizes : LeafSizes) (x way : ℕ) (ways : List (Option WayValue)) → free_way sizes x ways ≡ Some way → item_in_way sizes.sets x way ways ≡ None
unfolding free_way
free-empty sizes x way ways found = none-there (item_in_way sizes.sets x way ways) (passes (range_with_len 0 sizes.way_count) found) where
  none-there : (o : Option ℕ) → is_none o ≡ true → o ≡ None
  none-there None e = refl
  none-there (Some y) e = absurd (true≢false (sym e))

  passes : (ws : List ℕ) → find (λ way. is_none (item_in_way sizes.sets x way ways)) ws ≡ Some way → is_none (item_in_way sizes.sets x way ways) ≡ true
  passes [] e = cc
  passes (a ∷ ws) e = at (is_none (item_in_way sizes.sets x a ways)) refl e (λ rest. passes ws rest) where
    at : (b : Bool) → is_none (item_in_way sizes.sets x a ways) ≡ b → (if b then Some a else find (λ way. is_none (item_in_way sizes.sets x way ways)) ws) ≡ Some way → (find (λ way. is_none (item_in_way sizes.sets x way ways)) ws ≡ Some way → is_none (item_in_way sizes.sets x way ways) ≡ true) → is_none (item_in_way sizes.sets x way ways) ≡ true
    at true is e rest =
        let same : a ≡ way = cc in
        subst (λ i. is_none (item_in_way sizes.sets x i ways) ≡ true) same is
    at false is e rest = rest e

module _ (code : List CodeWord) (items : ItemTable) (flat : FlatView) (v : LeafValue) (ok : IsLeafOk (item_count items) v) (settled : Settled (item_count items) flat (leaf_node v)) where
  abbrev n : ℕ
  n = item_count items

  -- the hart before its turn
  abbrev pub own : FlatHart
  own = leaf_hart v

  r : LeafRests v
  r = leaf-rests v settled.rests

  places : n ≤ v.sizes.sets * v.sizes.way_count
  places = le-fact n (v.sizes.sets * v.sizes.way_count) (and_parts (nat_le n (v.sizes.sets * v.sizes.way_count)) _ settled.room).0 where
    le-fact : (a b : ℕ) → nat_le a b ≡ true → a ≤ b
    le-fact a b h = grind (arith, nat_tests)

  -- ---- what an instruction needs

  abbrev NeedIs : Need → Type 0
  NeedIs no_need = Unit {0}
  NeedIs (a_copy x state) = (x < n) × (way_at x v.ways ≡ None) × (is_reading state ≡ true) × Wants code items own x (finally state)
  NeedIs (no_other_copy x ws) = (x < n) × Wants code items own x LeafState.Exclusive × ((e : WayValue) × (way_at x v.ways ≡ Some e) × (e.state ≡ LeafState.Shared) × (ws ≡ e.words))
  NeedIs (time x) = Unit {0}

  entry-none : (x : ℕ) → way_at x v.ways ≡ None → leaf_entry x v ≡ None
  unfolding entry_at
  entry-none x none = rw (none, r.buffer) refl

  entry-some : (x : ℕ) (e : WayValue) → way_at x v.ways ≡ Some e → leaf_entry x v ≡ Some (way_entry e)
  unfolding entry_at
  entry-some x e here = rw here refl

  to-read : (x : ℕ) → x < n → Wants code items own x LeafState.Shared → NeedIs (need_to_read x (leaf_entry x v))
  to-read x known wants = at (way_at x v.ways) refl where
    at : (o : Option WayValue) → way_at x v.ways ≡ o → NeedIs (need_to_read x (leaf_entry x v))
    at None none = subst (λ o. NeedIs (need_to_read x o)) (sym (entry-none x none)) (known, none, refl, wants)
    at (Some e) here = subst (λ o. NeedIs (need_to_read x o)) (sym (entry-some x e here)) tt

  to-write : (x : ℕ) → x < n → Wants code items own x LeafState.Exclusive → NeedIs (need_to_write x (leaf_entry x v))
  to-write x known wants = at (way_at x v.ways) refl where
    by : (e : WayValue) (s : LeafState) → way_at x v.ways ≡ Some e → e.state ≡ s → NeedIs (need_in_state x e.words s)
    by e LeafState.Shared here is = (known, wants, (e, here, is, refl))
    by e LeafState.Exclusive here is = tt
    by e LeafState.Waiting here is = tt
    by e LeafState.Reading here is = tt
    by e LeafState.ReadingWaiting here is = tt

    at : (o : Option WayValue) → way_at x v.ways ≡ o → NeedIs (need_to_write x (leaf_entry x v))
    at None none = subst (λ o. NeedIs (need_to_write x o)) (sym (entry-none x none)) (known, none, refl, wants)
    at (Some e) here = subst (λ o. NeedIs (need_to_write x o)) (sym (entry-some x e here)) (by e e.state here refl)

  need-is : v.hart.halt ≡ None → (ask : Ask) → ask_of code items v.hart ≡ ask → NeedIs (need_of ask v)
  need-is running Ask.Plain is = tt
  need-is running (Ask.Put byte) is = tt
  need-is running (Ask.NeedsShared x lr) is = to-read x (asks_inside code items v.hart x (ap asked_item is)) (record { running = running; asks = to_read lr is })
  need-is running (Ask.NeedsExclusive x) is = to-write x (asks_inside code items v.hart x (ap asked_item is)) (record { running = running; asks = to_write is })
  need-is running (Ask.Conditional x) is = at (has_reserved v.reservation x) refl where
    at : (b : Bool) → has_reserved v.reservation x ≡ b → NeedIs (if b then need_to_write x (leaf_entry x v) else no_need)
    at true has = to-write x (asks_inside code items v.hart x (ap asked_item is)) (record { running = running; asks = to_write_reserved is has })
    at false has = tt
  need-is running (Ask.Halt cause) is = tt

  -- ---- what is issued

  module _ (now : Key) (victim : ℕ) (kind : TxKind) (x : ℕ) where
    abbrev Issues : Deed → Type 0
    Issues deed = answer_of_deed now v deed ≡ TurnAnswer.Issued kind x → Issue code items n flat own (leaf_after_deed v deed) kind x

    of-change : (c : Result Change HaltCause) → Issues (deed_of_change c)
    of-change (Ok c) e = cc
    of-change (Err cause) e = cc

    of-fetch : (y : ℕ) (state : LeafState) → y < n → way_at y v.ways ≡ None → is_reading state ≡ true → Wants code items own y (finally state) → (o : Option ℕ) → free_way v.sizes y v.ways ≡ o → Issues (deed_to_fetch y state victim v o)
    of-fetch y state known none reads wants None found e = absurd (true≢false (sym (some-free n y v known ok places none None found)))
    of-fetch y state known none reads wants (Some way) found e =
        let kinds : ReadTx ≡ kind = cc in
        let same : y ≡ x = cc in
        let free : item_in_way v.sizes.sets y way v.ways ≡ None = free-empty v.sizes y way v.ways found in
        let there : y < length v.ways = subst (λ k. y < k) (sym (entries-from_rules n v ok).count) known in
        let new : WayValue = record { way = way; state = state; words = blank v.sizes.width } in
        let made : LeafIs n flat own y state (Some (record { kind = ReadTx; item = y })) (leaf_after_deed v (fetches y state way)) = rw free (record {
          entry = new;
          here = get_or-set_same v.ways y (Some new) None there;
          in_state = refl;
          others = λ z ne. ap way_rests (get_or-set_other v.ways y z (Some new) None ne) ∙ pass-at way_rests None refl v.ways r.ways z;
          buffer = ap (λ l. l ++ []) r.buffer;
          slot = refl;
          replies = r.replies;
          copies = have-set flat v.ways y new settled.copies there (λ not. absurd (true≢false (sym reads ∙ not)));
          room = settled.room;
          hart = refl;
          reserved = refl;
        }) in
        subst (λ z. Issue code items n flat own (leaf_after_deed v (fetches y state way)) kind z) same (reads_it state reads (sym kinds) known wants made)

    of-upgrade : (y : ℕ) (ws : List ℕ) → y < n → Wants code items own y LeafState.Exclusive → (e : WayValue) → way_at y v.ways ≡ Some e → e.state ≡ LeafState.Shared → ws ≡ e.words → Issues (upgrades y ws)
    of-upgrade y ws known wants e here shared right h =
        let kinds : EraseTx ≡ kind = cc in
        let same : y ≡ x = cc in
        let there : y < length v.ways = way-within y v.ways e here in
        let new : WayValue = record e { state = LeafState.Waiting; words = ws } in
        let good : ws ≡ flat.words y = right ∙ settled.copies.each y e here (ap is_reading shared) in
        let made : LeafIs n flat own y LeafState.Waiting (Some (record { kind = EraseTx; item = y })) (leaf_after_deed v (upgrades y ws)) = rw (here, r.buffer) (record {
          entry = new;
          here = get_or-set_same v.ways y (Some new) None there;
          in_state = refl;
          others = λ z ne. ap way_rests (get_or-set_other v.ways y z (Some new) None ne) ∙ pass-at way_rests None refl v.ways r.ways z;
          buffer = refl;
          slot = refl;
          replies = r.replies;
          copies = have-set flat v.ways y new settled.copies there (λ not. good);
          room = settled.room;
          hart = refl;
          reserved = refl;
        }) in
        subst (λ z. Issue code items n flat own (leaf_after_deed v (upgrades y ws)) kind z) same (erases_it (sym kinds) known wants made)

    of-need : (need : Need) → NeedIs need → Issues (deed_by_need code items victim v need)
    of-need no_need is e = of-change (change_here code items v) e
    of-need (a_copy y state) is e = of-fetch y state is.0 is.1 is.2 is.3 (free_way v.sizes y v.ways) refl e
    of-need (no_other_copy y ws) is e = of-upgrade y ws is.0 is.1 is.2.0 is.2.1 is.2.2 is.2.3 e
    of-need (time y) is e = cc

    of-waiting : v.hart.halt ≡ None → (o : Option ℕ) → Issues (deed_unless_waiting code items victim v o)
    of-waiting running (Some y) e = cc
    of-waiting running None e = of-need (need_of (ask_of code items v.hart) v) (need-is running (ask_of code items v.hart) refl) e

    of-halted : (o : Option HaltCause) → v.hart.halt ≡ o → Issues (deed_unless_halted code items victim v o)
    of-halted (Some cause) is e = cc
    of-halted None is e = of-waiting is (waiting_item v.ways v.buffer) e

    pub leaf-issues : (leaf_step code items now victim v).answer ≡ TurnAnswer.Issued kind x → Issue code items n flat own (leaf_step code items now victim v).leaf kind x
    unfolding leaf_step deed_of
    leaf-issues e = of-halted v.hart.halt refl e
