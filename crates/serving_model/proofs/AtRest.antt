-- A hart's turn at a leaf at rest, with room: where its step on the flat memory completes, the turn completes it or
-- issues a request.
-- Letters: n is how many items there are, x an item, v a leaf, c the change of the step.
use Rattle.std.proofs.Common.{◌≡◌, ℕ, ◌*◌, ◌<◌, ◌≤◌, Bool, true, false, List, Option, Some, None, Result, Ok, Err, refl, sym, ap, subst, ◌∙◌, arith}
use Rattle.std.specs.Prelude.{nat_eq, is_some, nat_le, if◌then◌else◌}
use Rattle.std.proofs.lemmas.Bool.{and_parts, true≢false}
use Rattle.std.proofs.lemmas.Bool.Decides.{nat_tests}
use Rattle.serving_model.specs.DdmTypes.CodeMap.{CodeWord}
use Rattle.serving_model.specs.DdmTypes.ItemTable.{ItemTable, item_count}
use Rattle.serving_model.specs.DdmTypes.declared.answers.TurnAnswer.{TurnAnswer}
use Rattle.serving_model.specs.DdmTypes.declared.answers.TxKind.{TxKind}
use Rattle.serving_model.specs.DdmTypes.declared.answers.TxKind.TheVariants.{ReadTx, EraseTx}
use Rattle.serving_model.specs.DdmTypes.declared.keys.Key.{Key}
use Rattle.serving_model.specs.DdmTypes.declared.operations.HaltCause.{HaltCause}
use Rattle.serving_model.specs.DdmTypes.declared.sizes.LeafState.{LeafState}
use Rattle.bus_laws.specs.FlatModel.declared.Ask.{Ask}
use Rattle.bus_laws.specs.FlatModel.Hart.{Finished, ask_of, finish_of}
use Rattle.bus_laws.specs.FlatModel.Flat.{Stored, Change, conditional, change_by, unless_halted, asked_item, has_reserved, reserved_by_ask, hart_step}
use Rattle.bus_laws.proofs.FlatModel.Items.{asks_inside}
use Rattle.bus_laws.proofs.FlatModel.Steps.{step_reads, step_leaves, finish_failing}
use Rattle.serving_model.specs.TreeModel.State.States.{is_reading, may_leave}
use Rattle.serving_model.specs.TreeModel.State.Values.{WayValue, LeafValue, leaf_node}
use Rattle.serving_model.specs.TreeModel.State.Leaf.{way_at, way_entry, entry_at, leaf_entry, free_way}
use Rattle.serving_model.specs.TreeModel.Turns.HartTurn.{completes, Need, no_need, a_copy, need_to_read, need_in_state, need_to_write, need_of, words_here, change_here, deed_of_change, deed_to_fetch, deed_by_need, deed_unless_waiting, deed_unless_halted, deed_of, answer_of_deed}
use Rattle.serving_model.specs.TreeRules.Bus.Own.{IsLeafOk}
use Rattle.serving_model.specs.Rest.{way_rests}
use Rattle.serving_model.specs.Parts.{FlatView, Settled}
use Rattle.serving_model.specs.OneLeaf.{leaf_hart}
use Rattle.serving_model.proofs.Lists.{pass-at}
use Rattle.serving_model.proofs.Settled.{LeafRests, leaf-rests}
use Rattle.serving_model.proofs.FreeWay.{some-free}
use Rattle.serving_model.proofs.Completing.{nothing-waits}

module _ (code : List CodeWord) (items : ItemTable) (flat : FlatView) (v : LeafValue) (ok : IsLeafOk (item_count items) v) (settled : Settled (item_count items) flat (leaf_node v)) (c : Change) (step : hart_step code items (leaf_hart v) flat.words true ≡ Ok c) (victim : ℕ) where
  abbrev n : ℕ
  n = item_count items

  abbrev ask : Ask
  ask = ask_of code items v.hart

  r : LeafRests v
  r = leaf-rests v settled.rests

  places : n ≤ v.sizes.sets * v.sizes.way_count
  places = le-fact n (v.sizes.sets * v.sizes.way_count) (and_parts (nat_le n (v.sizes.sets * v.sizes.way_count)) _ settled.room).0 where
    le-fact : (a b : ℕ) → nat_le a b ≡ true → a ≤ b
    le-fact a b h = grind (arith, nat_tests)

  -- the leaf has the item Exclusive
  pub record Has (x : ℕ) : Type 0 where
    pub entry : WayValue
    pub there : way_at x v.ways ≡ Some entry
    pub exclusive : entry.state ≡ LeafState.Exclusive

  pub data Does : Type 0 where
    retires : deed_of code items victim v ≡ completes c → ((s : Stored) → c.stored ≡ Some s → Has s.item) → ((y : ℕ) → has_reserved c.after.reserved y ≡ true → is_some (way_at y v.ways) ≡ true) → Does
    issues : (kind : TxKind) (x : ℕ) → ((now : Key) → answer_of_deed now v (deed_of code items victim v) ≡ TurnAnswer.Issued kind x) → Does

  -- ---- not halted, and nothing waits

  running : v.hart.halt ≡ None
  unfolding hart_step
  running = at v.hart.halt refl step where
    at : (o : Option HaltCause) → v.hart.halt ≡ o → unless_halted o (change_by ask v.reservation (finish_of code items v.hart) flat.words true) ≡ Ok c → v.hart.halt ≡ None
    at None is e = is
    at (Some cause) is e = cc

  flat-change : change_by ask v.reservation (finish_of code items v.hart) flat.words true ≡ Ok c
  unfolding hart_step
  flat-change = ap (λ o. unless_halted o (change_by ask v.reservation (finish_of code items v.hart) flat.words true)) (sym running) ∙ step

  deed-is : (need : Need) → need_of ask v ≡ need → deed_of code items victim v ≡ deed_by_need code items victim v need
  unfolding deed_of
  deed-is need is = ap (deed_unless_halted code items victim v) running ∙ (ap (deed_unless_waiting code items victim v) (nothing-waits v r) ∙ ap (deed_by_need code items victim v) is)

  -- ---- the words here

  way-rests : (x : ℕ) → way_rests (way_at x v.ways) ≡ true
  way-rests x = pass-at way_rests None refl v.ways r.ways x

  entry-some : (x : ℕ) (e : WayValue) → way_at x v.ways ≡ Some e → leaf_entry x v ≡ Some (way_entry e)
  unfolding entry_at
  entry-some x e there = rw there refl

  entry-none : (x : ℕ) → way_at x v.ways ≡ None → leaf_entry x v ≡ None
  unfolding entry_at
  entry-none x none = rw (none, r.buffer) refl

  may-leave : (x : ℕ) (e : WayValue) → way_at x v.ways ≡ Some e → may_leave e.state ≡ true
  may-leave x e there = subst (λ o. way_rests o ≡ true) there (way-rests x)

  words-here : (x : ℕ) (e : WayValue) → way_at x v.ways ≡ Some e → words_here v x ≡ flat.words x
  words-here x e there = rw (entry-some x e there) (settled.copies.each x e there (read-done e.state (may-leave x e there))) where
    read-done : (s : LeafState) → may_leave s ≡ true → is_reading s ≡ false
    read-done LeafState.Shared h = refl
    read-done LeafState.Exclusive h = refl
    read-done LeafState.Waiting h = cc
    read-done LeafState.Reading h = cc
    read-done LeafState.ReadingWaiting h = cc

  -- ---- the reservation afterwards

  abbrev IsHere : Option ℕ → Type 0
  IsHere reserved = (y : ℕ) → has_reserved reserved y ≡ true → is_some (way_at y v.ways) ≡ true

  after-here : IsHere (reserved_by_ask ask v.reservation) → IsHere c.after.reserved
  after-here here = subst IsHere (sym (step_leaves code items (leaf_hart v) flat.words true c step).0) here

  by-ask : (a : Ask) → ask ≡ a → IsHere (reserved_by_ask a v.reservation) → IsHere c.after.reserved
  by-ask a is here = after-here (subst (λ b. IsHere (reserved_by_ask b v.reservation)) (sym is) here)

  none-here : IsHere None
  none-here y has = cc

  -- ---- what is done

  retire : need_of ask v ≡ no_need → ((x : ℕ) → asked_item ask ≡ Some x → words_here v x ≡ flat.words x) → ((s : Stored) → c.stored ≡ Some s → Has s.item) → IsHere c.after.reserved → Does
  unfolding hart_step change_here
  retire need same stored kept =
      let whole : hart_step code items (leaf_hart v) (words_here v) true ≡ Ok c = step_reads code items (leaf_hart v) (words_here v) flat.words true same ∙ step in
      let here : change_here code items v ≡ Ok c = ap (λ o. unless_halted o (change_by ask v.reservation (finish_of code items v.hart) (words_here v) true)) (sym running) ∙ whole in
      retires (deed-is no_need need ∙ ap deed_of_change here) stored kept

  fetch : (x : ℕ) (state : LeafState) → x < n → way_at x v.ways ≡ None → need_of ask v ≡ a_copy x state → Does
  fetch x state known none need = at (free_way v.sizes x v.ways) refl where
    at : (o : Option ℕ) → free_way v.sizes x v.ways ≡ o → Does
    at None found = absurd (true≢false (sym (some-free n x v known ok places none None found)))
    at (Some way) found = issues ReadTx x (λ now. ap (answer_of_deed now v) (deed-is (a_copy x state) need ∙ ap (deed_to_fetch x state victim v) found))

  known : (x : ℕ) → asked_item ask ≡ Some x → x < n
  known x is = asks_inside code items v.hart x is

  one-item : (x y : ℕ) (e : WayValue) → way_at x v.ways ≡ Some e → asked_item ask ≡ Some x → asked_item ask ≡ Some y → words_here v y ≡ flat.words y
  one-item x y e there is other = subst (λ z. words_here v z ≡ flat.words z) (let same : x ≡ y = one (sym is ∙ other) in same) (words-here x e there) where
    one : {a b : ℕ} → Some a ≡ Some b → a ≡ b
    one h = cc

  to-write : (x : ℕ) → asked_item ask ≡ Some x → need_of ask v ≡ need_to_write x (leaf_entry x v) → IsHere c.after.reserved → Does
  to-write x is need kept = at (way_at x v.ways) refl where
    by : (e : WayValue) (s : LeafState) → way_at x v.ways ≡ Some e → e.state ≡ s → need_of ask v ≡ need_in_state x e.words s → Does
    by e LeafState.Exclusive there in_state need = retire need (λ y other. one-item x y e there is other) (λ s stored. subst Has (one (sym is ∙ (step_leaves code items (leaf_hart v) flat.words true c step).1 s stored)) (record { entry = e; there = there; exclusive = in_state })) kept where
      one : {a b : ℕ} → Some a ≡ Some b → a ≡ b
      one h = cc
    by e LeafState.Shared there in_state need = issues EraseTx x (λ now. ap (answer_of_deed now v) (deed-is _ need))
    by e LeafState.Waiting there in_state need = absurd (true≢false (sym (may-leave x e there) ∙ ap may_leave in_state))
    by e LeafState.Reading there in_state need = absurd (true≢false (sym (may-leave x e there) ∙ ap may_leave in_state))
    by e LeafState.ReadingWaiting there in_state need = absurd (true≢false (sym (may-leave x e there) ∙ ap may_leave in_state))

    at : (o : Option WayValue) → way_at x v.ways ≡ o → Does
    at None none = fetch x LeafState.ReadingWaiting (known x is) none (need ∙ ap (need_to_write x) (entry-none x none))
    at (Some e) there = by e e.state there refl (need ∙ ap (need_to_write x) (entry-some x e there))

  stored-of : Result Change HaltCause → Option Stored
  stored-of (Ok d) = d.stored
  stored-of (Err cause) = None

  none-stored : (s : Stored) → None ≡ Some s → Has s.item
  none-stored s h = cc

  to-read : (x : ℕ) (lr : Bool) → ask ≡ Ask.NeedsShared x lr → Does
  unfolding stored-of
  to-read x lr is = at (way_at x v.ways) refl where
    need : need_of ask v ≡ need_to_read x (leaf_entry x v)
    need = ap (λ a. need_of a v) is

    change : change_by (Ask.NeedsShared x lr) v.reservation (finish_of code items v.hart) flat.words true ≡ Ok c
    change = subst (λ a. change_by a v.reservation (finish_of code items v.hart) flat.words true ≡ Ok c) is flat-change

    at : (o : Option WayValue) → way_at x v.ways ≡ o → Does
    at None none = fetch x LeafState.Reading (known x (ap asked_item is)) none (need ∙ ap (need_to_read x) (entry-none x none))
    at (Some e) there = retire (need ∙ ap (need_to_read x) (entry-some x e there)) (λ y other. one-item x y e there (ap asked_item is) other) (λ s stored. none-stored s (ap stored-of change ∙ stored)) (by-ask (Ask.NeedsShared x lr) is (reserves lr e there)) where
      same-item : (a b : ℕ) → nat_eq a b ≡ true → a ≡ b
      same-item a b e = grind (arith, nat_tests)

      reserves : (lr : Bool) (e : WayValue) → way_at x v.ways ≡ Some e → IsHere (if lr then Some x else v.reservation)
      reserves true e there y has = subst (λ z. is_some (way_at z v.ways) ≡ true) (same-item x y has) (ap is_some there)
      reserves false e there y has = settled.copies.here y has

  failing : (x : ℕ) → ask ≡ Ask.Conditional x → has_reserved v.reservation x ≡ false → Does
  unfolding change_here
  failing x is none =
      let need : need_of ask v ≡ no_need = rw (is, none) refl in
      let finish : List ℕ → Bool → Finished = finish_of code items v.hart in
      let flat-so : change_by ask v.reservation finish flat.words true ≡ Ok (conditional false x (finish (flat.words x))) = rw (is, none) refl in
      let here-so : change_here code items v ≡ Ok (conditional false x (finish (words_here v x))) = rw (is, none) refl in
      let same = finish_failing code items v.hart x is (words_here v x) (flat.words x) in
      let change : conditional false x (finish (words_here v x)) ≡ conditional false x (finish (flat.words x)) = like (finish (words_here v x) false) (finish (flat.words x) false) same.0 same.1 in
      let is-c : conditional false x (finish (flat.words x)) ≡ c = one (sym flat-so ∙ flat-change) in
      retires (deed-is no_need need ∙ ap deed_of_change (here-so ∙ ap (λ (d : Change). Ok d) (change ∙ is-c))) (λ s stored. none-stored s (ap (λ (d : Change). d.stored) is-c ∙ stored)) (by-ask (Ask.Conditional x) is none-here)
    where
      like : (f g : Finished) → f.effect ≡ g.effect → f.hart ≡ g.hart → conditional false x (λ b. f) ≡ conditional false x (λ b. g)
      like f g effect hart = rw (effect, hart) refl

      one : {a b : Change} → (let r : Result Change HaltCause = Ok a in r ≡ Ok b) → a ≡ b
      one h = cc

  plain : need_of ask v ≡ no_need → asked_item ask ≡ None → IsHere c.after.reserved → Does
  plain need none kept = retire need (λ x is. absurd (apart (sym none ∙ is))) (λ s stored. absurd (apart (sym none ∙ (step_leaves code items (leaf_hart v) flat.words true c step).1 s stored))) kept where
    apart : {x : ℕ} → None ≡ Some x → ⊥
    apart h = cc

  pub does : Does
  does = by ask refl where
    by : (a : Ask) → ask ≡ a → Does
    by Ask.Plain is = plain (ap (λ a. need_of a v) is) (ap asked_item is) (by-ask Ask.Plain is settled.copies.here)
    by (Ask.Put byte) is = plain (ap (λ a. need_of a v) is) (ap asked_item is) (by-ask (Ask.Put byte) is settled.copies.here)
    by (Ask.NeedsShared x lr) is = to-read x lr is
    by (Ask.NeedsExclusive x) is = to-write x (ap asked_item is) (ap (λ a. need_of a v) is) (by-ask (Ask.NeedsExclusive x) is settled.copies.here)
    by (Ask.Conditional x) is = at (has_reserved v.reservation x) refl where
      at : (b : Bool) → has_reserved v.reservation x ≡ b → Does
      at true has = to-write x (ap asked_item is) (rw (is, has) refl) (by-ask (Ask.Conditional x) is none-here)
      at false none = failing x is none
    by (Ask.Halt cause) is = absurd (halted (sym (ap (λ a. change_by a v.reservation (finish_of code items v.hart) flat.words true) is) ∙ flat-change)) where
      halted : (let r : Result Change HaltCause = Err cause in r ≡ Ok c) → ⊥
      halted h = cc
