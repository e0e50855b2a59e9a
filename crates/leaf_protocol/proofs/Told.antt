-- What the bus tells a leaf, by the state of the item's entry.
use Rattle.std.proofs.Common.{◌≡◌, ℕ, suc, ◌+◌, ◌<◌, Bool, true, false, cond, not, nat_lt, List, [], ◌∷◌, ◌++◌, map, length, Option, Some, None, IfSome, refl, sym, ap, ◌∙◌, arith}
use Rattle.std.specs.Prelude.{option_map, is_some, is_none, find, position}
use Rattle.std.specs.List.{slice_get, position_or_len}
use Rattle.std.proofs.lemmas.Bool.Decides.{nat_tests}
use Rattle.std.proofs.lemmas.List.{append-nil, map-append}
use Rattle.leaf_protocol.specs.DdmTypes.declared.answers.TxKind.{TxKind}
use Rattle.leaf_protocol.specs.DdmTypes.declared.answers.TxKind.TheVariants.{ReadTx}
use Rattle.leaf_protocol.specs.DdmTypes.declared.sizes.LeafState.{LeafState}
use Rattle.reservations.specs.Cleared.{cleared_on}
use Rattle.leaf_protocol.specs.TreeModel.State.Lists.{first_of, first_some, some_if}
use Rattle.leaf_protocol.specs.TreeModel.State.States.{state_lost, asked_when_lost, state_with_data, asked_with_data, state_with_exclusive, state_with_inject, state_answered}
use Rattle.leaf_protocol.specs.TreeModel.State.Values.{LeafValue, WayValue, BufferValue, leaf_node}
use Rattle.leaf_protocol.specs.TreeModel.declared.LeafSpot.{LeafSpot}
use Rattle.leaf_protocol.specs.TreeModel.State.Leaf.{LeafEntry, way_entry, buffer_entry, way_at, way_spot, is_buffered, buffered, entry_at, spot_at, blank, entry_state, entry_words, leaf_entry, state_at, ends, becomes, enters_free, with_fate, words_in, free_way, fate_by, fate_by_loss, leaf_waits, leaf_room, slot_asking, slot_has, slot_struck, unreserved, leaf_lose, leaf_take_data, leaf_take_exclusive, leaf_answer, leaf_take_inject}
use Rattle.leaf_protocol.specs.ItemStates.Parts.{copy_pair}
use Rattle.tx_queue.specs.QueueList.{AllBelow, QueueList}
use Rattle.leaf_protocol.specs.Entries.{EntriesValue}
use Rattle.leaf_protocol.specs.Leaf.{AreParts, request_value, copy_value, copied_item, slot_asked, slot_read_struck}

-- the entry of a state
entry-of : (o : Option LeafEntry) (s : LeafState) → Some s ≡ option_map entry_state o → (e : LeafEntry) × ((o ≡ Some e) × (s ≡ e.state))
entry-of None s is = absurd cc
entry-of (Some e) s is = (e, (refl, cc))

no-entry : (o : Option LeafEntry) → None ≡ option_map entry_state o → o ≡ None
no-entry None is = refl
no-entry (Some e) is = absurd cc

module _ (x : ℕ) (v : LeafValue) where
  abbrev gone : Option ℕ
  gone = unreserved x v.reservation

  -- ---- to lose the item

  pub lose-none : None ≡ state_at x v → leaf_lose x v ≡ record v { reservation = gone }
  unfolding leaf_lose
  lose-none none = rw (no-entry (leaf_entry x v) none) refl

  pub lose-ends : (s : LeafState) → Some s ≡ state_at x v → None ≡ state_lost s → leaf_lose x v ≡ record (with_fate x ends v) { reservation = gone }
  unfolding leaf_lose
  lose-ends s is lost =
      let e = entry-of (leaf_entry x v) s is in
      rw (e.1.0, ← e.1.1) (go s lost e.0.words)
    where
      go : (s : LeafState) → None ≡ state_lost s → (words : List ℕ) → record (with_fate x (fate_by_loss v.sizes.width words (state_lost s)) v) { slot = slot_asking (asked_when_lost s) x v.slot; reservation = gone } ≡ record (with_fate x ends v) { reservation = gone }
      go LeafState.Shared h words = refl
      go LeafState.Exclusive h words = refl
      go LeafState.Waiting h words = absurd cc
      go LeafState.Reading h words = absurd cc
      go LeafState.ReadingWaiting h words = absurd cc

  pub lose-becomes : (s t : LeafState) → Some s ≡ state_at x v → Some t ≡ state_lost s → leaf_lose x v ≡ record (with_fate x (becomes t (words_in t v.sizes.width (blank v.sizes.width))) v) { slot = slot_asking (asked_when_lost s) x v.slot; reservation = gone }
  unfolding leaf_lose
  lose-becomes s t is lost =
      let e = entry-of (leaf_entry x v) s is in
      rw (e.1.0, ← e.1.1) (go s lost e.0.words)
    where
      go : (s : LeafState) → Some t ≡ state_lost s → (words : List ℕ) → record (with_fate x (fate_by_loss v.sizes.width words (state_lost s)) v) { slot = slot_asking (asked_when_lost s) x v.slot; reservation = gone } ≡ record (with_fate x (becomes t (words_in t v.sizes.width (blank v.sizes.width))) v) { slot = slot_asking (asked_when_lost s) x v.slot; reservation = gone }
      go LeafState.Shared h words = absurd cc
      go LeafState.Exclusive h words = absurd cc
      go LeafState.Waiting h words = let same : t ≡ LeafState.ReadingWaiting = cc in rw same refl
      go LeafState.Reading h words = let same : t ≡ LeafState.Reading = cc in rw same refl
      go LeafState.ReadingWaiting h words = let same : t ≡ LeafState.ReadingWaiting = cc in rw same refl

  -- ---- data

  pub data-none : (words : List ℕ) → None ≡ state_at x v → leaf_take_data x words v ≡ v
  unfolding leaf_take_data
  data-none words none = rw (no-entry (leaf_entry x v) none) refl

  pub data-stays : (words : List ℕ) (s : LeafState) → Some s ≡ state_at x v → None ≡ state_with_data s → leaf_take_data x words v ≡ v
  unfolding leaf_take_data
  data-stays words s is stays =
      let e = entry-of (leaf_entry x v) s is in
      rw (e.1.0, ← e.1.1) (go s stays)
    where
      go : (s : LeafState) → None ≡ state_with_data s → record (with_fate x (fate_by v.sizes.width words (state_with_data s)) v) { slot = slot_asking (asked_with_data s) x v.slot } ≡ v
      go LeafState.Shared h = refl
      go LeafState.Exclusive h = refl
      go LeafState.Waiting h = refl
      go LeafState.Reading h = absurd cc
      go LeafState.ReadingWaiting h = absurd cc

  pub data-becomes : (words : List ℕ) (s t : LeafState) → Some s ≡ state_at x v → Some t ≡ state_with_data s → leaf_take_data x words v ≡ record (with_fate x (becomes t (words_in t v.sizes.width words)) v) { slot = slot_asking (asked_with_data s) x v.slot }
  unfolding leaf_take_data
  data-becomes words s t is told =
      let e = entry-of (leaf_entry x v) s is in
      rw (e.1.0, ← e.1.1, ← told) refl

  -- ---- exclusive

  pub exclusive-none : None ≡ state_at x v → leaf_take_exclusive x v ≡ v
  unfolding leaf_take_exclusive
  exclusive-none none = rw (no-entry (leaf_entry x v) none) refl

  pub exclusive-stays : (s : LeafState) → Some s ≡ state_at x v → None ≡ state_with_exclusive s → leaf_take_exclusive x v ≡ v
  unfolding leaf_take_exclusive
  exclusive-stays s is stays =
      let e = entry-of (leaf_entry x v) s is in
      rw (e.1.0, ← e.1.1, ← stays) refl

  pub exclusive-becomes : (s t : LeafState) → Some s ≡ state_at x v → Some t ≡ state_with_exclusive s → leaf_take_exclusive x v ≡ with_fate x (becomes t (words_in t v.sizes.width (entry_words (leaf_entry x v)))) v
  unfolding leaf_take_exclusive
  exclusive-becomes s t is told =
      let e = entry-of (leaf_entry x v) s is in
      rw (e.1.0, ← e.1.1, ← told) refl

  -- ---- to answer a read

  pub answer-none : None ≡ state_at x v → leaf_answer x v ≡ v
  unfolding leaf_answer
  answer-none none = rw (no-entry (leaf_entry x v) none) (ap (λ r. record v { replies = r }) (append-nil v.replies))

  pub answer-stays : (s : LeafState) → Some s ≡ state_at x v → None ≡ state_answered s → leaf_answer x v ≡ v
  unfolding leaf_answer
  answer-stays s is stays =
      let e = entry-of (leaf_entry x v) s is in
      rw (e.1.0, ← e.1.1, ← stays) (ap (λ r. record v { replies = r }) (append-nil v.replies))

  pub answer-becomes : (s t : LeafState) → Some s ≡ state_at x v → Some t ≡ state_answered s → leaf_answer x v ≡ record (with_fate x (becomes t (words_in t v.sizes.width (entry_words (leaf_entry x v)))) v) { replies = v.replies ++ record { item = x; words = entry_words (leaf_entry x v) } ∷ [] }
  unfolding leaf_answer
  answer-becomes s t is told =
      let e = entry-of (leaf_entry x v) s is in
      rw (e.1.0, ← e.1.1, ← told) refl

  -- ---- inject

  pub inject-none : (words : List ℕ) → None ≡ state_at x v → leaf_take_inject x words v ≡ record (with_fate x (enters_free LeafState.Exclusive words (free_way v.sizes x v.ways)) v) { slot = slot_struck x v.slot }
  unfolding leaf_take_inject
  inject-none words none = rw (no-entry (leaf_entry x v) none) refl

  pub inject-stays : (words : List ℕ) (s : LeafState) → Some s ≡ state_at x v → None ≡ state_with_inject s → leaf_take_inject x words v ≡ record v { slot = slot_struck x v.slot }
  unfolding leaf_take_inject
  inject-stays words s is stays =
      let e = entry-of (leaf_entry x v) s is in
      rw (e.1.0, ← e.1.1, ← stays) refl

  pub inject-becomes : (words : List ℕ) (s t : LeafState) → Some s ≡ state_at x v → Some t ≡ state_with_inject s → leaf_take_inject x words v ≡ record (with_fate x (becomes t (words_in t v.sizes.width words)) v) { slot = slot_struck x v.slot }
  unfolding leaf_take_inject
  inject-becomes words s t is told =
      let e = entry-of (leaf_entry x v) s is in
      rw (e.1.0, ← e.1.1, ← told) refl

-- ---- room for an item

is_none-map : {X Y : Type 0} (f : X → Y) (o : Option X) → is_none (option_map f o) ≡ is_none o
is_none-map f None = refl
is_none-map f (Some x) = refl

module _ (x : ℕ) (v : LeafValue) where
  pub room-waits : leaf_waits x v ≡ true → leaf_room x v ≡ true
  unfolding leaf_room
  room-waits waits = rw waits refl

  pub room-absent : leaf_waits x v ≡ false → is_none (state_at x v) ≡ true → leaf_room x v ≡ is_some (free_way v.sizes x v.ways)
  unfolding leaf_room
  room-absent waits none = rw (waits, sym (is_none-map entry_state (leaf_entry x v)) ∙ none) refl

  pub room-there : leaf_waits x v ≡ false → is_none (state_at x v) ≡ false → leaf_room x v ≡ false
  unfolding leaf_room
  room-there waits some = rw (waits, sym (is_none-map entry_state (leaf_entry x v)) ∙ some) refl

-- ---- the first reply

pub first-reply : (cs : List (ℕ × List ℕ)) → slice_get cs 0 ≡ option_map copy_pair (first_of (map copy_value cs))
first-reply [] = refl
first-reply (c ∷ cs) = refl

pub first-inside : (n : ℕ) (cs : List (ℕ × List ℕ)) → AllBelow copied_item n cs → IfSome (slice_get cs 0) (λ c. c.0 < n)
first-inside n [] below = tt
first-inside n (c ∷ cs) below = below.0

pub below-append : (n : ℕ) (cs : List (ℕ × List ℕ)) (c : ℕ × List ℕ) → AllBelow copied_item n cs → c.0 < n → AllBelow copied_item n (cs ++ c ∷ [])
below-append n [] c below h = (h, tt)
below-append n (d ∷ ds) c below h = (below.0, below-append n ds c below.1 h)

pub copies-append : (cs : List (ℕ × List ℕ)) (c : ℕ × List ℕ) → map copy_value (cs ++ c ∷ []) ≡ map copy_value cs ++ copy_value c ∷ []
copies-append cs c = map-append copy_value cs (c ∷ [])

-- the words of an entry that is there
pub words-here : (o : Option LeafEntry) (words : List ℕ) → Some words ≡ option_map (λ e. e.words) o → entry_words o ≡ words
words-here None words is = absurd cc
words-here (Some e) words is = cc

-- the parts keep to the leaf's items after other entries of as many items, and a reply more
pub parts-same : {ways width : ℕ} {e : EntriesValue} {slot : Option (TxKind × ℕ)} {q : QueueList (ℕ × List ℕ)} {reserved : Option ℕ} (f : EntriesValue) → AreParts ways width e slot q reserved → length f.ways ≡ length e.ways → AreParts ways width f slot q reserved
parts-same f parts same = record { some_ways = parts.some_ways; words_fit = parts.words_fit; items = same ∙ parts.items; numbered = parts.numbered; slot_inside = parts.slot_inside; replies_inside = parts.replies_inside; reserved_inside = parts.reserved_inside }

pub parts-replied : {ways width : ℕ} {e : EntriesValue} {slot : Option (TxKind × ℕ)} {q : QueueList (ℕ × List ℕ)} {reserved : Option ℕ} (r : QueueList (ℕ × List ℕ)) (c : ℕ × List ℕ) → AreParts ways width e slot q reserved → c.0 < q.items → r ≡ record q { list = q.list ++ c ∷ [] } → AreParts ways width e slot r reserved
parts-replied r c parts inside is = rw is (record { some_ways = parts.some_ways; words_fit = parts.words_fit; items = parts.items; numbered = parts.numbered; slot_inside = parts.slot_inside; replies_inside = below-append _ _ c parts.replies_inside inside; reserved_inside = parts.reserved_inside })

pub parts-asked : {ways width : ℕ} {e : EntriesValue} {slot : Option (TxKind × ℕ)} {q : QueueList (ℕ × List ℕ)} {reserved : Option ℕ} (kind : TxKind) (x : ℕ) → AreParts ways width e slot q reserved → x < q.items → AreParts ways width e (Some (kind, x)) q reserved
parts-asked kind x parts inside = record { some_ways = parts.some_ways; words_fit = parts.words_fit; items = parts.items; numbered = parts.numbered; slot_inside = inside; replies_inside = parts.replies_inside; reserved_inside = parts.reserved_inside }

pub parts-reserved : {ways width : ℕ} {e : EntriesValue} {slot : Option (TxKind × ℕ)} {q : QueueList (ℕ × List ℕ)} {reserved : Option ℕ} (x : ℕ) → AreParts ways width e slot q reserved → x < q.items → AreParts ways width e slot q (Some x)
parts-reserved x parts inside = record { some_ways = parts.some_ways; words_fit = parts.words_fit; items = parts.items; numbered = parts.numbered; slot_inside = parts.slot_inside; replies_inside = parts.replies_inside; reserved_inside = inside }

-- where the list isn't full
pub not-full : {X : Type 0} (b : Bool) (q : X) → some_if b q ≡ None → b ≡ false
not-full true q e = absurd cc
not-full false q e = refl

-- ---- the slot and the reservation as the parts have them

pub asked-value : (asked : Option TxKind) (x : ℕ) (slot : Option (TxKind × ℕ)) → option_map request_value (slot_asked asked x slot) ≡ slot_asking asked x (option_map request_value slot)
asked-value None x slot = refl
asked-value (Some kind) x slot = refl

pub struck-value : (x : ℕ) (slot : Option (TxKind × ℕ)) → option_map request_value (slot_read_struck x slot) ≡ slot_struck x (option_map request_value slot)
struck-value x None = refl
struck-value x (Some r) = go (slot_has ReadTx x (Some (request_value r)))
  where
    go : (b : Bool) → option_map request_value (cond b None (Some r)) ≡ cond b None (Some (request_value r))
    go true = refl
    go false = refl

pub cleared-value : (x : ℕ) (r : Option ℕ) → cleared_on x r ≡ unreserved x r
cleared-value x None = refl
cleared-value x (Some y) = refl

-- ---- where an entry stands

is_some-test : (b : Bool) (k : ℕ) → is_some (cond b (Some k) None) ≡ b
is_some-test true k = refl
is_some-test false k = refl

first-in : (n : ℕ) → nat_lt 0 (suc n) ≡ true
first-in n = grind (arith, nat_tests)

next-in : (k n : ℕ) → nat_lt (1 + k) (suc n) ≡ nat_lt k n
next-in k n = grind (arith, nat_tests)

position-some : {X : Type 0} (t : X → Bool) (xs : List X) → is_some (position t xs) ≡ is_some (find t xs)
position-some t [] = refl
position-some t (y ∷ ys) =
    elim (t y) as (λ b. is_some (cond (nat_lt (cond (not b) (1 + position_or_len t ys) 0) (suc (length ys))) (Some (cond (not b) (1 + position_or_len t ys) 0)) None) ≡ is_some (cond b (Some y) (find t ys))) [
      | true ↦ is_some-test (nat_lt 0 (suc (length ys))) 0 ∙ first-in (length ys)
      | false ↦ is_some-test (nat_lt (1 + position_or_len t ys) (suc (length ys))) _ ∙ (next-in (position_or_len t ys) (length ys) ∙ (sym (is_some-test (nat_lt (position_or_len t ys) (length ys)) (position_or_len t ys)) ∙ position-some t ys))
    ]

spot-some : (x : ℕ) (ways : List (Option WayValue)) (b : List BufferValue) → is_some (spot_at x ways b) ≡ is_some (entry_at x ways b)
unfolding entry_at
spot-some x ways b = go (way_at x ways)
  where
    some-map : {X Y : Type 0} (f : X → Y) (o : Option X) → is_some (option_map f o) ≡ is_some o
    some-map f None = refl
    some-map f (Some z) = refl

    go : (o : Option WayValue) → is_some (first_some (option_map way_spot o) (option_map (λ k. LeafSpot.Buffer k) (position (is_buffered x) b))) ≡ is_some (first_some (option_map way_entry o) (option_map buffer_entry (buffered x b)))
    go None = some-map (λ k. LeafSpot.Buffer k) (position (is_buffered x) b) ∙ (position-some (is_buffered x) b ∙ sym (some-map buffer_entry (buffered x b)))
    go (Some e) = refl

is-none : {X : Type 0} (o : Option X) → is_some o ≡ false → o ≡ None
is-none None h = refl
is-none (Some y) h = absurd cc

pub no-spot : (x : ℕ) (ways : List (Option WayValue)) (b : List BufferValue) → None ≡ option_map entry_state (entry_at x ways b) → spot_at x ways b ≡ None
no-spot x ways b none = is-none (spot_at x ways b) (spot-some x ways b ∙ ap is_some (no-entry (entry_at x ways b) none))

pub no-entry-spot : (x : ℕ) (ways : List (Option WayValue)) (b : List BufferValue) → None ≡ spot_at x ways b → entry_at x ways b ≡ None
no-entry-spot x ways b none = is-none (entry_at x ways b) (sym (spot-some x ways b) ∙ ap is_some (sym none))

-- a node of a leaf is that leaf's alone
pub same-leaf : (v w : LeafValue) → leaf_node v ≡ leaf_node w → v ≡ w
same-leaf v w same = cc
