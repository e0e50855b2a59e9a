-- A leaf of which no entry waits: none waits after what a bus does to it.
-- Letters: v is a leaf, x is an item, e an entry, f what becomes of it.
use Rattle.std.proofs.Common.{◌≡◌, ℕ, zero, suc, ◌+◌, Bool, true, false, not, ◌&&◌, List, [], ◌∷◌, map, Option, Some, None, option_map, refl, ap, ◌∙◌}
use Rattle.std.specs.Prelude.{filter, find, is_some, slice_set, cond, if◌then◌else◌}
use Rattle.std.specs.List.{list_all}
use Rattle.search_model.specs.DdmTypes.declared.sizes.LeafState.{LeafState}
use Rattle.tree_model.specs.State.Lists.{find_from, first_some}
use Rattle.tree_model.specs.State.States.{is_waiting, state_lost, state_with_data, state_with_exclusive, state_with_inject, state_answered}
use Rattle.tree_model.specs.State.Values.{WayValue, BufferValue, LeafSizes, LeafValue}
use Rattle.tree_model.specs.State.Leaf.{LeafEntry, Fate, stays, ends, becomes, enters, way_at, way_entry, buffer_entry, is_buffered, buffered, buffer_item, leaf_entry, entry_at, way_with, buffer_with, ways_after, buffer_after, way_waits, buffer_waits, waiting_item, fate_by, fate_by_loss, fate_when_lost, fate_with_data, fate_with_exclusive, fate_answering, enters_free, fate_with_inject, free_way}
use Rattle.tree_model.proofs.Tests.{and-first, and-second, and-both, first_some-none_first, first_some-none_second}

-- ---- no entry waits

abbrev pub calm_way : Option WayValue → Bool
calm_way None = true
calm_way (Some e) = not (is_waiting e.state)

abbrev pub calm_place : BufferValue → Bool
calm_place e = not (is_waiting e.state)

ways-calm : (i : ℕ) (ways : List (Option WayValue)) → find_from way_waits i ways ≡ None → list_all calm_way ways ≡ true
ways-calm i [] none = refl
ways-calm i (None ∷ ways) none = ways-calm (i + 1) ways none
ways-calm i (Some e ∷ ways) none = elim (is_waiting e.state) as (λ b. (if b then Some i else find_from way_waits (i + 1) ways) ≡ None → (not b && list_all calm_way ways) ≡ true) [
  | true ↦ λ h. cc
  | false ↦ λ h. ways-calm (i + 1) ways h
] none

calm-ways : (i : ℕ) (ways : List (Option WayValue)) → list_all calm_way ways ≡ true → find_from way_waits i ways ≡ None
calm-ways i [] calm = refl
calm-ways i (None ∷ ways) calm = calm-ways (i + 1) ways calm
calm-ways i (Some e ∷ ways) calm = elim (is_waiting e.state) as (λ b. (not b && list_all calm_way ways) ≡ true → (if b then Some i else find_from way_waits (i + 1) ways) ≡ None) [
  | true ↦ λ h. cc
  | false ↦ λ h. calm-ways (i + 1) ways h
] calm

buffer-calm : (buffer : List BufferValue) → option_map buffer_item (find buffer_waits buffer) ≡ None → list_all calm_place buffer ≡ true
buffer-calm [] none = refl
buffer-calm (e ∷ es) none = elim (is_waiting e.state) as (λ b. option_map buffer_item (cond b (Some e) (find buffer_waits es)) ≡ None → (not b && list_all calm_place es) ≡ true) [
  | true ↦ λ h. cc
  | false ↦ λ h. buffer-calm es h
] none

calm-buffer : (buffer : List BufferValue) → list_all calm_place buffer ≡ true → option_map buffer_item (find buffer_waits buffer) ≡ None
calm-buffer [] calm = refl
calm-buffer (e ∷ es) calm = elim (is_waiting e.state) as (λ b. (not b && list_all calm_place es) ≡ true → option_map buffer_item (cond b (Some e) (find buffer_waits es)) ≡ None) [
  | true ↦ λ h. cc
  | false ↦ λ h. calm-buffer es h
] calm

pub record NoneWaits (ws : List (Option WayValue)) (es : List BufferValue) : Type 0 where
  pub ways : list_all calm_way ws ≡ true
  pub buffer : list_all calm_place es ≡ true

pub none-waits : (ways : List (Option WayValue)) (buffer : List BufferValue) → waiting_item ways buffer ≡ None → NoneWaits ways buffer
unfolding waiting_item
none-waits ways buffer none = record { ways = ways-calm 0 ways (first_some-none_first _ _ none); buffer = buffer-calm buffer (first_some-none_second (find_from way_waits 0 ways) _ none) }

pub waits-none : (ways : List (Option WayValue)) (buffer : List BufferValue) → NoneWaits ways buffer → waiting_item ways buffer ≡ None
unfolding waiting_item
waits-none ways buffer none = ap (λ o. first_some o (option_map buffer_item (find buffer_waits buffer))) (calm-ways 0 ways none.ways) ∙ calm-buffer buffer none.buffer

-- ---- an entry

abbrev calm_entry : Option LeafEntry → Bool
calm_entry None = true
calm_entry (Some e) = not (is_waiting e.state)

way-calm : (ways : List (Option WayValue)) (x : ℕ) → list_all calm_way ways ≡ true → calm_way (way_at x ways) ≡ true
way-calm [] x calm = refl
way-calm (o ∷ ways) zero calm = and-first (calm_way o) _ calm
way-calm (o ∷ ways) (suc x) calm = way-calm ways x (and-second (calm_way o) _ calm)

place-calm : (x : ℕ) (buffer : List BufferValue) → list_all calm_place buffer ≡ true → calm_entry (option_map buffer_entry (buffered x buffer)) ≡ true
place-calm x [] calm = refl
place-calm x (e ∷ es) calm = elim (is_buffered x e) as (λ b. calm_entry (option_map buffer_entry (cond b (Some e) (find (is_buffered x) es))) ≡ true) [
  | true ↦ and-first (calm_place e) _ calm
  | false ↦ place-calm x es (and-second (calm_place e) _ calm)
]

entry-either : (o : Option WayValue) (b : Option LeafEntry) → calm_way o ≡ true → calm_entry b ≡ true → calm_entry (first_some (option_map way_entry o) b) ≡ true
entry-either None b way place = place
entry-either (Some e) b way place = way

entry-calm : (x : ℕ) (v : LeafValue) → NoneWaits v.ways v.buffer → calm_entry (leaf_entry x v) ≡ true
unfolding entry_at
entry-calm x v none = entry-either (way_at x v.ways) _ (way-calm v.ways x none.ways) (place-calm x v.buffer none.buffer)

-- ---- what becomes of one

abbrev calm_fate : Fate → Bool
calm_fate stays = true
calm_fate ends = true
calm_fate (becomes s words) = not (is_waiting s)
calm_fate (enters way s words) = not (is_waiting s)

set-calm : (ways : List (Option WayValue)) (x : ℕ) (o : Option WayValue) → calm_way o ≡ true → list_all calm_way ways ≡ true → list_all calm_way (slice_set ways x o) ≡ true
set-calm [] x o put calm = refl
set-calm (p ∷ ways) zero o put calm = and-both (calm_way o) _ put (and-second (calm_way p) _ calm)
set-calm (p ∷ ways) (suc x) o put calm = and-both (calm_way p) _ (and-first (calm_way p) _ calm) (set-calm ways x o put (and-second (calm_way p) _ calm))

with-calm : (s : LeafState) (words : List ℕ) (o : Option WayValue) → not (is_waiting s) ≡ true → calm_way (option_map (way_with s words) o) ≡ true
with-calm s words None calm = refl
with-calm s words (Some e) calm = calm

fate-ways : (x : ℕ) (f : Fate) (ways : List (Option WayValue)) → calm_fate f ≡ true → list_all calm_way ways ≡ true → list_all calm_way (ways_after x f ways) ≡ true
fate-ways x stays ways fate calm = calm
fate-ways x ends ways fate calm = set-calm ways x None refl calm
fate-ways x (becomes s words) ways fate calm = set-calm ways x _ (with-calm s words (way_at x ways) fate) calm
fate-ways x (enters way s words) ways fate calm = set-calm ways x _ fate calm

gone-calm : (p : BufferValue → Bool) (es : List BufferValue) → list_all calm_place es ≡ true → list_all calm_place (filter p es) ≡ true
gone-calm p [] calm = refl
gone-calm p (e ∷ es) calm = elim (p e) as (λ b. list_all calm_place (cond b (e ∷ filter p es) (filter p es)) ≡ true) [
  | true ↦ and-both (calm_place e) _ (and-first (calm_place e) _ calm) (gone-calm p es (and-second (calm_place e) _ calm))
  | false ↦ gone-calm p es (and-second (calm_place e) _ calm)
]

changed-calm : (x : ℕ) (s : LeafState) (words : List ℕ) (es : List BufferValue) → not (is_waiting s) ≡ true → list_all calm_place es ≡ true → list_all calm_place (map (buffer_with x s words) es) ≡ true
changed-calm x s words [] fate calm = refl
changed-calm x s words (e ∷ es) fate calm =
    and-both (calm_place (buffer_with x s words e)) _ (one (is_buffered x e)) (changed-calm x s words es fate (and-second (calm_place e) _ calm))
  where
    one : (b : Bool) → calm_place (if b then record e { state = s; words = words } else e) ≡ true
    one true = fate
    one false = and-first (calm_place e) _ calm

fate-buffer : (x : ℕ) (f : Fate) (ways : List (Option WayValue)) (buffer : List BufferValue) → calm_fate f ≡ true → list_all calm_place buffer ≡ true → list_all calm_place (buffer_after x f ways buffer) ≡ true
fate-buffer x stays ways buffer fate calm = calm
fate-buffer x ends ways buffer fate calm = gone-calm (λ e. not (is_buffered x e)) buffer calm
fate-buffer x (becomes s words) ways buffer fate calm = by_way (way_at x ways)
  where
    by_way : (o : Option WayValue) → list_all calm_place (if is_some o then buffer else map (buffer_with x s words) buffer) ≡ true
    by_way (Some e) = calm
    by_way None = changed-calm x s words buffer fate calm
fate-buffer x (enters way s words) ways buffer fate calm = calm

pub fate-calm : (x : ℕ) (f : Fate) (v : LeafValue) → calm_fate f ≡ true → NoneWaits v.ways v.buffer → NoneWaits (ways_after x f v.ways) (buffer_after x f v.ways v.buffer)
fate-calm x f v fate none = record { ways = fate-ways x f v.ways fate none.ways; buffer = fate-buffer x f v.ways v.buffer fate none.buffer }

-- ---- by each table

lost-calm : (width : ℕ) (words : List ℕ) (s : LeafState) → not (is_waiting s) ≡ true → calm_fate (fate_by_loss width words (state_lost s)) ≡ true
lost-calm width words LeafState.Shared calm = refl
lost-calm width words LeafState.Exclusive calm = refl
lost-calm width words LeafState.Waiting calm = cc
lost-calm width words LeafState.Reading calm = cc
lost-calm width words LeafState.ReadingWaiting calm = cc

module _ (width : ℕ) (words : List ℕ) (table : LeafState → Option LeafState) (shared : calm_fate (fate_by width words (table LeafState.Shared)) ≡ true) (exclusive : calm_fate (fate_by width words (table LeafState.Exclusive)) ≡ true) where
  table-calm : (s : LeafState) → not (is_waiting s) ≡ true → calm_fate (fate_by width words (table s)) ≡ true
  table-calm LeafState.Shared calm = shared
  table-calm LeafState.Exclusive calm = exclusive
  table-calm LeafState.Waiting calm = cc
  table-calm LeafState.Reading calm = cc
  table-calm LeafState.ReadingWaiting calm = cc

when_lost-calm : (width : ℕ) (o : Option LeafEntry) → calm_entry o ≡ true → calm_fate (fate_when_lost width o) ≡ true
when_lost-calm width None calm = refl
when_lost-calm width (Some e) calm = lost-calm width e.words e.state calm

with_data-calm : (width : ℕ) (words : List ℕ) (o : Option LeafEntry) → calm_entry o ≡ true → calm_fate (fate_with_data width words o) ≡ true
with_data-calm width words None calm = refl
with_data-calm width words (Some e) calm = table-calm width words state_with_data refl refl e.state calm

with_exclusive-calm : (width : ℕ) (o : Option LeafEntry) → calm_entry o ≡ true → calm_fate (fate_with_exclusive width o) ≡ true
with_exclusive-calm width None calm = refl
with_exclusive-calm width (Some e) calm = table-calm width e.words state_with_exclusive refl refl e.state calm

answering-calm : (width : ℕ) (o : Option LeafEntry) → calm_entry o ≡ true → calm_fate (fate_answering width o) ≡ true
answering-calm width None calm = refl
answering-calm width (Some e) calm = table-calm width e.words state_answered refl refl e.state calm

enters-calm : (words : List ℕ) (way : Option ℕ) → calm_fate (enters_free LeafState.Exclusive words way) ≡ true
enters-calm words None = refl
enters-calm words (Some way) = refl

with_inject-calm : (sizes : LeafSizes) (x : ℕ) (words : List ℕ) (ways : List (Option WayValue)) (o : Option LeafEntry) → calm_entry o ≡ true → calm_fate (fate_with_inject sizes x words ways o) ≡ true
with_inject-calm sizes x words ways None calm = enters-calm words (free_way sizes x ways)
with_inject-calm sizes x words ways (Some e) calm = table-calm sizes.width words state_with_inject refl refl e.state calm

module _ (x : ℕ) (v : LeafValue) (none : NoneWaits v.ways v.buffer) where
  abbrev CalmAfter : Fate → Type 0
  CalmAfter f = NoneWaits (ways_after x f v.ways) (buffer_after x f v.ways v.buffer)

  pub lose-calm : CalmAfter (fate_when_lost v.sizes.width (leaf_entry x v))
  lose-calm = fate-calm x _ v (when_lost-calm v.sizes.width (leaf_entry x v) (entry-calm x v none)) none

  pub take_data-calm : (words : List ℕ) → CalmAfter (fate_with_data v.sizes.width words (leaf_entry x v))
  take_data-calm words = fate-calm x _ v (with_data-calm v.sizes.width words (leaf_entry x v) (entry-calm x v none)) none

  pub take_exclusive-calm : CalmAfter (fate_with_exclusive v.sizes.width (leaf_entry x v))
  take_exclusive-calm = fate-calm x _ v (with_exclusive-calm v.sizes.width (leaf_entry x v) (entry-calm x v none)) none

  pub answer-calm : CalmAfter (fate_answering v.sizes.width (leaf_entry x v))
  answer-calm = fate-calm x _ v (answering-calm v.sizes.width (leaf_entry x v) (entry-calm x v none)) none

  pub take_inject-calm : (words : List ℕ) → CalmAfter (fate_with_inject v.sizes x words v.ways (leaf_entry x v))
  take_inject-calm words = fate-calm x _ v (with_inject-calm v.sizes x words v.ways (leaf_entry x v) (entry-calm x v none)) none

  pub give_up-calm : CalmAfter ends
  give_up-calm = fate-calm x ends v refl none
