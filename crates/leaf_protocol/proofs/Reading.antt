-- What the calls that read an entry answer.
use Rattle.std.proofs.Common.{◌≡◌, ℕ, zero, suc, ◌+◌, ◌*◌, ◌%◌, ◌<◌, Bool, true, false, cond, nat_eq, List, [], ◌∷◌, length, Option, Some, None, IfSome, IfNone, refl, sym, ap, ◌∙◌}
use Rattle.std.specs.Prelude.{filter, position, is_some, option_map}
use Rattle.std.specs.List.{slice_get}
use Rattle.std.proofs.lemmas.Bool.{eq-eqb}
use Rattle.std.proofs.lemmas.Option.{same_Some}
use Rattle.leaf_protocol.specs.DdmTypes.declared.sizes.LeafState.{LeafState}
use Rattle.leaf_protocol.specs.TreeModel.declared.LeafSpot.{LeafSpot}
use Rattle.leaf_protocol.specs.TreeModel.State.Lists.{chosen, first_some}
use Rattle.leaf_protocol.specs.TreeModel.State.Values.{WayValue, BufferValue}
use Rattle.leaf_protocol.specs.TreeModel.State.Leaf.{LeafEntry, entry_at, entry_state, buffer_item, buffered, is_buffered, leaf_leaving, may_leave_buffer, spot_at, way_spot}
use Rattle.attraction_mem.specs.Memory.{EntryValue, MemoryValue, entry_of, IsLowestFree, IsFull, place_of, way_and_state}
use Rattle.leaf_protocol.specs.Entries.{standing_place, way_value, way_of, ways_of, ItemFits, AreEntries, lowest_way}
use Rattle.leaf_protocol.proofs.Ways.{lowest-some, lowest-none, ways_of-length}
use Rattle.leaf_protocol.proofs.Fits.{entry_in, are-below, way-is, entry-is}

abbrev pub words_of : LeafEntry → List ℕ
words_of e = e.words

module _ {ways width n : ℕ} {m : MemoryValue} {b : List BufferValue} {w : Option ℕ} (kept : AreEntries ways width n m b w) (x : ℕ) where
  -- ---- an entry in a way, then one in the buffer

  pub state-in-way : (s : LeafState) → Some s ≡ option_map (λ e. e.state) (entry_of m x) → Some s ≡ option_map entry_state (entry_at x (ways_of n m) b)
  state-in-way s found = found ∙ (go (entry_of m x) found ∙ sym (ap (option_map entry_state) (entry-is kept x)))
    where
      go : (o : Option EntryValue) → Some s ≡ option_map (λ e. e.state) o → option_map (λ e. e.state) o ≡ option_map entry_state (entry_in (option_map way_value o) (buffered x b))
      go None e = absurd cc
      go (Some f) e = refl

  pub state-in-buffer : (o : Option LeafState) → None ≡ option_map (λ e. e.state) (entry_of m x) → o ≡ option_map (λ e. e.state) (buffered x b) → o ≡ option_map entry_state (entry_at x (ways_of n m) b)
  state-in-buffer o none found = found ∙ (go (entry_of m x) none (buffered x b) ∙ sym (ap (option_map entry_state) (entry-is kept x)))
    where
      go : (a : Option EntryValue) → None ≡ option_map (λ e. e.state) a → (c : Option BufferValue) → option_map (λ e. e.state) c ≡ option_map entry_state (entry_in (option_map way_value a) c)
      go (Some f) e c = absurd cc
      go None e None = refl
      go None e (Some f) = refl

  pub words-in-way : (words : List ℕ) → Some words ≡ option_map (λ e. e.words) (entry_of m x) → Some words ≡ option_map words_of (entry_at x (ways_of n m) b)
  words-in-way words found = found ∙ (go (entry_of m x) found ∙ sym (ap (option_map words_of) (entry-is kept x)))
    where
      go : (o : Option EntryValue) → Some words ≡ option_map (λ e. e.words) o → option_map (λ e. e.words) o ≡ option_map words_of (entry_in (option_map way_value o) (buffered x b))
      go None e = absurd cc
      go (Some f) e = refl

  pub words-in-buffer : (o : Option (List ℕ)) → None ≡ option_map (λ e. e.words) (entry_of m x) → o ≡ option_map (λ e. e.words) (buffered x b) → o ≡ option_map words_of (entry_at x (ways_of n m) b)
  words-in-buffer o none found = found ∙ (go (entry_of m x) none (buffered x b) ∙ sym (ap (option_map words_of) (entry-is kept x)))
    where
      go : (a : Option EntryValue) → None ≡ option_map (λ e. e.words) a → (c : Option BufferValue) → option_map (λ e. e.words) c ≡ option_map words_of (entry_in (option_map way_value a) c)
      go (Some f) e c = absurd cc
      go None e None = refl
      go None e (Some f) = refl

  -- the place of an entry in a way, as the memory has it
  pub place-is : standing_place m.sets ways x (ways_of n m) ≡ place_of ways m x
  place-is = ap (option_map (λ (e : WayValue). x % m.sets * ways + e.way)) (way-is kept x) ∙ go (entry_of m x)
    where
      go : (o : Option EntryValue) → option_map (λ (e : WayValue). x % m.sets * ways + e.way) (option_map way_value o) ≡ option_map (λ (e : EntryValue). x % m.sets * ways + e.way) o
      go None = refl
      go (Some e) = refl

  pub stands-at : (p : ℕ) → Some p ≡ standing_place m.sets ways x (ways_of n m) → (place_of ways m x ≡ Some p) × ((e : EntryValue) × (entry_of m x ≡ Some e))
  stands-at p at = (sym (at ∙ place-is), go (entry_of m x) (at ∙ place-is))
    where
      go : (o : Option EntryValue) → Some p ≡ option_map (λ (e : EntryValue). x % m.sets * ways + e.way) o → (e : EntryValue) × (o ≡ Some e)
      go None h = absurd cc
      go (Some e) h = (e, refl)

  pub stands-nowhere : None ≡ standing_place m.sets ways x (ways_of n m) → entry_of m x ≡ None
  stands-nowhere at = go (entry_of m x) (at ∙ place-is)
    where
      go : (o : Option EntryValue) → None ≡ option_map (λ (e : EntryValue). x % m.sets * ways + e.way) o → o ≡ None
      go None h = refl
      go (Some e) h = absurd cc

  -- an entry without such a place is in the buffer
  pub words-there : is_some (entry_at x (ways_of n m) b) ≡ true → entry_of m x ≡ None → (o : Option (List ℕ)) → o ≡ option_map (λ e. e.words) (buffered x b) → is_some o ≡ true
  words-there there none o is = rw is (go (buffered x b) (sym (ap is_some (entry-is kept x ∙ ap (λ a. entry_in (option_map way_value a) (buffered x b)) none)) ∙ there))
    where
      go : (c : Option BufferValue) → is_some (entry_in None c) ≡ true → is_some (option_map (λ (e : BufferValue). e.words) c) ≡ true
      go None h = h
      go (Some e) h = refl

  pub spot-in-way : (way : ℕ) (s : LeafState) → Some (way, s) ≡ option_map way_and_state (entry_of m x) → Some (LeafSpot.Way way) ≡ spot_at x (ways_of n m) b
  spot-in-way way s found = go (entry_of m x) found ∙ ap (λ o. first_some (option_map way_spot o) (option_map (λ k. LeafSpot.Buffer k) (position (is_buffered x) b))) (sym (way-is kept x))
    where
      go : (o : Option EntryValue) → Some (way, s) ≡ option_map way_and_state o → Some (LeafSpot.Way way) ≡ first_some (option_map way_spot (option_map way_value o)) (option_map (λ k. LeafSpot.Buffer k) (position (is_buffered x) b))
      go None e = absurd cc
      go (Some f) e = ap (option_map (λ (p : ℕ × LeafState). LeafSpot.Way p.0)) e

  pub spot-in-buffer : (o : Option LeafSpot) → None ≡ option_map way_and_state (entry_of m x) → o ≡ option_map (λ k. LeafSpot.Buffer k) (position (is_buffered x) b) → o ≡ spot_at x (ways_of n m) b
  spot-in-buffer o none found = found ∙ (go (entry_of m x) none ∙ ap (λ a. first_some (option_map way_spot a) (option_map (λ k. LeafSpot.Buffer k) (position (is_buffered x) b))) (sym (way-is kept x)))
    where
      go : (a : Option EntryValue) → None ≡ option_map way_and_state a → option_map (λ k. LeafSpot.Buffer k) (position (is_buffered x) b) ≡ first_some (option_map way_spot (option_map way_value a)) (option_map (λ k. LeafSpot.Buffer k) (position (is_buffered x) b))
      go (Some f) e = absurd cc
      go None e = refl

  -- ---- the lowest free way

  pub way-found : (r : Option ℕ) → IfSome r (IsLowestFree ways m (x % m.sets)) → IfNone r (IsFull ways m (x % m.sets)) → r ≡ lowest_way m.sets ways x (ways_of n m)
  way-found None lowest full = sym (lowest-none n m (are-below kept) ways x full)
  way-found (Some way) lowest full = sym (lowest-some n m (are-below kept) ways x way lowest)

-- ---- the copy that leaves

-- an entry that a list of the buffer's entries has is in the buffer
some-later : (x : ℕ) (f : BufferValue) (fs : List BufferValue) → is_some (buffered x fs) ≡ true → is_some (buffered x (f ∷ fs)) ≡ true
some-later x f fs h = elim (nat_eq x f.item) as (λ p. is_some (cond p (Some f) (buffered x fs)) ≡ true) [ true ↦ refl | false ↦ h ]

some-filtered : (t : BufferValue → Bool) (b : List BufferValue) (k : ℕ) (e : BufferValue) → slice_get (filter t b) k ≡ Some e → is_some (buffered e.item b) ≡ true
some-filtered t [] k e found = absurd cc
some-filtered t (f ∷ fs) zero e found =
    elim (t f) as (λ p. slice_get (cond p (f ∷ filter t fs) (filter t fs)) 0 ≡ Some e → is_some (buffered e.item (f ∷ fs)) ≡ true) [
      | true ↦ λ g. let same : f ≡ e = same_Some f e g in rw (← same, eq-eqb f.item f.item refl) refl
      | false ↦ λ g. some-later e.item f fs (some-filtered t fs 0 e g)
    ] found
some-filtered t (f ∷ fs) (suc k) e found =
    elim (t f) as (λ p. slice_get (cond p (f ∷ filter t fs) (filter t fs)) (suc k) ≡ Some e → is_some (buffered e.item (f ∷ fs)) ≡ true) [
      | true ↦ λ g. some-later e.item f fs (some-filtered t fs k e g)
      | false ↦ λ g. some-later e.item f fs (some-filtered t fs (suc k) e g)
    ] found

pub leaving-there : (choice : ℕ) (b : List BufferValue) → IfSome (leaf_leaving choice b) (λ x. is_some (buffered x b) ≡ true)
unfolding leaf_leaving
leaving-there choice b = go (filter may_leave_buffer b) refl
  where
    named : (es : List BufferValue) → filter may_leave_buffer b ≡ es → (o : Option BufferValue) (k : ℕ) → slice_get es k ≡ o → IfSome (option_map buffer_item o) (λ x. is_some (buffered x b) ≡ true)
    named es is None k found = tt
    named es is (Some e) k found = some-filtered may_leave_buffer b k e (ap (λ fs. slice_get fs k) is ∙ found)

    go : (es : List BufferValue) → filter may_leave_buffer b ≡ es → IfSome (chosen buffer_item choice es) (λ x. is_some (buffered x b) ≡ true)
    go [] is = tt
    go (e ∷ es) is = named (e ∷ es) is (slice_get (e ∷ es) (choice % length (e ∷ es))) (choice % length (e ∷ es)) refl

module _ {ways width n : ℕ} {m : MemoryValue} {b : List BufferValue} {w : Option ℕ} (kept : AreEntries ways width n m b w) where
  pub buffered-inside : (x : ℕ) → is_some (buffered x b) ≡ true → x < length (ways_of n m)
  buffered-inside x there = rw (ways_of-length n m) (go (way_of m x) (buffered x b) (kept.each x) there)
    where
      go : (a : Option WayValue) (o : Option BufferValue) → ItemFits n width w x a o → is_some o ≡ true → x < n
      go a None fits h = absurd cc
      go None (Some e) fits h = fits.inside
      go (Some f) (Some e) fits h = absurd fits

  pub leaving-inside : (choice : ℕ) → IfSome (leaf_leaving choice b) (λ x. x < length (ways_of n m))
  leaving-inside choice = go (leaf_leaving choice b) (leaving-there choice b)
    where
      go : (o : Option ℕ) → IfSome o (λ x. is_some (buffered x b) ≡ true) → IfSome o (λ x. x < length (ways_of n m))
      go None h = tt
      go (Some x) h = buffered-inside x h
