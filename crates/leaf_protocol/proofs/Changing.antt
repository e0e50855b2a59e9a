-- What the calls that change an entry leave.
use Rattle.std.proofs.Common.{◌≡◌, ◌≢◌, ℕ, ◌%◌, ◌<◌, ◌^◌, true, false, cond, not, List, [], ◌∷◌, ◌++◌, map, Option, Some, None, IsSomeAnd, refl, sym, ap, subst, ◌∙◌, ◌↔◌, ◌⊎◌, inl, inr}
use Rattle.std.specs.Prelude.{replicate, filter, is_some, option_map, slice_set, Result, Ok, Err, IfOk, IfErr, OnOk, OnErr, is_err}
use Rattle.std.specs.Ordering.{nat_cmp}
use Rattle.std.specs.FinMap.{get-empty}
use Rattle.std.proofs.lemmas.Bool.{eq-eqb, ne_eqb}
use Rattle.std.proofs.lemmas.Option.{none-some, same_Some}
use Rattle.std.proofs.lemmas.List.{append-nil}
use Rattle.leaf_protocol.specs.DdmTypes.declared.sizes.LeafState.{LeafState}
use Rattle.leaf_protocol.specs.FlatModel.Flat.{has_reserved}
use Rattle.leaf_protocol.specs.TreeModel.State.States.{is_waiting, is_reading}
use Rattle.leaf_protocol.specs.TreeModel.State.Values.{WayValue, BufferValue}
use Rattle.leaf_protocol.specs.TreeModel.State.Leaf.{blank, way_at, way_with, entry_at, entry_words, buffer_item, buffer_with, is_buffered, buffered, Fate, ends, becomes, enters, enters_free, ways_after, buffer_after, words_in, waiting_item, item_in_way}
use Rattle.leaf_protocol.specs.TreeModel.Turns.HartTurn.{ways_without, moved_to_buffer, moved_entry}
use Rattle.attraction_mem.specs.Memory.{EntryValue, MemoryValue, entry_of, empty_memory, StandsIn, IsFree, IsFull, IsLowestFree, with_entry, without_entry, way_and_state}
use Rattle.attraction_mem.proofs.Changing.{without_absent}
use Rattle.attraction_mem.proofs.Holding.{equal_or_not}
use Rattle.replacement.specs.Arrived.{with_state as buffer_in_state, with_words as buffer_of_words}
use Rattle.replacement.proofs.Once.{once-append}
use Rattle.leaf_protocol.specs.Entries.{EntriesValue, way_value, way_of, ways_of, EntryFits, ItemFits, AreEntries, waiting_after, waits_now, may_be, with_fate, cleared, lowest_way}
use Rattle.leaf_protocol.proofs.Ways.{IsPut, put-entry, put-none, ways_of-put, ways_of-empty, item_in_way-only, item_in_way-none, lowest-some, lowest-none}
use Rattle.leaf_protocol.proofs.Buffered.{without-absent, buffered-append, map-both, buffered-changed, buffered-unchanged, changed-once, buffered-gone, buffered-left, gone-once}
use Rattle.leaf_protocol.proofs.Fits.{entry_in, way-alone, after-same, after-named, are-below, way-is, entry-is, entry-named, kept-at, waiting-is}

-- ---- no entry

empty-none : (sets x : ℕ) → way_of (empty_memory sets) x ≡ None
empty-none sets x = ap (option_map way_value) (get-empty nat_cmp x)

pub empty-kept : (ways width n sets : ℕ) (m : MemoryValue) → 0 < ways → width < 2 ^ 32 → m ≡ empty_memory sets → AreEntries ways width n m [] None
empty-kept ways width n sets m some_ways words_fit is = rw is (record { some_ways = some_ways; words_fit = words_fit; once = refl; each = λ x. rw (empty-none sets x) refl })

pub empty-ways : (n sets : ℕ) → ways_of n (empty_memory sets) ≡ replicate n None
empty-ways n sets = ways_of-empty n (empty_memory sets) (empty-none sets)

-- ---- words

pub words_in-twice : (s : LeafState) (width : ℕ) (words : List ℕ) → words_in s width words ≡ words_in s width (words_in s width words)
words_in-twice LeafState.Shared width words = refl
words_in-twice LeafState.Exclusive width words = refl
words_in-twice LeafState.Waiting width words = refl
words_in-twice LeafState.Reading width words = refl
words_in-twice LeafState.ReadingWaiting width words = refl

blank-suits : (s : LeafState) (width : ℕ) → is_reading s ≡ true → blank width ≡ words_in s width (blank width)
blank-suits s width reading = rw reading refl

no-entry : (o : Option EntryValue) → option_map way_value o ≡ None → o ≡ None
no-entry None h = refl
no-entry (Some e) h = absurd cc

no-way-entry : (a : Option WayValue) (o : Option BufferValue) → entry_in a o ≡ None → a ≡ None
no-way-entry None o h = refl
no-way-entry (Some e) o h = absurd cc

no-buffer-entry : (a : Option WayValue) (o : Option BufferValue) → entry_in a o ≡ None → o ≡ None
no-buffer-entry None None h = refl
no-buffer-entry None (Some e) h = absurd cc
no-buffer-entry (Some e) o h = absurd cc

module _ {ways width n : ℕ} {m : MemoryValue} {b : List BufferValue} {w : Option ℕ} (kept : AreEntries ways width n m b w) (x : ℕ) where
  -- what the item has, by the parts
  pub way_none : entry_at x (ways_of n m) b ≡ None → way_of m x ≡ None
  way_none absent = no-way-entry (way_of m x) (buffered x b) (sym (entry-is kept x) ∙ absent)

  pub entry_none : entry_at x (ways_of n m) b ≡ None → entry_of m x ≡ None
  entry_none absent = no-entry (entry_of m x) (way_none absent)

  pub buffered_none : entry_at x (ways_of n m) b ≡ None → buffered x b ≡ None
  buffered_none absent = no-buffer-entry (way_of m x) (buffered x b) (sym (entry-is kept x) ∙ absent)

  -- an entry that stands in no way stands in the buffer
  pub elsewhere : is_some (entry_at x (ways_of n m) b) ≡ true → entry_of m x ≡ None → (way_of m x ≡ None) × ((e : BufferValue) × (buffered x b ≡ Some e))
  elsewhere there none = (way_gone, in_buffer (buffered x b) (subst (λ o. is_some (entry_in o (buffered x b)) ≡ true) way_gone (sym (ap is_some (entry-is kept x)) ∙ there)))
    where
      way_gone : way_of m x ≡ None
      way_gone = ap (option_map way_value) none

      in_buffer : (o : Option BufferValue) → is_some (entry_in None o) ≡ true → (e : BufferValue) × (o ≡ Some e)
      in_buffer None h = absurd cc
      in_buffer (Some e) h = (e, refl)

  -- an entry in a way is the only one of its item
  way-there : (e : EntryValue) → entry_of m x ≡ Some e → way_of m x ≡ Some (way_value e)
  way-there e there = ap (option_map way_value) there

  alone-here : (e : EntryValue) → entry_of m x ≡ Some e → buffered x b ≡ None
  alone-here e there = way-alone n width w x (way_value e) (buffered x b) (subst (λ o. ItemFits n width w x o (buffered x b)) (way-there e there) (kept.each x))

  pub words-way : (e : EntryValue) → entry_of m x ≡ Some e → entry_words (entry_at x (ways_of n m) b) ≡ e.words
  words-way e there = ap entry_words (entry-is kept x) ∙ ap (λ o. entry_words (entry_in o (buffered x b))) (way-there e there)

  -- ---- another state and other words

  module _ (s : LeafState) (words : List ℕ) (may : may_be s (entry_at x (ways_of n m) b) (waiting_item (ways_of n m) b) ≡ true) where
    abbrev suiting : List ℕ
    suiting = words_in s width words

    may-here : may_be s (entry_at x (ways_of n m) b) w ≡ true
    may-here = subst (λ o. may_be s (entry_at x (ways_of n m) b) o ≡ true) (waiting-is kept) may

    others-named : (y : ℕ) → y ≢ x → has_reserved (waiting_after x (is_waiting s) w) y ≡ has_reserved w y
    others-named y other = after-same x y (is_waiting s) w s (entry_at x (ways_of n m) b) refl may-here (entry-named kept x) other

    fits-now : x < n → EntryFits n width (waiting_after x (is_waiting s) w) x s suiting
    fits-now inside = record { inside = inside; named = after-named x (is_waiting s) w; blank_words = words_in-twice s width words }

    -- in a way
    module _ (e : EntryValue) (there : entry_of m x ≡ Some e) (k : MemoryValue) (put : IsPut m k x (Some (record { way = e.way; state = s; words = suiting }))) where
      here-inside : x < n
      here-inside =
          let way = way-there e there in
          let fits : EntryFits n width w x e.state e.words = subst (λ o. ItemFits n width w x (Some (way_value e)) o) (alone-here e there) (subst (λ o. ItemFits n width w x o (buffered x b)) way (kept.each x)) in
          fits.inside

      pub set-way-kept : AreEntries ways width n k b (waiting_after x (is_waiting s) w)
      set-way-kept = kept-at kept k b (waiting_after x (is_waiting s) w) x (Some (record { way = e.way; state = s; words = suiting })) None put kept.once (alone-here e there) (λ y other. refl) others-named (fits-now here-inside)

      pub set-way-ways : ways_of n k ≡ ways_after x (becomes s suiting) (ways_of n m)
      set-way-ways =
          let here : way_at x (ways_of n m) ≡ Some (way_value e) = way-is kept x ∙ way-there e there in
          ways_of-put n m k x (Some (record { way = e.way; state = s; words = suiting })) put ∙ ap (λ o. slice_set (ways_of n m) x (option_map (way_with s suiting) o)) (sym here)

      pub set-way-buffer : b ≡ buffer_after x (becomes s suiting) (ways_of n m) b
      set-way-buffer =
          let here : way_at x (ways_of n m) ≡ Some (way_value e) = way-is kept x ∙ way-there e there in
          ap (λ o. cond (is_some o) b (map (buffer_with x s suiting) b)) (sym here)

    -- in the buffer
    module _ (e : BufferValue) (none : way_of m x ≡ None) (there : buffered x b ≡ Some e) where
      abbrev changed : List BufferValue
      changed = map (buffer_of_words x suiting) (map (buffer_in_state x s) b)

      changed-is : changed ≡ map (buffer_with x s suiting) b
      changed-is = map-both x s suiting b

      buffer-inside : x < n
      buffer-inside = let fits : EntryFits n width w x e.state e.words = subst (λ o. ItemFits n width w x None o) there (subst (λ o. ItemFits n width w x o (buffered x b)) none (kept.each x)) in fits.inside

      pub set-buffer-kept : AreEntries ways width n m changed (waiting_after x (is_waiting s) w)
      set-buffer-kept =
          rw changed-is (kept-at kept m (map (buffer_with x s suiting) b) (waiting_after x (is_waiting s) w) x None (Some (record e { state = s; words = suiting })) (record { sets = refl; here = none; others = λ y other. refl }) (changed-once x s suiting b kept.once) (buffered-changed x s suiting b e there) (λ y other. buffered-unchanged x s suiting y b other) others-named (fits-now buffer-inside))

      pub set-buffer-ways : ways_of n m ≡ ways_after x (becomes s suiting) (ways_of n m)
      set-buffer-ways = ways_of-put n m m x (option_map (way_with s suiting) (way_at x (ways_of n m))) (record { sets = refl; here = none ∙ ap (option_map (way_with s suiting)) (sym (way-is kept x ∙ none)); others = λ y other. refl })

      pub set-buffer-buffer : changed ≡ buffer_after x (becomes s suiting) (ways_of n m) b
      set-buffer-buffer = changed-is ∙ ap (λ o. cond (is_some o) b (map (buffer_with x s suiting) b)) (sym (way-is kept x ∙ none))

  -- ---- it ends

  abbrev left : List BufferValue
  left = filter (λ e. not (is_buffered x e)) b

  pub end-kept : AreEntries ways width n (without_entry m x) left (waiting_after x false w)
  end-kept =
      kept-at kept (without_entry m x) left (waiting_after x false w) x None None (put-none m x) (gone-once x b kept.once) (buffered-gone x b) (λ y other. buffered-left x y b other)
      (λ y other. after-same x y false w LeafState.Shared (entry_at x (ways_of n m) b) refl refl (entry-named kept x) other) (after-named x false w)

  pub end-ways : ways_of n (without_entry m x) ≡ ways_after x ends (ways_of n m)
  end-ways = ways_of-put n m (without_entry m x) x None (put-none m x)

  -- in its way
  module _ (e : EntryValue) (there : entry_of m x ≡ Some e) where
    pub end-way-buffer : b ≡ left
    end-way-buffer = sym (without-absent x b (alone-here e there))

    pub end-way-kept : AreEntries ways width n (without_entry m x) b (waiting_after x false w)
    end-way-kept = subst (λ l. AreEntries ways width n (without_entry m x) l (waiting_after x false w)) (sym end-way-buffer) end-kept

  -- in the buffer
  module _ (none : entry_of m x ≡ None) where
    pub end-buffer-kept : AreEntries ways width n m left (waiting_after x false w)
    end-buffer-kept = subst (λ k. AreEntries ways width n k left (waiting_after x false w)) (without_absent m x none) end-kept

    pub end-buffer-ways : ways_of n m ≡ ways_after x ends (ways_of n m)
    end-buffer-ways = ap (ways_of n) (sym (without_absent m x none)) ∙ end-ways

  -- ---- it comes

  module _ (absent : entry_at x (ways_of n m) b ≡ None) (inside : x < n) (way : ℕ) where
    unnamed : has_reserved w x ≡ false
    unnamed = entry-named kept x ∙ ap waits_now absent

    pub place-kept : (words : List ℕ) → AreEntries ways width n (with_entry m x way LeafState.Exclusive words) b w
    place-kept words =
        kept-at kept (with_entry m x way LeafState.Exclusive words) b w x (Some (record { way = way; state = LeafState.Exclusive; words = words })) None (put-entry m x way LeafState.Exclusive words) kept.once (buffered_none absent) (λ y other. refl) (λ y other. refl) (record { inside = inside; named = unnamed; blank_words = refl })

    pub enter-ways : (s : LeafState) (words : List ℕ) → ways_of n (with_entry m x way s words) ≡ ways_after x (enters way s words) (ways_of n m)
    enter-ways s words = ways_of-put n m (with_entry m x way s words) x (Some (record { way = way; state = s; words = words })) (put-entry m x way s words)

    pub enter-kept : (s : LeafState) → is_reading s ≡ true → waiting_item (ways_of n m) b ≡ None → AreEntries ways width n (with_entry m x way s (blank width)) b (Some x)
    enter-kept s reading alone =
        let nobody : w ≡ None = sym (waiting-is kept) ∙ alone in
        kept-at kept (with_entry m x way s (blank width)) b (Some x) x (Some (record { way = way; state = s; words = blank width })) None (put-entry m x way s (blank width)) kept.once (buffered_none absent) (λ y other. refl)
        (λ y other. ne_eqb x y (λ same. other (sym same)) ∙ ap (λ o. has_reserved o y) (sym nobody))
        (record { inside = inside; named = eq-eqb x x refl ∙ sym (reading-waits s reading); blank_words = blank-suits s width reading })
      where
        reading-waits : (s : LeafState) → is_reading s ≡ true → is_waiting s ≡ true
        reading-waits LeafState.Shared h = h
        reading-waits LeafState.Exclusive h = h
        reading-waits LeafState.Waiting h = refl
        reading-waits LeafState.Reading h = refl
        reading-waits LeafState.ReadingWaiting h = refl

  -- placed in the lowest free way, or nowhere
  module _ {E : Type 0} (absent : entry_at x (ways_of n m) b ≡ None) (inside : x < n) (words : List ℕ) (r : Result ℕ E) (k : MemoryValue) (placed : IfOk r (λ way. k ≡ with_entry m x way LeafState.Exclusive words)) (same : OnErr r (k ≡ m)) where
    pub placed-kept : AreEntries ways width n k b w
    placed-kept = go r placed same
      where
        go : (r : Result ℕ E) → IfOk r (λ way. k ≡ with_entry m x way LeafState.Exclusive words) → OnErr r (k ≡ m) → AreEntries ways width n k b w
        go (Ok way) p s = rw p (place-kept absent inside way words)
        go (Err e) p s = rw s kept

    pub placed-sets : k.sets ≡ m.sets
    placed-sets = go r placed same
      where
        go : (r : Result ℕ E) → IfOk r (λ way. k ≡ with_entry m x way LeafState.Exclusive words) → OnErr r (k ≡ m) → k.sets ≡ m.sets
        go (Ok way) p s = ap (λ (l : MemoryValue). l.sets) p
        go (Err e) p s = ap (λ (l : MemoryValue). l.sets) s

    pub placed-way : IfOk r (IsLowestFree ways m (x % m.sets)) → IfOk r (λ way. lowest_way m.sets ways x (ways_of n m) ≡ Some way)
    placed-way lowest = go r lowest
      where
        go : (r : Result ℕ E) → IfOk r (IsLowestFree ways m (x % m.sets)) → IfOk r (λ way. lowest_way m.sets ways x (ways_of n m) ≡ Some way)
        go (Ok way) l = lowest-some n m (are-below kept) ways x way l
        go (Err e) l = tt

    pub placed-full : (number : E → ℕ) → OnErr r (IsFull ways m (x % m.sets)) → IfErr r (λ e. number e ≡ x % m.sets) → IfErr r (λ e. (lowest_way m.sets ways x (ways_of n m) ≡ None) × (number e ≡ x % m.sets))
    placed-full number full set = go r full set
      where
        go : (r : Result ℕ E) → OnErr r (IsFull ways m (x % m.sets)) → IfErr r (λ e. number e ≡ x % m.sets) → IfErr r (λ e. (lowest_way m.sets ways x (ways_of n m) ≡ None) × (number e ≡ x % m.sets))
        go (Ok way) f h = tt
        go (Err e) f h = (lowest-none n m (are-below kept) ways x f, h)

    pub placed-ways : IfOk r (IsLowestFree ways m (x % m.sets)) → OnErr r (IsFull ways m (x % m.sets)) → ways_of n k ≡ ways_after x (enters_free LeafState.Exclusive words (lowest_way m.sets ways x (ways_of n m))) (ways_of n m)
    placed-ways lowest full = go r placed same lowest full
      where
        go : (r : Result ℕ E) → IfOk r (λ way. k ≡ with_entry m x way LeafState.Exclusive words) → OnErr r (k ≡ m) → IfOk r (IsLowestFree ways m (x % m.sets)) → OnErr r (IsFull ways m (x % m.sets)) → ways_of n k ≡ ways_after x (enters_free LeafState.Exclusive words (lowest_way m.sets ways x (ways_of n m))) (ways_of n m)
        go (Ok way) p s l f = rw (lowest-some n m (are-below kept) ways x way l, p) (enter-ways absent inside way LeafState.Exclusive words)
        go (Err e) p s l f = rw (lowest-none n m (are-below kept) ways x f, s) refl

    pub placed-buffer : b ≡ buffer_after x (enters_free LeafState.Exclusive words (lowest_way m.sets ways x (ways_of n m))) (ways_of n m) b
    placed-buffer = go (lowest_way m.sets ways x (ways_of n m))
      where
        go : (o : Option ℕ) → b ≡ buffer_after x (enters_free LeafState.Exclusive words o) (ways_of n m) b
        go None = refl
        go (Some way) = refl

  -- ---- the item that stands in a way of its set goes to the buffer

  module _ (way other : ℕ) (only : (y : ℕ) → (other ≡ y) ↔ StandsIn m (x % m.sets) way y) (f : EntryValue) (there : entry_of m other ≡ Some f) where
    abbrev moved : BufferValue
    moved = record { item = other; state = f.state; words = f.words }

    way-other : way_of m other ≡ Some (way_value f)
    way-other = ap (option_map way_value) there

    pub other-fresh : buffered other b ≡ None
    other-fresh = way-alone n width w other (way_value f) (buffered other b) (subst (λ o. ItemFits n width w other o (buffered other b)) way-other (kept.each other))

    item-is : item_in_way m.sets x way (ways_of n m) ≡ Some other
    item-is = item_in_way-only n m (are-below kept) x way other ((only other).0 refl) (λ y stands. (only y).1 stands)

    appended-here : buffered other (b ++ moved ∷ []) ≡ Some moved
    appended-here = buffered-append other b moved ∙ rw (other-fresh, eq-eqb other other refl) refl

    appended-other : (y : ℕ) → y ≢ other → buffered y (b ++ moved ∷ []) ≡ buffered y b
    appended-other y apart = buffered-append y b moved ∙ go (buffered y b)
      where
        go : (o : Option BufferValue) → (elim o as (λ o. Option BufferValue) [ None ↦ cond (is_buffered y moved) (Some moved) None | Some g ↦ Some g ]) ≡ o
        go None = rw (ne_eqb y other apart) refl
        go (Some g) = refl

    pub moved-kept : AreEntries ways width n (without_entry m other) (b ++ moved ∷ []) w
    moved-kept =
        let fits : EntryFits n width w other f.state f.words = subst (λ o. ItemFits n width w other (Some (way_value f)) o) other-fresh (subst (λ o. ItemFits n width w other o (buffered other b)) way-other (kept.each other)) in
        kept-at kept (without_entry m other) (b ++ moved ∷ []) w other None (Some moved) (put-none m other) (once-append buffer_item b moved kept.once other-fresh) appended-here appended-other (λ y apart. refl) fits

    pub moved-ways : ways_of n (without_entry m other) ≡ ways_without (item_in_way m.sets x way (ways_of n m)) (ways_of n m)
    moved-ways = ways_of-put n m (without_entry m other) other None (put-none m other) ∙ ap (λ o. ways_without o (ways_of n m)) (sym item-is)

    pub moved-buffer : b ++ moved ∷ [] ≡ b ++ moved_to_buffer (item_in_way m.sets x way (ways_of n m)) (ways_of n m)
    moved-buffer =
        let at : way_at other (ways_of n m) ≡ Some (way_value f) = way-is kept other ∙ way-other in
        ap (λ o. b ++ moved_entry other o) (sym at) ∙ ap (λ o. b ++ moved_to_buffer o (ways_of n m)) (sym item-is)

    pub moved-free : item_in_way m.sets x way (ways_of n (without_entry m other)) ≡ None
    moved-free = item_in_way-none n (without_entry m other) (are-below moved-kept) x way free
      where
        gone : (y : ℕ) → (y ≡ other) ⊎ (y ≡ other → ⊥) → StandsIn (without_entry m other) (x % m.sets) way y → ⊥
        gone y (inl same) stands = nothing (entry_of (without_entry m other) y) (subst (λ z. way_of (without_entry m other) z ≡ None) (sym same) (put-none m other).here) stands.1
          where
            nothing : (o : Option EntryValue) → option_map way_value o ≡ None → IsSomeAnd o (λ e. e.way ≡ way) → ⊥
            nothing None none h = h
            nothing (Some e) none h = absurd cc
        gone y (inr apart) stands =
            apart (sym ((only y).1 (stands.0, as_before (entry_of (without_entry m other) y) (entry_of m y) ((put-none m other).others y apart) stands.1)))
          where
            as_before : (o p : Option EntryValue) → option_map way_value o ≡ option_map way_value p → IsSomeAnd o (λ e. e.way ≡ way) → IsSomeAnd p (λ e. e.way ≡ way)
            as_before None p same h = absurd h
            as_before (Some e) None same h = absurd cc
            as_before (Some e) (Some g) same h =
                let one : way_value e ≡ way_value g = same_Some (way_value e) (way_value g) same in
                sym (ap (λ (v : WayValue). v.way) one) ∙ h

        free : IsFree (without_entry m other) (x % m.sets) way
        free y stands = gone y (equal_or_not y other) stands

    pub moved-absent : entry_at x (ways_of n m) b ≡ None → entry_at x (ways_of n (without_entry m other)) (b ++ moved ∷ []) ≡ None
    moved-absent absent =
        let apart : x ≢ other = λ same. none-some (way_value f) (sym (way_none absent) ∙ (ap (way_of m) same ∙ way-other)) in
        let no_way : way_of (without_entry m other) x ≡ None = (put-none m other).others x apart ∙ way_none absent in
        let no_buffer : buffered x (b ++ moved ∷ []) ≡ None = appended-other x apart ∙ buffered_none absent in
        entry-is moved-kept x ∙ rw (no_way, no_buffer) refl

    pub moved-waiting : waiting_item (ways_of n (without_entry m other)) (b ++ moved ∷ []) ≡ waiting_item (ways_of n m) b
    moved-waiting = waiting-is moved-kept ∙ sym (waiting-is kept)

-- the state and the words of an entry are its own
pub entry-both : (o : Option EntryValue) (p : ℕ × LeafState) (words : List ℕ) → Some p ≡ option_map way_and_state o → Some words ≡ option_map (λ e. e.words) o → o ≡ Some (record { way = p.0; state = p.1; words = words })
entry-both None p words first second = absurd cc
entry-both (Some e) p words first second =
    let one : p ≡ way_and_state e = same_Some p (way_and_state e) first in
    let two : words ≡ e.words = same_Some words e.words second in
    rw (one, two) refl

-- and it stands in some way
pub entry-told : (o : Option EntryValue) (s : LeafState) (words : List ℕ) → Some s ≡ option_map (λ e. e.state) o → Some words ≡ option_map (λ e. e.words) o → (way : ℕ) × (o ≡ Some (record { way = way; state = s; words = words }))
entry-told None s words first second = absurd cc
entry-told (Some e) s words first second = (e.way, rw (same_Some s e.state first, same_Some words e.words second) refl)

-- what is told where a call succeeds
pub told-ok : {X E : Type 0} (r : Result X E) {P : Type 0} → is_err r ≡ false → OnOk r P → P
told-ok (Ok x) h p = p
told-ok (Err e) h p = absurd cc

-- a way where no item stands
pub cleared-free : (x way : ℕ) (v : EntriesValue) → item_in_way v.sets x way v.ways ≡ None → cleared x way v ≡ v
cleared-free x way v free = rw free (ap (λ b. record v { buffer = b }) (append-nil v.buffer))

-- the entries after a change of the ways and of the buffer
pub fate-is : (x : ℕ) (f : Fate) (sets sets' room : ℕ) (before after : List (Option WayValue)) (b c : List BufferValue) → sets' ≡ sets → after ≡ ways_after x f before → c ≡ buffer_after x f before b → (let v : EntriesValue = record { sets = sets'; ways = after; buffer = c; room = room } in v ≡ with_fate x f (record { sets = sets; ways = before; buffer = b; room = room }))
fate-is x f sets sets' room before after b c same ways buffer = λ i. record { sets = same i; ways = ways i; buffer = buffer i; room = room }

pub cleared-is : (x way sets room : ℕ) (before after : List (Option WayValue)) (b c : List BufferValue) → after ≡ ways_without (item_in_way sets x way before) before → c ≡ b ++ moved_to_buffer (item_in_way sets x way before) before → (let v : EntriesValue = record { sets = sets; ways = after; buffer = c; room = room } in v ≡ cleared x way (record { sets = sets; ways = before; buffer = b; room = room }))
cleared-is x way sets room before after b c ways buffer = λ i. record { sets = sets; ways = ways i; buffer = buffer i; room = room }
