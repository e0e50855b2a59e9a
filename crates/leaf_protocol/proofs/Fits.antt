-- What the entries keep, as one item's changes at a time.
use Rattle.std.proofs.Common.{◌≡◌, ◌≢◌, ℕ, ◌<◌, ◌≤◌, Bool, true, false, cond, ◌||◌, nat_eq, List, map, get_or, Option, Some, None, refl, sym, ap, subst, ◌∙◌, ◌⊎◌, inl, inr, arith, true≢false}
use Rattle.std.specs.Prelude.{find, is_some, option_map}
use Rattle.std.proofs.lemmas.Bool.{eqb-true, eq-eqb, ne_eqb}
use Rattle.std.proofs.lemmas.Option.{same_Some}
use Rattle.leaf_protocol.specs.DdmTypes.declared.sizes.LeafState.{LeafState}
use Rattle.leaf_protocol.specs.FlatModel.Flat.{has_reserved}
use Rattle.leaf_protocol.specs.TreeModel.State.States.{is_waiting}
use Rattle.leaf_protocol.specs.TreeModel.State.Shape.{are_distinct}
use Rattle.leaf_protocol.specs.TreeModel.State.Lists.{find_from, first_some}
use Rattle.leaf_protocol.specs.TreeModel.State.Values.{WayValue, BufferValue}
use Rattle.leaf_protocol.specs.TreeModel.State.Leaf.{LeafEntry, way_entry, buffer_entry, way_at, entry_at, buffer_item, buffered, buffer_waits, way_waits, waiting_item}
use Rattle.attraction_mem.specs.Memory.{MemoryValue}
use Rattle.attraction_mem.proofs.Holding.{equal_or_not}
use Rattle.leaf_protocol.specs.Entries.{way_of, ways_of, ItemFits, AreEntries, waiting_after, waits_now, may_be}
use Rattle.leaf_protocol.proofs.Ways.{AreBelow, IsPut, ways_of-length, ways_of-inside, way_at-ways_of, find_from-only, find_from-none}
use Rattle.leaf_protocol.proofs.Buffered.{find-passes, find-buffered, find-some}

-- ---- of one item

-- what it has, wherever it stands
abbrev pub entry_in : Option WayValue → Option BufferValue → Option LeafEntry
entry_in a b = first_some (option_map way_entry a) (option_map buffer_entry b)

-- an item past the last has none
fits-past : (n width : ℕ) (w : Option ℕ) (x : ℕ) (a : Option WayValue) (b : Option BufferValue) → n ≤ x → ItemFits n width w x a b → a ≡ None
fits-past n width w x None b past fits = refl
fits-past n width w x (Some e) None past fits = let inside = fits.inside in absurd (omega arith)
fits-past n width w x (Some e) (Some f) past fits = absurd fits

-- it is named exactly where its entry waits
pub fits-named : (n width : ℕ) (w : Option ℕ) (x : ℕ) (a : Option WayValue) (b : Option BufferValue) → ItemFits n width w x a b → has_reserved w x ≡ waits_now (entry_in a b)
fits-named n width w x None None fits = fits
fits-named n width w x None (Some e) fits = fits.named
fits-named n width w x (Some e) None fits = fits.named
fits-named n width w x (Some e) (Some f) fits = absurd fits

-- one that has an entry in a way has none in the buffer
pub way-alone : (n width : ℕ) (w : Option ℕ) (x : ℕ) (e : WayValue) (b : Option BufferValue) → ItemFits n width w x (Some e) b → b ≡ None
way-alone n width w x e None fits = refl
way-alone n width w x e (Some f) fits = absurd fits

pub buffer-alone : (n width : ℕ) (w : Option ℕ) (x : ℕ) (a : Option WayValue) (e : BufferValue) → ItemFits n width w x a (Some e) → a ≡ None
buffer-alone n width w x None e fits = refl
buffer-alone n width w x (Some f) e fits = absurd fits

-- what is the same of it fits the same
fits-same : (n width : ℕ) (v w : Option ℕ) (x : ℕ) (a c : Option WayValue) (b d : Option BufferValue) → c ≡ a → d ≡ b → has_reserved v x ≡ has_reserved w x → ItemFits n width w x a b → ItemFits n width v x c d
fits-same n width v w x None c None d same_way same_buffer same fits = rw (same_way, same_buffer) (same ∙ fits)
fits-same n width v w x None c (Some e) d same_way same_buffer same fits = rw (same_way, same_buffer) (record { inside = fits.inside; named = same ∙ fits.named; blank_words = fits.blank_words })
fits-same n width v w x (Some e) c None d same_way same_buffer same fits = rw (same_way, same_buffer) (record { inside = fits.inside; named = same ∙ fits.named; blank_words = fits.blank_words })
fits-same n width v w x (Some e) c (Some f) d same_way same_buffer same fits = absurd fits

-- ---- the item that waits

named-is : (w : Option ℕ) (x : ℕ) → has_reserved w x ≡ true → w ≡ Some x
named-is None x e = absurd cc
named-is (Some y) x e = ap Some (eqb-true y x e)

pub after-same : (x y : ℕ) (waits : Bool) (w : Option ℕ) (state : LeafState) (before : Option LeafEntry) → is_waiting state ≡ waits → may_be state before w ≡ true → has_reserved w x ≡ waits_now before → y ≢ x → has_reserved (waiting_after x waits w) y ≡ has_reserved w y
after-same x y false None state before is may named other = refl
after-same x y false (Some z) state before is may named other =
    elim (nat_eq z x) as (λ b. nat_eq z x ≡ b → has_reserved (cond b None (Some z)) y ≡ nat_eq z y) [
      | true ↦ λ e. sym (ne_eqb z y (λ same. other (sym same ∙ eqb-true z x e)))
      | false ↦ λ e. refl
    ] refl
after-same x y true None state before is may named other = ne_eqb x y (λ same. other (sym same))
after-same x y true (Some z) state before is may named other =
    let waited : (waits_now before || false) ≡ true = rw is at may in
    let here : nat_eq z x ≡ true = named ∙ or-false (waits_now before) waited in
    ap (λ k. nat_eq k y) (sym (eqb-true z x here))
  where
    or-false : (b : Bool) → (b || false) ≡ true → b ≡ true
    or-false true e = refl
    or-false false e = e

pub after-named : (x : ℕ) (waits : Bool) (w : Option ℕ) → has_reserved (waiting_after x waits w) x ≡ waits
after-named x true w = eq-eqb x x refl
after-named x false None = refl
after-named x false (Some z) = elim (nat_eq z x) as (λ b. nat_eq z x ≡ b → has_reserved (cond b None (Some z)) x ≡ false) [ true ↦ λ e. refl | false ↦ λ e. e ] refl

-- ---- all items

module _ {ways width n : ℕ} {m : MemoryValue} {b : List BufferValue} {w : Option ℕ} (kept : AreEntries ways width n m b w) where
  pub are-below : AreBelow n m
  are-below x past = fits-past n width w x (way_of m x) (buffered x b) past (kept.each x)

  pub way-is : (x : ℕ) → way_at x (ways_of n m) ≡ way_of m x
  way-is x = way_at-ways_of n m x are-below

  -- the entry of an item, as the tables have it
  pub entry-is : (x : ℕ) → entry_at x (ways_of n m) b ≡ entry_in (way_of m x) (buffered x b)
  unfolding entry_at
  entry-is x = ap (λ a. entry_in a (buffered x b)) (way-is x)

  pub entry-named : (x : ℕ) → has_reserved w x ≡ waits_now (entry_at x (ways_of n m) b)
  entry-named x = fits-named n width w x (way_of m x) (buffered x b) (kept.each x) ∙ ap waits_now (sym (entry-is x))

  -- the entry of an item changes, and no other's
  pub kept-at : (k : MemoryValue) (c : List BufferValue) (v : Option ℕ) (x : ℕ) (o : Option WayValue) (p : Option BufferValue) → IsPut m k x o → are_distinct (map buffer_item c) ≡ true → buffered x c ≡ p → ((y : ℕ) → y ≢ x → buffered y c ≡ buffered y b) → ((y : ℕ) → y ≢ x → has_reserved v y ≡ has_reserved w y) → ItemFits n width v x o p → AreEntries ways width n k c v
  kept-at k c v x o p put once here others named fits = record {
    some_ways = kept.some_ways;
    words_fit = kept.words_fit;
    once = once;
    each = λ y. at y (equal_or_not y x);
  }
    where
      at : (y : ℕ) → (y ≡ x) ⊎ (y ≡ x → ⊥) → ItemFits n width v y (way_of k y) (buffered y c)
      at y (inl same) = rw (same, put.here, here) fits
      at y (inr other) = fits-same n width v w y (way_of m y) (way_of k y) (buffered y b) (buffered y c) (put.others y other) (others y other) (named y other) (kept.each y)

  -- ---- the item that waits is the tables'

  way-named : (x : ℕ) → way_waits x (way_of m x) ≡ true → has_reserved w x ≡ true
  way-named x waits = go (way_of m x) (buffered x b) (kept.each x) waits
    where
      go : (a : Option WayValue) (o : Option BufferValue) → ItemFits n width w x a o → way_waits x a ≡ true → has_reserved w x ≡ true
      go None o fits h = absurd cc
      go (Some e) None fits h = fits.named ∙ h
      go (Some e) (Some f) fits h = absurd fits

  found-named : (e : BufferValue) → find buffer_waits b ≡ Some e → has_reserved w e.item ≡ true
  found-named e found =
      go (way_of m e.item) (subst (λ o. ItemFits n width w e.item (way_of m e.item) o) (find-buffered buffer_waits b e kept.once found) (kept.each e.item))
    where
      go : (a : Option WayValue) → ItemFits n width w e.item a (Some e) → has_reserved w e.item ≡ true
      go None fits = fits.named ∙ find-passes buffer_waits b e found
      go (Some f) fits = absurd fits

  -- where no way of the list waits
  no-way : ((x : ℕ) → way_waits x (way_of m x) ≡ false) → find_from way_waits 0 (ways_of n m) ≡ None
  no-way none = find_from-none way_waits 0 (ways_of n m) None (λ a k same lt. rw (ways_of-inside n m a None (subst (λ l. a < l) (ways_of-length n m) lt)) (none' a k (omega arith)))
    where
      none' : (a k : ℕ) → k ≡ a → way_waits k (way_of m a) ≡ false
      none' a k same = subst (λ z. way_waits z (way_of m a) ≡ false) (sym same) (none a)

  way-fails : (x : ℕ) (t : Bool) → way_waits x (way_of m x) ≡ t → (t ≡ true → ⊥) → t ≡ false
  way-fails x true e h = absurd (h refl)
  way-fails x false e h = refl

  waiting-none : w ≡ None → waiting_item (ways_of n m) b ≡ w
  unfolding waiting_item
  waiting-none is =
      let first = no-way (λ x. way-fails x (way_waits x (way_of m x)) refl (λ h. unnamed x (way-named x h))) in
      rw (first, second (find buffer_waits b) refl) (sym is)
    where
      unnamed : (x : ℕ) → has_reserved w x ≡ true → ⊥
      unnamed x h = true≢false (sym h ∙ ap (λ o. has_reserved o x) is)

      second : (o : Option BufferValue) → find buffer_waits b ≡ o → find buffer_waits b ≡ None
      second None e = e
      second (Some e) found = absurd (unnamed e.item (found-named e found))

  -- the entry of the item that waits is in a way
  waiting-way : (x : ℕ) (e : WayValue) → w ≡ Some x → way_of m x ≡ Some e → is_waiting e.state ≡ true → x < n → waiting_item (ways_of n m) b ≡ Some x
  unfolding waiting_item
  waiting-way x e is there waits inside =
      let read : get_or (ways_of n m) x None ≡ Some e = ways_of-inside n m x None inside ∙ there in
      let first : find_from way_waits 0 (ways_of n m) ≡ Some x =
      find_from-only way_waits 0 x x (ways_of n m) None (omega arith) (rw (ways_of-length n m) inside) (rw read waits) (λ a k same lt passes.
      let within : a < n = subst (λ l. a < l) (ways_of-length n m) lt in
      let k_is : k ≡ a = omega arith in
      let named = way-named a (rw (k_is, ways_of-inside n m a None within) at passes) in
      let one : Some x ≡ Some a = sym is ∙ named-is w a named in
      sym (same_Some x a one)) in
      rw first refl

  -- or in the buffer
  waiting-buffer : (x : ℕ) (e : BufferValue) → w ≡ Some x → way_of m x ≡ None → buffered x b ≡ Some e → is_waiting e.state ≡ true → waiting_item (ways_of n m) b ≡ Some x
  unfolding waiting_item
  waiting-buffer x e is none there waits =
      let first = no-way (λ y. way-fails y (way_waits y (way_of m y)) refl (λ h.
      let one : Some x ≡ Some y = sym is ∙ named-is w y (way-named y h) in
      let same : x ≡ y = same_Some x y one in
      let read : way_of m y ≡ None = ap (way_of m) (sym same) ∙ none in
      true≢false (sym h ∙ ap (way_waits y) read))) in
      rw first (second (find buffer_waits b) refl (find-some buffer_waits x b e there waits))
    where
      second : (o : Option BufferValue) → find buffer_waits b ≡ o → is_some o ≡ true → option_map buffer_item o ≡ Some x
      second None found h = absurd cc
      second (Some f) found h = sym (named-is w f.item (found-named f found)) ∙ is

  waiting-some : (x : ℕ) → w ≡ Some x → (a : Option WayValue) (o : Option BufferValue) → way_of m x ≡ a → buffered x b ≡ o → ItemFits n width w x a o → has_reserved w x ≡ true → waiting_item (ways_of n m) b ≡ Some x
  waiting-some x is None None way buffer fits named = absurd (true≢false (sym named ∙ fits))
  waiting-some x is None (Some e) way buffer fits named = waiting-buffer x e is way buffer (sym fits.named ∙ named)
  waiting-some x is (Some e) None way buffer fits named = waiting-way x e is way (sym fits.named ∙ named) fits.inside
  waiting-some x is (Some e) (Some f) way buffer fits named = absurd fits

  pub waiting-is : waiting_item (ways_of n m) b ≡ w
  waiting-is = go w refl
    where
      go : (o : Option ℕ) → w ≡ o → waiting_item (ways_of n m) b ≡ w
      go None is = waiting-none is
      go (Some x) is = waiting-some x is (way_of m x) (buffered x b) refl refl (kept.each x) (ap (λ o. has_reserved o x) is ∙ eq-eqb x x refl) ∙ sym is
