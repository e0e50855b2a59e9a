-- What the calls that put an entry leave, and whether a way is taken.
use Rattle.std.proofs.Common.{◌≡◌, ◌≢◌, ℕ, ◌%◌, ◌<◌, true, cond, List, [], ◌∷◌, ◌++◌, Option, Some, None, refl, ap, subst, ◌∙◌, ◌↔◌}
use Rattle.std.specs.Prelude.{is_some}
use Rattle.std.proofs.lemmas.Bool.{eq-eqb, ne_eqb}
use Rattle.std.proofs.lemmas.Option.{none-some, same_Some}
use Rattle.leaf_protocol.specs.DdmTypes.declared.sizes.LeafState.{LeafState}
use Rattle.leaf_protocol.specs.FlatModel.Flat.{has_reserved}
use Rattle.leaf_protocol.specs.TreeModel.State.States.{is_waiting}
use Rattle.leaf_protocol.specs.TreeModel.State.Values.{BufferValue}
use Rattle.leaf_protocol.specs.TreeModel.State.Leaf.{entry_at, buffer_item, buffered, is_buffered, words_in, waiting_item, item_in_way}
use Rattle.attraction_mem.specs.Memory.{MemoryValue, StandsIn, with_entry}
use Rattle.replacement.proofs.Once.{once-append}
use Rattle.leaf_protocol.specs.Entries.{ways_of, EntryFits, AreEntries, waiting_after, waits_now, may_be}
use Rattle.leaf_protocol.proofs.Ways.{put-entry, item_in_way-only, item_in_way-none}
use Rattle.leaf_protocol.proofs.Buffered.{buffered-append}
use Rattle.leaf_protocol.proofs.Fits.{after-same, after-named, are-below, entry-named, kept-at, waiting-is}
use Rattle.leaf_protocol.proofs.Changing.{buffered_none, way_none, words_in-twice}

module _ {ways width n : ℕ} {m : MemoryValue} {b : List BufferValue} {w : Option ℕ} (kept : AreEntries ways width n m b w) (x : ℕ) where
  pub is-taken : (way : ℕ) (o : Option ℕ) → ((y : ℕ) → (o ≡ Some y) ↔ StandsIn m (x % m.sets) way y) → is_some o ≡ is_some (item_in_way m.sets x way (ways_of n m))
  is-taken way None is = rw (item_in_way-none n m (are-below kept) x way (λ y there. absurd (none-some y ((is y).1 there)))) refl
  is-taken way (Some y) is = rw (item_in_way-only n m (are-below kept) x way y ((is y).0 refl) (λ z there. same_Some y z ((is z).1 there))) refl

  -- an entry comes
  module _ (s : LeafState) (words : List ℕ) (absent : entry_at x (ways_of n m) b ≡ None) (inside : x < n) (alone : may_be s None (waiting_item (ways_of n m) b) ≡ true) where
    suits : EntryFits n width (waiting_after x (is_waiting s) w) x s (words_in s width words)
    suits = record { inside = inside; named = after-named x (is_waiting s) w; blank_words = words_in-twice s width words }

    others-named : (y : ℕ) → y ≢ x → has_reserved (waiting_after x (is_waiting s) w) y ≡ has_reserved w y
    others-named y other =
        after-same x y (is_waiting s) w s None refl (subst (λ o. may_be s None o ≡ true) (waiting-is kept) alone) (entry-named kept x ∙ ap waits_now absent) other

    -- in a way
    pub stand-kept : (way : ℕ) → AreEntries ways width n (with_entry m x way s (words_in s width words)) b (waiting_after x (is_waiting s) w)
    stand-kept way =
        kept-at kept (with_entry m x way s (words_in s width words)) b (waiting_after x (is_waiting s) w) x (Some (record { way = way; state = s; words = words_in s width words })) None (put-entry m x way s (words_in s width words))
        kept.once (buffered_none kept x absent) (λ y other. refl) others-named suits

    -- in the buffer
    abbrev come : BufferValue
    come = record { item = x; state = s; words = words_in s width words }

    come-here : buffered x (b ++ come ∷ []) ≡ Some come
    come-here = buffered-append x b come ∙ rw (buffered_none kept x absent, eq-eqb x x refl) refl

    come-other : (y : ℕ) → y ≢ x → buffered y (b ++ come ∷ []) ≡ buffered y b
    come-other y apart = buffered-append y b come ∙ go (buffered y b)
      where
        go : (o : Option BufferValue) → (elim o as (λ o. Option BufferValue) [ None ↦ cond (is_buffered y come) (Some come) None | Some g ↦ Some g ]) ≡ o
        go None = rw (ne_eqb y x apart) refl
        go (Some g) = refl

    pub put-kept : AreEntries ways width n m (b ++ come ∷ []) (waiting_after x (is_waiting s) w)
    put-kept =
        kept-at kept m (b ++ come ∷ []) (waiting_after x (is_waiting s) w) x None (Some come) (record { sets = refl; here = way_none kept x absent; others = λ y other. refl })
        (once-append buffer_item b come kept.once (buffered_none kept x absent)) come-here come-other others-named suits
