-- What a leaf shows after a hart's step on the flat machine: the hart's own leaf, when its turn completed the step, and
-- all others.
-- Letters: f is the flat machine before, h the hart, c the change of its step, v a leaf, k its number.
use Rattle.std.proofs.Common.{◌≡◌, ◌≢◌, ℕ, ◌<◌, Bool, true, false, List, [], length, Option, Some, None, is_some, refl, sym, ap, subst, ◌∙◌, ◌⊎◌, inl, inr, get_or-set_same, get_or-set_other}
use Rattle.std.specs.Prelude.{slice_set, map, option_map, if◌then◌else◌}
use Rattle.std.specs.List.{list_all}
use native.Mathlib.Decide.{ℕ_discrete}
use Rattle.std.proofs.lemmas.Bool.{true≢false, eq-eqb, eqb-true}
use Rattle.serving_model.specs.DdmTypes.declared.sizes.LeafState.{LeafState}
use Rattle.bus_laws.specs.FlatModel.Hart.{HartValue}
use Rattle.bus_laws.specs.FlatModel.Flat.{Stored, Change, FlatHart, FlatMachine, flat_hart, item_words, has_reserved, with_change}
use Rattle.bus_laws.proofs.FlatModel.Frames.{freed, other_hart, own_hart, other_words, own_words}
use Rattle.bus_laws.proofs.Lists.{pass-set}
use Rattle.bus_laws.proofs.HartFacts.{way-within}
use Rattle.serving_model.specs.TreeModel.State.States.{is_reading}
use Rattle.serving_model.specs.TreeModel.State.Values.{WayValue, BufferValue, LeafValue, leaf_node}
use Rattle.serving_model.specs.TreeModel.State.Leaf.{way_at, way_with, buffer_with, unreserved}
use Rattle.serving_model.specs.TreeModel.Turns.HartTurn.{completes, leaf_after_deed, ways_stored, buffer_stored}
use Rattle.serving_model.specs.Rest.{way_rests}
use Rattle.serving_model.specs.Parts.{FlatView, LeafHas, Settled}
use Rattle.serving_model.specs.Shows.{same_reservation, view}
use Rattle.serving_model.proofs.Settled.{LeafRests, leaf-rests, rests-leaf}

pub same-self : (r : Option ℕ) → same_reservation r r ≡ true
same-self None = refl
same-self (Some x) = eq-eqb x x refl

pub same-is : (a b : Option ℕ) → same_reservation a b ≡ true → a ≡ b
same-is None None e = refl
same-is None (Some y) e = absurd (true≢false (sym e))
same-is (Some x) None e = absurd (true≢false (sym e))
same-is (Some x) (Some y) e = ap Some (eqb-true x y e)

freed-hart : (stored : Option Stored) (g : FlatHart) → (freed stored g).hart ≡ g.hart
freed-hart None g = refl
freed-hart (Some s) g = refl

module _ (f : FlatMachine) (h : ℕ) (c : Change) where
  abbrev pub after : FlatMachine
  after = with_change f h c

  -- ---- other leaves

  -- a reservation of hart k that the store has ended
  pub record Ended (k : ℕ) (r : Option ℕ) : Type 0 where
    pub store : Stored
    pub is : c.stored ≡ Some store
    pub left : r ≡ unreserved store.item (flat_hart f k).reserved

  module _ (may : ℕ → Option ℕ → Bool) (allows : (k : ℕ) (r : Option ℕ) → may k r ≡ true → (r ≡ (flat_hart f k).reserved) ⊎ Ended k r) where
    abbrev pub before : FlatView
    before = record { words = item_words f; hart = λ k. (flat_hart f k).hart; may_reserve = may }

    module _ (k : ℕ) (hart : HartValue) (r : Option ℕ) (ways : List (Option WayValue)) (apart : k ≢ h) (lacks : (s : Stored) → c.stored ≡ Some s → way_at s.item ways ≡ None) (has : LeafHas before k hart r ways) where
      not-stored : (y : ℕ) (e : WayValue) → way_at y ways ≡ Some e → (s : Stored) → c.stored ≡ Some s → y ≢ s.item
      not-stored y e there s is same = none-some (sym (lacks s is) ∙ (ap (λ z. way_at z ways) (sym same) ∙ there)) where
        none-some : None ≡ Some e → ⊥
        none-some e = cc

      not-reserved : (s : Stored) → c.stored ≡ Some s → has_reserved r s.item ≡ false
      not-reserved s is = at (has_reserved r s.item) refl where
        at : (b : Bool) → has_reserved r s.item ≡ b → has_reserved r s.item ≡ false
        at false none = none
        at true some = absurd (true≢false (sym (has.here s.item some) ∙ ap is_some (lacks s is)))

      kept-reserved : (o : Option Stored) → c.stored ≡ o → (freed o (flat_hart f k)).reserved ≡ r
      kept-reserved None is = by (allows k r has.allowed) where
        by : (r ≡ (flat_hart f k).reserved) ⊎ Ended k r → (flat_hart f k).reserved ≡ r
        by (inl same) = sym same
        by (inr e) = absurd (none-some e.store (sym is ∙ e.is)) where
          none-some : (s : Stored) → None ≡ Some s → ⊥
          none-some s e = cc
      kept-reserved (Some s) is = by (allows k r has.allowed) where
        by : (r ≡ (flat_hart f k).reserved) ⊎ Ended k r → unreserved s.item (flat_hart f k).reserved ≡ r
        by (inl same) =
            let none : has_reserved (flat_hart f k).reserved s.item ≡ false = subst (λ o. has_reserved o s.item ≡ false) same (not-reserved s is) in
            rw none (sym same)
        by (inr e) = subst (λ z. unreserved z (flat_hart f k).reserved ≡ r) (ap (λ (z : Stored). z.item) (one e.store s (sym e.is ∙ is))) (sym e.left) where
          one : (a b : Stored) → Some a ≡ Some b → a ≡ b
          one a b e = cc

      pub other-leaf : LeafHas (view after) k hart r ways
      other-leaf =
          let same = other_hart f h c k apart in
          record {
            each = λ y e there reads. has.each y e there reads ∙ sym (other_words f h c y (not-stored y e there));
            same_hart = has.same_hart ∙ (sym (freed-hart c.stored (flat_hart f k)) ∙ ap (λ (g : FlatHart). g.hart) (sym same));
            allowed = subst (λ o. same_reservation o r ≡ true) (sym (ap (λ (g : FlatHart). g.reserved) same ∙ kept-reserved c.stored refl)) (same-self r);
            here = has.here;
          }

  -- ---- the hart's own leaf

  module _ (before : FlatView) (words-are : (y : ℕ) → before.words y ≡ item_words f y) (n : ℕ) (v : LeafValue) (number : v.number ≡ h) (in_range : h < length f.harts) (known : (s : Stored) → c.stored ≡ Some s → s.item < length f.words)
      (settled : Settled n before (leaf_node v)) (kept : (y : ℕ) → has_reserved c.after.reserved y ≡ true → is_some (way_at y v.ways) ≡ true) where
    r : LeafRests v
    r = leaf-rests v settled.rests

    abbrev u : LeafValue
    u = leaf_after_deed v (completes c)

    -- the ways afterwards: where it stored, the entry is Exclusive with the new words
    record WaysAre (ways : List (Option WayValue)) (buffer : List BufferValue) : Type 0 where
      rests : list_all way_rests ways ≡ true
      empty : buffer ≡ []
      each : (y : ℕ) (e : WayValue) → way_at y ways ≡ Some e → is_reading e.state ≡ false → e.words ≡ item_words after y
      there : (y : ℕ) → is_some (way_at y v.ways) ≡ true → is_some (way_at y ways) ≡ true

    unstored : c.stored ≡ None → WaysAre v.ways v.buffer
    unstored none = record {
      rests = r.ways;
      empty = r.buffer;
      each = λ y e there reads. settled.copies.each y e there reads ∙ (words-are y ∙ sym (other_words f h c y (λ s is. absurd (none-some s (sym none ∙ is)))));
      there = λ y some. some;
    } where
      none-some : (s : Stored) → None ≡ Some s → ⊥
      none-some s e = cc

    module _ (s : Stored) (is : c.stored ≡ Some s) (e : WayValue) (there : way_at s.item v.ways ≡ Some e) where
      abbrev new : WayValue
      new = way_with LeafState.Exclusive s.words e

      inside : s.item < length v.ways
      inside = way-within s.item v.ways e there

      here-new : way_at s.item (slice_set v.ways s.item (Some new)) ≡ Some new
      here-new = get_or-set_same v.ways s.item (Some new) None inside

      stored-ways : WaysAre (slice_set v.ways s.item (Some new)) []
      stored-ways = record {
        rests = pass-set way_rests v.ways s.item (Some new) r.ways refl;
        empty = refl;
        each = λ y d at reads. words-of y d at reads (ℕ_discrete y s.item);
        there = λ y some. stays y some (ℕ_discrete y s.item);
      } where
        stays : (y : ℕ) → is_some (way_at y v.ways) ≡ true → Dec (y ≡ s.item) → is_some (way_at y (slice_set v.ways s.item (Some new))) ≡ true
        stays y some (yes same) = subst (λ z. is_some (way_at z (slice_set v.ways s.item (Some new))) ≡ true) (sym same) (ap is_some here-new)
        stays y some (no other) = ap is_some (get_or-set_other v.ways s.item y (Some new) None other) ∙ some

        one : (a b : WayValue) → Some a ≡ Some b → a ≡ b
        one a b e = cc

        one-store : (a b : Stored) → Some a ≡ Some b → a ≡ b
        one-store a b e = cc

        words-of : (y : ℕ) (d : WayValue) → way_at y (slice_set v.ways s.item (Some new)) ≡ Some d → is_reading d.state ≡ false → Dec (y ≡ s.item) → d.words ≡ item_words after y
        words-of y d at reads (yes same) =
            let entry : d ≡ new = one d new (sym at ∙ (ap (λ z. way_at z (slice_set v.ways s.item (Some new))) same ∙ here-new)) in
            ap (λ (z : WayValue). z.words) entry ∙ (sym (own_words f h c s is (known s is)) ∙ ap (item_words after) (sym same))
        words-of y d at reads (no other) =
            let was : way_at y v.ways ≡ Some d = sym (get_or-set_other v.ways s.item y (Some new) None other) ∙ at in
            settled.copies.each y d was reads ∙ (words-are y ∙ sym (other_words f h c y (λ z is-z same. other (same ∙ ap (λ (a : Stored). a.item) (one-store z s (sym is-z ∙ is))))))

      stored-is : WaysAre (ways_stored (Some s) v.ways) (buffer_stored (Some s) v.ways v.buffer)
      stored-is = subst (λ ways. WaysAre ways (buffer_stored (Some s) v.ways v.buffer)) (sym ways) (subst (WaysAre (slice_set v.ways s.item (Some new))) (sym buffer) stored-ways) where
        ways : ways_stored (Some s) v.ways ≡ slice_set v.ways s.item (Some new)
        ways = ap (λ o. slice_set v.ways s.item (option_map (way_with LeafState.Exclusive s.words) o)) there

        buffer : buffer_stored (Some s) v.ways v.buffer ≡ []
        buffer = ap (λ (o : Option WayValue). if is_some o then v.buffer else map (buffer_with s.item LeafState.Exclusive s.words) v.buffer) there ∙ r.buffer

    ways-are : ((s : Stored) → c.stored ≡ Some s → (e : WayValue) × (way_at s.item v.ways ≡ Some e)) → (o : Option Stored) → c.stored ≡ o → WaysAre (ways_stored o v.ways) (buffer_stored o v.ways v.buffer)
    ways-are entry None is = unstored is
    ways-are entry (Some s) is =
        let e = entry s is in
        stored-is s is e.0 e.1

    pub own-leaf : ((s : Stored) → c.stored ≡ Some s → (e : WayValue) × (way_at s.item v.ways ≡ Some e)) → Settled n (view after) (leaf_node u)
    own-leaf entry =
        let w = ways-are entry c.stored refl in
        let own : flat_hart after v.number ≡ c.after = ap (flat_hart after) number ∙ own_hart f h c in_range in
        record {
          rests = rests-leaf u (record { ways = w.rests; buffer = w.empty; slot = r.slot; replies = r.replies });
          room = settled.room;
          copies = record {
            each = w.each;
            same_hart = sym (ap (λ (g : FlatHart). g.hart) own);
            allowed = subst (λ (g : FlatHart). same_reservation g.reserved c.after.reserved ≡ true) (sym own) (same-self c.after.reserved);
            here = λ y has. w.there y (kept y has);
          };
        }
