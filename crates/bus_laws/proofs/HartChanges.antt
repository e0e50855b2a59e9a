-- What stands where after one item's entry was changed, moved to the buffer, or came.
use Rattle.std.proofs.Common.{◌≡◌, ◌≢◌, ℕ, zero, suc, ◌%◌, ◌<◌, true, false, List, [], ◌∷◌, ◌++◌, map, length, Option, Some, None, refl, sym, ap, subst, ◌∙◌, inl, inr}
use Rattle.std.specs.Prelude.{not, nat_eq, is_some, find, option_map, slice_index_or, slice_set}
use Rattle.std.specs.List.{All, list_any}
use Rattle.std.specs.Cmp.Derive.{both_true}
use Rattle.std.proofs.lemmas.Bool.{eqb-true, eqb-false, eq-eqb, ne_eqb, not-true, not_from_false, and_parts, or_parts}
use Rattle.std.proofs.lemmas.Bool.Decides.{eqb_tells}
use Rattle.std.proofs.lemmas.List.{get_or-set_same, get_or-set_other, length-set}
use Rattle.std.proofs.lemmas.List.Elements.{All-head, All-tail, All-push, All-map, All-weaker}
use Rattle.bus_laws.specs.DdmTypes.declared.sizes.LeafState.{LeafState}
use Rattle.bus_laws.specs.TreeModel.State.Lists.{first_some}
use Rattle.bus_laws.specs.TreeModel.State.States.{is_reading}
use Rattle.bus_laws.specs.TreeModel.State.Shape.{are_distinct}
use Rattle.bus_laws.specs.TreeModel.State.Values.{WayValue, BufferValue, LeafSizes}
use Rattle.bus_laws.specs.TreeModel.State.Leaf.{LeafEntry, way_at, buffer_item, is_buffered, buffered, way_entry, buffer_entry, entry_at, becomes, enters, ways_after, buffer_after, way_with, buffer_with}
use Rattle.bus_laws.proofs.TreeModel.Tests.{first_some-none_first, first_some-none_second}
use Rattle.tree_rules.specs.Bus.Own.{are_zero, words_suit}
use Rattle.tree_rules.specs.Bus.Item.{implies}
use Rattle.tree_rules.proofs.Implying.{implies-false}
use Rattle.bus_laws.proofs.HartFacts.{find-fails, fails-find, find-holds, find-append, StandsAside, HasEntries, way-within}

-- ---- a list with one place set

pub way-set_other : (ways : List (Option WayValue)) (x y : ℕ) (o : Option WayValue) → y ≢ x → way_at y (slice_set ways x o) ≡ way_at y ways
way-set_other ways x y o other = get_or-set_other ways x y o None other

pub way-set_none : (ways : List (Option WayValue)) (x : ℕ) → way_at x (slice_set ways x None) ≡ None
way-set_none [] x = refl
way-set_none (o ∷ ways) zero = refl
way-set_none (o ∷ ways) (suc x) = way-set_none ways x

pub way-set_changed : (g : WayValue → WayValue) (ways : List (Option WayValue)) (x : ℕ) → way_at x (slice_set ways x (option_map g (way_at x ways))) ≡ option_map g (way_at x ways)
way-set_changed g [] x = refl
way-set_changed g (o ∷ ways) zero = refl
way-set_changed g (o ∷ ways) (suc x) = way-set_changed g ways x

-- ---- an entry gets another state and other words

abbrev pub entry_with : LeafState → List ℕ → LeafEntry → LeafEntry
entry_with s w e = record { state = s; words = w }

module _ (x : ℕ) (s : LeafState) (w : List ℕ) where
  buffer_with-item : (e : BufferValue) → (buffer_with x s w e).item ≡ e.item
  buffer_with-item e = elim (is_buffered x e) as (λ b. is_buffered x e ≡ b → (buffer_with x s w e).item ≡ e.item) [ true ↦ λ is. rw is refl | false ↦ λ is. rw is refl ] refl

  buffer_with-items : (es : List BufferValue) → map buffer_item (map (buffer_with x s w) es) ≡ map buffer_item es
  buffer_with-items [] = refl
  buffer_with-items (e ∷ es) = rw (buffer_with-item e) (ap (λ is. e.item ∷ is) (buffer_with-items es))

  buffered-changed : (y : ℕ) (es : List BufferValue) → buffered y (map (buffer_with x s w) es) ≡ option_map (buffer_with x s w) (buffered y es)
  buffered-changed y [] = refl
  buffered-changed y (e ∷ es) =
      let same : is_buffered y (buffer_with x s w e) ≡ is_buffered y e = ap (nat_eq y) (buffer_with-item e) in
      elim (is_buffered y e) as (λ b. is_buffered y e ≡ b → buffered y (map (buffer_with x s w) (e ∷ es)) ≡ option_map (buffer_with x s w) (buffered y (e ∷ es))) [
        | true ↦ λ is. rw (same, is) refl
        | false ↦ λ is. rw (same, is) (buffered-changed y es)
      ] refl

  pub entry-becomes : (ways : List (Option WayValue)) (buffer : List BufferValue) → entry_at x (ways_after x (becomes s w) ways) (buffer_after x (becomes s w) ways buffer) ≡ option_map (entry_with s w) (entry_at x ways buffer)
  unfolding entry_at
  entry-becomes ways buffer =
      let set = way-set_changed (way_with s w) ways x in
      elim (way_at x ways) as (λ o. way_at x ways ≡ o → entry_at x (ways_after x (becomes s w) ways) (buffer_after x (becomes s w) ways buffer) ≡ option_map (entry_with s w) (entry_at x ways buffer)) [
        | Some e ↦ λ is. rw (set, is) refl
        | None ↦ λ no.
            elim (buffered x buffer) as (λ o. buffered x buffer ≡ o → entry_at x (ways_after x (becomes s w) ways) (buffer_after x (becomes s w) ways buffer) ≡ option_map (entry_with s w) (entry_at x ways buffer)) [
              | Some e ↦ λ is.
                  let named : is_buffered x e ≡ true = (find-holds (λ (f : BufferValue). Unit {0}) (is_buffered x) buffer e (λ k d l. tt) is).1 in
                  rw (set, no, buffered-changed x buffer, is, named) refl
              | None ↦ λ is. rw (set, no, buffered-changed x buffer, is) refl
            ] refl
      ] refl

  pub entry-becomes_other : (ways : List (Option WayValue)) (buffer : List BufferValue) (y : ℕ) → y ≢ x → entry_at y (ways_after x (becomes s w) ways) (buffer_after x (becomes s w) ways buffer) ≡ entry_at y ways buffer
  unfolding entry_at
  entry-becomes_other ways buffer y other =
      let set : way_at y (ways_after x (becomes s w) ways) ≡ way_at y ways = way-set_other ways x y _ other in
      let kept : option_map buffer_entry (buffered y (buffer_after x (becomes s w) ways buffer)) ≡ option_map buffer_entry (buffered y buffer) = buffer-kept in
      rw (set, kept) refl
    where
      buffer-kept : option_map buffer_entry (buffered y (buffer_after x (becomes s w) ways buffer)) ≡ option_map buffer_entry (buffered y buffer)
      buffer-kept =
          elim (is_some (way_at x ways)) as (λ b. is_some (way_at x ways) ≡ b → option_map buffer_entry (buffered y (buffer_after x (becomes s w) ways buffer)) ≡ option_map buffer_entry (buffered y buffer)) [
            | true ↦ λ is. rw is refl
            | false ↦ λ is.
                elim (buffered y buffer) as (λ o. buffered y buffer ≡ o → option_map buffer_entry (buffered y (buffer_after x (becomes s w) ways buffer)) ≡ option_map buffer_entry (buffered y buffer)) [
                  | Some e ↦ λ found.
                      let named : is_buffered y e ≡ true = (find-holds (λ (f : BufferValue). Unit {0}) (is_buffered y) buffer e (λ k d l. tt) found).1 in
                      let item : y ≡ e.item = eqb-true _ _ named in
                      let free : is_buffered x e ≡ false = ne_eqb _ _ (λ same. other (item ∙ sym same)) in
                      rw (is, buffered-changed y buffer, found, free) refl
                  | None ↦ λ found. rw (is, buffered-changed y buffer, found) refl
                ] refl
          ] refl

  module _ (n : ℕ) (sizes : LeafSizes) (ways : List (Option WayValue)) (buffer : List BufferValue) (suits : words_suit s w ≡ true) (has : HasEntries n sizes ways buffer) where
    record WayBefore (y : ℕ) (after : WayValue) : Type 0 where
      before : WayValue
      there : way_at y ways ≡ Some before
      way : after.way ≡ before.way
      words : words_suit after.state after.words ≡ true

    way-before : (y : ℕ) (f : WayValue) → way_at y (ways_after x (becomes s w) ways) ≡ Some f → WayBefore y f
    way-before y f is =
        elim (eqb_tells y x) [
          | inl same ↦
              let here : way_at x (ways_after x (becomes s w) ways) ≡ Some f = subst (λ k. way_at k (ways_after x (becomes s w) ways) ≡ Some f) same.1 is in
              let changed_here : option_map (way_with s w) (way_at x ways) ≡ Some f = sym (way-set_changed (way_with s w) ways x) ∙ here in
              subst (λ k. WayBefore k f) (sym same.1) (at_x f changed_here)
          | inr other ↦
              let there : way_at y ways ≡ Some f = sym (way-set_other ways x y _ other.1) ∙ is in
              record { before = f; there = there; way = refl; words = (has.fits y f there).1 }
        ] where
          at_x : (f : WayValue) → option_map (way_with s w) (way_at x ways) ≡ Some f → WayBefore x f
          at_x f h =
              elim (way_at x ways) as (λ o. way_at x ways ≡ o → WayBefore x f) [
                | Some e ↦ λ is.
                    let same : Some (way_with s w e) ≡ Some f = rw is at h in
                    let equal : way_with s w e ≡ f = cc in
                    subst (λ g. WayBefore x g) equal (record { before = e; there = is; way = refl; words = suits })
                | None ↦ λ no.
                    let wrong : None ≡ Some f = rw no at h in
                    cc
              ] refl

    aside-kept : (e : BufferValue) → StandsAside n ways e → way_at e.item (ways_after x (becomes s w) ways) ≡ None
    aside-kept e a =
        elim (eqb_tells e.item x) [
          | inl same ↦ subst (λ k. way_at k (ways_after x (becomes s w) ways) ≡ None) (sym same.1) (way-set_changed (way_with s w) ways x ∙ ap (option_map (way_with s w)) (subst (λ k. way_at k ways ≡ None) same.1 a.alone))
          | inr other ↦ way-set_other ways x e.item _ other.1 ∙ a.alone
        ]

    stays-aside : (e : BufferValue) → StandsAside n ways e → StandsAside n (ways_after x (becomes s w) ways) e
    stays-aside e a = record { known = a.known; alone = aside-kept e a; words = a.words }

    changed-aside : (e : BufferValue) → StandsAside n ways e → StandsAside n (ways_after x (becomes s w) ways) (buffer_with x s w e)
    changed-aside e a =
        elim (is_buffered x e) as (λ b. is_buffered x e ≡ b → StandsAside n (ways_after x (becomes s w) ways) (buffer_with x s w e)) [
          | true ↦ λ is. rw is (record { known = a.known; alone = aside-kept e a; words = suits })
          | false ↦ λ is. rw is (stays-aside e a)
        ] refl

    pub entries-become_suited : HasEntries n sizes (ways_after x (becomes s w) ways) (buffer_after x (becomes s w) ways buffer)
    entries-become_suited = record {
      count = length-set ways x _ ∙ has.count;
      fits = λ y f is.
          let b = way-before y f is in
          (subst (λ k. k < sizes.way_count) (sym b.way) (has.fits y b.before b.there).0, b.words);
      alone = λ y z f g at_y at_z set there.
          let b = way-before y f at_y in
          let c = way-before z g at_z in
          has.alone y z b.before c.before b.there c.there set (sym c.way ∙ there ∙ b.way);
      aside =
          elim (is_some (way_at x ways)) as (λ b. is_some (way_at x ways) ≡ b → All (StandsAside n (ways_after x (becomes s w) ways)) (buffer_after x (becomes s w) ways buffer)) [
            | true ↦ λ is. rw is (All-weaker (StandsAside n ways) (StandsAside n (ways_after x (becomes s w) ways)) stays-aside buffer has.aside)
            | false ↦ λ is. rw is (All-map (StandsAside n (ways_after x (becomes s w) ways)) (buffer_with x s w) buffer (All-weaker (StandsAside n ways) (λ e. StandsAside n (ways_after x (becomes s w) ways) (buffer_with x s w e)) changed-aside buffer has.aside))
          ] refl;
      once =
          elim (is_some (way_at x ways)) as (λ b. is_some (way_at x ways) ≡ b → are_distinct (map buffer_item (buffer_after x (becomes s w) ways buffer)) ≡ true) [
            | true ↦ λ is. rw is has.once
            | false ↦ λ is. rw is (ap are_distinct (buffer_with-items buffer) ∙ has.once)
          ] refl;
    }

-- where the new state has words
pub entries-become : (x : ℕ) (s : LeafState) (w : List ℕ) (n : ℕ) (sizes : LeafSizes) (ways : List (Option WayValue)) (buffer : List BufferValue) → is_reading s ≡ false → HasEntries n sizes ways buffer → HasEntries n sizes (ways_after x (becomes s w) ways) (buffer_after x (becomes s w) ways buffer)
entries-become x s w n sizes ways buffer has_words has = entries-become_suited x s w n sizes ways buffer (ap (λ b. implies b (are_zero w)) has_words ∙ implies-false (are_zero w)) has

-- ---- an entry moves from its way to the end of the buffer

module _ (n : ℕ) (sizes : LeafSizes) (ways : List (Option WayValue)) (buffer : List BufferValue) (y : ℕ) (e : WayValue) (at_y : way_at y ways ≡ Some e) (has : HasEntries n sizes ways buffer) where
  -- the buffer has no entry of it yet
  not_buffered : All (λ (f : BufferValue). is_buffered y f ≡ false) buffer
  not_buffered = All-weaker (StandsAside n ways) (λ (f : BufferValue). is_buffered y f ≡ false) differs buffer has.aside where
    differs : (f : BufferValue) → StandsAside n ways f → is_buffered y f ≡ false
    differs f a = ne_eqb _ _ (λ same.
        let none : way_at y ways ≡ None = subst (λ k. way_at k ways ≡ None) (sym same) a.alone in
        cc)

  pub entry-moved : (z : ℕ) → entry_at z (slice_set ways y None) (buffer ++ record { item = y; state = e.state; words = e.words } ∷ []) ≡ entry_at z ways buffer
  unfolding entry_at
  entry-moved z =
      elim (eqb_tells z y) as (λ _. entry_at z (slice_set ways y None) (buffer ++ record { item = y; state = e.state; words = e.words } ∷ []) ≡ entry_at z ways buffer) [
        | inl same ↦
            subst (λ k. entry_at k (slice_set ways y None) (buffer ++ record { item = y; state = e.state; words = e.words } ∷ []) ≡ entry_at k ways buffer) (sym same.1)
            (rw (way-set_none ways y, at_y, find-append (is_buffered y) buffer (record { item = y; state = e.state; words = e.words } ∷ []), find-fails (is_buffered y) buffer not_buffered, eq-eqb y y refl) refl)
        | inr other ↦
            let differs : nat_eq z y ≡ false = other.0 in
            let none : find (is_buffered z) (record { item = y; state = e.state; words = e.words } ∷ []) ≡ None = rw differs refl in
            rw (way-set_other ways y z None other.1, find-append (is_buffered z) buffer (record { item = y; state = e.state; words = e.words } ∷ []), none, first_some-none (find (is_buffered z) buffer)) refl
      ]
    where
      first_some-none : {X : Type 0} (o : Option X) → first_some o None ≡ o
      first_some-none None = refl
      first_some-none (Some x) = refl

  pub way-kept : (z : ℕ) (f : WayValue) → way_at z (slice_set ways y None) ≡ Some f → way_at z ways ≡ Some f
  way-kept z f is =
      elim (eqb_tells z y) as (λ _. way_at z ways ≡ Some f) [
        | inl same ↦
            let none : way_at z (slice_set ways y None) ≡ None = subst (λ k. way_at k (slice_set ways y None) ≡ None) (sym same.1) (way-set_none ways y) in
            cc
        | inr other ↦ sym (way-set_other ways y z None other.1) ∙ is
      ]

  free-kept : (z : ℕ) → way_at z ways ≡ None → way_at z (slice_set ways y None) ≡ None
  free-kept z none =
      elim (eqb_tells z y) as (λ _. way_at z (slice_set ways y None) ≡ None) [
        | inl same ↦ subst (λ k. way_at k (slice_set ways y None) ≡ None) (sym same.1) (way-set_none ways y)
        | inr other ↦ way-set_other ways y z None other.1 ∙ none
      ]

  distinct-push : (es : List BufferValue) → are_distinct (map buffer_item es) ≡ true → All (λ (f : BufferValue). is_buffered y f ≡ false) es → are_distinct (map buffer_item (es ++ record { item = y; state = e.state; words = e.words } ∷ [])) ≡ true
  distinct-push [] once free = refl
  distinct-push (f ∷ es) once free =
      let parts = and_parts (not (list_any (nat_eq f.item) (map buffer_item es))) (are_distinct (map buffer_item es)) once in
      let differs : is_buffered y f ≡ false = All-head (λ (g : BufferValue). is_buffered y g ≡ false) f es free in
      let back : nat_eq f.item y ≡ false = ne_eqb _ _ (λ same. eqb-false _ _ differs (sym same)) in
      both_true (not_from_false _ (any-push f.item es (not-true _ parts.0) back)) (distinct-push es parts.1 (All-tail (λ (g : BufferValue). is_buffered y g ≡ false) f es free))
    where
      any-push : (k : ℕ) (es : List BufferValue) → list_any (nat_eq k) (map buffer_item es) ≡ false → nat_eq k y ≡ false → list_any (nat_eq k) (map buffer_item (es ++ record { item = y; state = e.state; words = e.words } ∷ [])) ≡ false
      any-push k [] none differs = rw differs refl
      any-push k (g ∷ es) none differs =
          let parts = or_parts (nat_eq k g.item) (list_any (nat_eq k) (map buffer_item es)) none in
          rw parts.0 (any-push k es parts.1 differs)

  pub entries-move : HasEntries n sizes (slice_set ways y None) (buffer ++ record { item = y; state = e.state; words = e.words } ∷ [])
  entries-move = record {
    count = length-set ways y None ∙ has.count;
    fits = λ z f is. has.fits z f (way-kept z f is);
    alone = λ z u f g at_z at_u set there. has.alone z u f g (way-kept z f at_z) (way-kept u g at_u) set there;
    aside = All-push (StandsAside n (slice_set ways y None)) buffer (record { item = y; state = e.state; words = e.words })
        (All-weaker (StandsAside n ways) (StandsAside n (slice_set ways y None)) (λ f a. record { known = a.known; alone = free-kept f.item a.alone; words = a.words }) buffer has.aside)
        (record { known = subst (λ k. y < k) has.count (way-within y ways e at_y); alone = way-set_none ways y; words = (has.fits y e at_y).1 });
    once = distinct-push buffer has.once not_buffered;
  }

-- ---- an item comes into a way

absent-parts : (x : ℕ) (ways : List (Option WayValue)) (buffer : List BufferValue) → entry_at x ways buffer ≡ None → (way_at x ways ≡ None) × (buffered x buffer ≡ None)
unfolding entry_at
absent-parts x ways buffer absent = (map-none way_entry _ (first_some-none_first _ _ absent), map-none buffer_entry _ (first_some-none_second _ _ absent)) where
  map-none : {X Y : Type 0} (f : X → Y) (o : Option X) → option_map f o ≡ None → o ≡ None
  map-none f None h = refl
  map-none f (Some x) h = cc

module _ (x way : ℕ) (s : LeafState) (w : List ℕ) where
  pub entry-enters : (ways : List (Option WayValue)) (buffer : List BufferValue) → x < length ways → entry_at x (ways_after x (enters way s w) ways) buffer ≡ Some (record { state = s; words = w })
  unfolding entry_at
  entry-enters ways buffer known = rw (get_or-set_same ways x (Some (record { way = way; state = s; words = w })) None known) refl

  pub entry-enters_other : (ways : List (Option WayValue)) (buffer : List BufferValue) (y : ℕ) → y ≢ x → entry_at y (ways_after x (enters way s w) ways) buffer ≡ entry_at y ways buffer
  unfolding entry_at
  entry-enters_other ways buffer y other = rw (way-set_other ways x y (Some (record { way = way; state = s; words = w })) other) refl

  module _ (n : ℕ) (sizes : LeafSizes) (ways : List (Option WayValue)) (buffer : List BufferValue) (has : HasEntries n sizes ways buffer) (known : x < n) (absent : entry_at x ways buffer ≡ None) (inside : way < sizes.way_count) (suit : words_suit s w ≡ true)
      (free : (y : ℕ) (e : WayValue) → way_at y ways ≡ Some e → y % sizes.sets ≡ x % sizes.sets → e.way ≢ way) where
    data WayAfter (y : ℕ) (f : WayValue) : Type 0 where
      the_new : y ≡ x → f.way ≡ way → f.state ≡ s → f.words ≡ w → WayAfter y f
      as_before : y ≢ x → way_at y ways ≡ Some f → WayAfter y f

    within : x < length ways
    within = subst (λ k. x < k) (sym has.count) known

    way-now : (y : ℕ) (f : WayValue) → way_at y (ways_after x (enters way s w) ways) ≡ Some f → WayAfter y f
    way-now y f is =
        elim (eqb_tells y x) as (λ _. WayAfter y f) [
          | inl same ↦
              let here : way_at x (ways_after x (enters way s w) ways) ≡ Some f = subst (λ k. way_at k (ways_after x (enters way s w) ways) ≡ Some f) same.1 is in
              let value : way_at x (ways_after x (enters way s w) ways) ≡ Some (record { way = way; state = s; words = w }) = get_or-set_same ways x (Some (record { way = way; state = s; words = w })) None within in
              let both : Some (record { way = way; state = s; words = w }) ≡ Some f = sym value ∙ here in
              let equal : (let e : WayValue = record { way = way; state = s; words = w } in e) ≡ f = cc in
              the_new same.1 (sym (ap (λ (e : WayValue). e.way) equal)) (sym (ap (λ (e : WayValue). e.state) equal)) (sym (ap (λ (e : WayValue). e.words) equal))
          | inr other ↦ as_before other.1 (sym (way-set_other ways x y _ other.1) ∙ is)
        ]

    aside-now : (e : BufferValue) → e.item ≢ x → StandsAside n ways e → StandsAside n (ways_after x (enters way s w) ways) e
    aside-now e other a = record { known = a.known; alone = way-set_other ways x e.item _ other ∙ a.alone; words = a.words }

    pub entries-enter : HasEntries n sizes (ways_after x (enters way s w) ways) buffer
    entries-enter = record {
      count = length-set ways x _ ∙ has.count;
      fits = λ y f is.
          elim (way-now y f is) as (λ _. (f.way < sizes.way_count) × (words_suit f.state f.words ≡ true)) [
            | the_new at here state words ↦ (subst (λ k. k < sizes.way_count) (sym here) inside, rw (state, words) suit)
            | as_before other there ↦ has.fits y f there
          ];
      alone = λ y z f g at_y at_z set there. stand-apart y z f g (way-now y f at_y) (way-now z g at_z) set there;
      aside = λ k d l.
          let e : BufferValue = slice_index_or buffer k d in
          let fails : nat_eq x e.item ≡ false = fails-find (is_buffered x) buffer (absent-parts x ways buffer absent).1 k d l in
          aside-now e (λ same. eqb-false _ _ fails (sym same)) (has.aside k d l);
      once = has.once;
    } where
      stand-apart : (y z : ℕ) (f g : WayValue) → WayAfter y f → WayAfter z g → z % sizes.sets ≡ y % sizes.sets → g.way ≡ f.way → y ≡ z
      stand-apart y z f g (the_new at_y here sy wy) (the_new at_z there sz wz) set same = at_y ∙ sym at_z
      stand-apart y z f g (the_new at_y here sy wy) (as_before other there) set same = absurd (free z g there (set ∙ ap (λ k. k % sizes.sets) at_y) (same ∙ here))
      stand-apart y z f g (as_before other there) (the_new at_z here sz wz) set same = absurd (free y f there (sym set ∙ ap (λ k. k % sizes.sets) at_z) (sym same ∙ here))
      stand-apart y z f g (as_before other here) (as_before others there) set same = has.alone y z f g here there set same
