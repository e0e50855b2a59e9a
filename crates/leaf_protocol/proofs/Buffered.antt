-- The buffer by item: what it has of each as entries come, change and go.
use Rattle.std.proofs.Common.{◌≡◌, ◌≢◌, ℕ, Bool, true, false, cond, not, ◌||◌, nat_eq, List, [], ◌∷◌, ◌++◌, map, Option, Some, None, refl, sym, ap, subst, ◌∙◌, true≢false}
use Rattle.std.specs.Prelude.{filter, find, is_some}
use Rattle.std.specs.List.{list_any}
use Rattle.std.proofs.lemmas.Bool.{eqb-true, eq-eqb, ne_eqb}
use Rattle.std.proofs.lemmas.Option.{same_Some}
use Rattle.leaf_protocol.specs.DdmTypes.declared.sizes.LeafState.{LeafState}
use Rattle.leaf_protocol.specs.TreeModel.State.Shape.{are_distinct}
use Rattle.leaf_protocol.specs.TreeModel.State.Values.{BufferValue}
use Rattle.leaf_protocol.specs.TreeModel.State.Leaf.{buffer_item, buffer_with, is_buffered, buffered}
use Rattle.replacement.specs.Arrived.{with_state, with_words}
use Rattle.replacement.proofs.Once.{left, right, named-map, once-filter}

-- a search that ends at the first entry, or goes on
module _ {X : Type 0} (t : X → Bool) where
  pub find-passes : (xs : List X) (x : X) → find t xs ≡ Some x → t x ≡ true
  find-passes [] x e = absurd cc
  find-passes (y ∷ ys) x e =
      elim (t y) as (λ b. t y ≡ b → cond b (Some y) (find t ys) ≡ Some x → t x ≡ true) [
        | true ↦ λ p f. let same : y ≡ x = same_Some y x f in subst (λ z. t z ≡ true) same p
        | false ↦ λ p f. find-passes ys x f
      ] refl e

-- a buffered entry is one of the item
pub buffered-item : (x : ℕ) (b : List BufferValue) (e : BufferValue) → buffered x b ≡ Some e → e.item ≡ x
buffered-item x b e found = sym (eqb-true x e.item (find-passes (is_buffered x) b e found))

-- ---- an entry comes

append-by : (x : ℕ) (t : Bool) (f : BufferValue) (o p : Option BufferValue) → cond t (Some f) o ≡ p → o ≡ o
append-by x t f o p e = refl

pub buffered-append : (x : ℕ) (b : List BufferValue) (e : BufferValue) → buffered x (b ++ e ∷ []) ≡ (elim (buffered x b) as (λ o. Option BufferValue) [ None ↦ cond (is_buffered x e) (Some e) None | Some f ↦ Some f ])
buffered-append x [] e = refl
buffered-append x (f ∷ fs) e =
    elim (is_buffered x f) as (λ t. cond t (Some f) (buffered x (fs ++ e ∷ [])) ≡ (elim (cond t (Some f) (buffered x fs)) as (λ o. Option BufferValue) [ None ↦ cond (is_buffered x e) (Some e) None | Some f ↦ Some f ])) [
      | true ↦ refl
      | false ↦ buffered-append x fs e
    ]

-- ---- entries change

with-both : (x : ℕ) (s : LeafState) (words : List ℕ) (e : BufferValue) → with_words x words (with_state x s e) ≡ buffer_with x s words e
with-both x s words e =
    elim (is_buffered x e) as (λ t. is_buffered x e ≡ t → with_words x words (cond t (record e { state = s }) e) ≡ cond t (record e { state = s; words = words }) e) [
      | true ↦ λ h. rw h refl
      | false ↦ λ h. rw h refl
    ] refl

-- the two changes of an entry are one
pub map-both : (x : ℕ) (s : LeafState) (words : List ℕ) (b : List BufferValue) → map (with_words x words) (map (with_state x s) b) ≡ map (buffer_with x s words) b
map-both x s words [] = refl
map-both x s words (e ∷ es) = ap (λ (f : BufferValue). f ∷ map (with_words x words) (map (with_state x s) es)) (with-both x s words e) ∙ ap (λ fs. buffer_with x s words e ∷ fs) (map-both x s words es)

module _ (x : ℕ) (s : LeafState) (words : List ℕ) where
  pub buffer_with-item : (e : BufferValue) → buffer_item (buffer_with x s words e) ≡ buffer_item e
  buffer_with-item e = elim (is_buffered x e) as (λ t. buffer_item (cond t (record e { state = s; words = words }) e) ≡ buffer_item e) [ true ↦ refl | false ↦ refl ]

  -- the item's entry is the changed one
  pub buffered-changed : (b : List BufferValue) (e : BufferValue) → buffered x b ≡ Some e → buffered x (map (buffer_with x s words) b) ≡ Some (record e { state = s; words = words })
  buffered-changed [] e found = absurd cc
  buffered-changed (f ∷ fs) e found =
      elim (is_buffered x f) as (λ t. is_buffered x f ≡ t → cond t (Some f) (buffered x fs) ≡ Some e → buffered x (map (buffer_with x s words) (f ∷ fs)) ≡ Some (record e { state = s; words = words })) [
        | true ↦ λ h g. let same : f ≡ e = same_Some f e g in rw (buffer_with-item f, h) (rw same refl)
        | false ↦ λ h g. rw (buffer_with-item f, h) (buffered-changed fs e g)
      ] refl found

  -- the others' are as they were
  pub buffered-unchanged : (y : ℕ) (b : List BufferValue) → y ≢ x → buffered y (map (buffer_with x s words) b) ≡ buffered y b
  buffered-unchanged y [] other = refl
  buffered-unchanged y (f ∷ fs) other =
      elim (is_buffered y f) as (λ t. is_buffered y f ≡ t → buffered y (map (buffer_with x s words) (f ∷ fs)) ≡ cond t (Some f) (buffered y fs)) [
        | true ↦ λ h.
            let is : y ≡ f.item = eqb-true y f.item h in
            let apart : is_buffered x f ≡ false = ne_eqb x f.item (λ same. other (is ∙ sym same)) in
            rw (buffer_with-item f, h) (rw apart refl)
        | false ↦ λ h. rw (buffer_with-item f, h) (buffered-unchanged y fs other)
      ] refl

  pub changed-once : (b : List BufferValue) → are_distinct (map buffer_item b) ≡ true → are_distinct (map buffer_item (map (buffer_with x s words) b)) ≡ true
  changed-once b once = rw (named-map buffer_item (buffer_with x s words) buffer_with-item b) once

  -- where the item isn't there nothing changes
  pub map-absent : (b : List BufferValue) → buffered x b ≡ None → map (buffer_with x s words) b ≡ b
  map-absent [] none = refl
  map-absent (f ∷ fs) none =
      elim (is_buffered x f) as (λ t. is_buffered x f ≡ t → cond t (Some f) (buffered x fs) ≡ None → map (buffer_with x s words) (f ∷ fs) ≡ f ∷ fs) [
        | true ↦ λ h g. absurd cc
        | false ↦ λ h g. rw h (ap (λ es. f ∷ es) (map-absent fs g))
      ] refl none

-- an entry in another state is there
pub in_state-there : (x : ℕ) (s : LeafState) (b : List BufferValue) (e : BufferValue) → buffered x b ≡ Some e → is_some (buffered x (map (with_state x s) b)) ≡ true
in_state-there x s [] e found = absurd cc
in_state-there x s (f ∷ fs) e found =
    elim (is_buffered x f) as (λ t. is_buffered x f ≡ t → cond t (Some f) (buffered x fs) ≡ Some e → is_some (buffered x (map (with_state x s) (f ∷ fs))) ≡ true) [
      | true ↦ λ h g. rw h (rw h refl)
      | false ↦ λ h g. rw h (rw h (in_state-there x s fs e g))
    ] refl found

-- ---- entries go

abbrev without : ℕ → List BufferValue → List BufferValue
without x b = filter (λ e. not (is_buffered x e)) b

pub buffered-gone : (x : ℕ) (b : List BufferValue) → buffered x (without x b) ≡ None
buffered-gone x [] = refl
buffered-gone x (f ∷ fs) =
    elim (is_buffered x f) as (λ t. is_buffered x f ≡ t → buffered x (cond (not t) (f ∷ without x fs) (without x fs)) ≡ None) [
      | true ↦ λ h. buffered-gone x fs
      | false ↦ λ h. rw h (buffered-gone x fs)
    ] refl

-- where the item isn't there none goes
pub without-absent : (x : ℕ) (b : List BufferValue) → buffered x b ≡ None → without x b ≡ b
without-absent x [] none = refl
without-absent x (f ∷ fs) none =
    elim (is_buffered x f) as (λ t. is_buffered x f ≡ t → cond t (Some f) (buffered x fs) ≡ None → cond (not t) (f ∷ without x fs) (without x fs) ≡ f ∷ fs) [
      | true ↦ λ h g. absurd cc
      | false ↦ λ h g. ap (λ es. f ∷ es) (without-absent x fs g)
    ] refl none

pub buffered-left : (x y : ℕ) (b : List BufferValue) → y ≢ x → buffered y (without x b) ≡ buffered y b
buffered-left x y [] other = refl
buffered-left x y (f ∷ fs) other =
    elim (is_buffered x f) as (λ t. is_buffered x f ≡ t → buffered y (cond (not t) (f ∷ without x fs) (without x fs)) ≡ buffered y (f ∷ fs)) [
      | true ↦ λ h.
          let is : x ≡ f.item = eqb-true x f.item h in
          let apart : is_buffered y f ≡ false = ne_eqb y f.item (λ same. other (same ∙ sym is)) in
          rw apart (buffered-left x y fs other)
      | false ↦ λ h. ap (λ o. cond (is_buffered y f) (Some f) o) (buffered-left x y fs other)
    ] refl

pub gone-once : (x : ℕ) (b : List BufferValue) → are_distinct (map buffer_item b) ≡ true → are_distinct (map buffer_item (without x b)) ≡ true
gone-once x b once = once-filter buffer_item (λ e. not (is_buffered x e)) b once

-- ---- a search by another test, where no item stands twice

buffered-any : (x : ℕ) (b : List BufferValue) (e : BufferValue) → buffered x b ≡ Some e → list_any (nat_eq x) (map buffer_item b) ≡ true
buffered-any x [] e found = absurd cc
buffered-any x (f ∷ fs) e found =
    elim (nat_eq x f.item) as (λ t. cond t (Some f) (buffered x fs) ≡ Some e → (t || list_any (nat_eq x) (map buffer_item fs)) ≡ true) [
      | true ↦ λ g. refl
      | false ↦ λ g. buffered-any x fs e g
    ] found

-- what a search finds is its item's entry
pub find-buffered : (t : BufferValue → Bool) (b : List BufferValue) (e : BufferValue) → are_distinct (map buffer_item b) ≡ true → find t b ≡ Some e → buffered e.item b ≡ Some e
find-buffered t [] e once found = absurd cc
find-buffered t (f ∷ fs) e once found =
    elim (t f) as (λ p. cond p (Some f) (find t fs) ≡ Some e → buffered e.item (f ∷ fs) ≡ Some e) [
      | true ↦ λ g. let same : f ≡ e = same_Some f e g in rw (← same, eq-eqb f.item f.item refl) refl
      | false ↦ λ g.
          let rest = find-buffered t fs e (right (list_any (nat_eq f.item) (map buffer_item fs)) _ once) g in
          let apart : nat_eq e.item f.item ≡ false =
          ne_eqb e.item f.item (λ same. true≢false (sym (buffered-any e.item fs e rest) ∙ (ap (λ z. list_any (nat_eq z) (map buffer_item fs)) same ∙ left (list_any (nat_eq f.item) (map buffer_item fs)) (are_distinct (map buffer_item fs)) once))) in
          rw apart rest
    ] found

-- an entry that passes is found, if not another one
pub find-some : (t : BufferValue → Bool) (x : ℕ) (b : List BufferValue) (e : BufferValue) → buffered x b ≡ Some e → t e ≡ true → is_some (find t b) ≡ true
find-some t x [] e found passes = absurd cc
find-some t x (f ∷ fs) e found passes =
    elim (t f) as (λ p. t f ≡ p → is_some (cond p (Some f) (find t fs)) ≡ true) [
      | true ↦ λ h. refl
      | false ↦ λ h.
          elim (is_buffered x f) as (λ q. cond q (Some f) (buffered x fs) ≡ Some e → is_some (find t fs) ≡ true) [
            | true ↦ λ g. let same : f ≡ e = same_Some f e g in absurd (true≢false (sym passes ∙ (ap t (sym same) ∙ h)))
            | false ↦ λ g. find-some t x fs e g passes
          ] found
    ] refl
