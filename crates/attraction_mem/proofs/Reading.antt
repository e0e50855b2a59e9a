-- What the calls that change nothing answer.
use Rattle.std.proofs.Common.{◌≡◌, ℕ, zero, suc, ◌+◌, ◌*◌, ◌%◌, ◌<◌, List, [], get_or, replicate, Option, Some, None, IfNone, IfSome, IsSome, IsSomeAnd, true, false, refl, sym, ◌∙◌, ap, subst, arith, ◌↔◌}
use Rattle.std.specs.FinMap.{from_entries}
use Rattle.ddm_types.specs.declared.sizes.LeafState.{LeafState}
use Rattle.attraction_mem.specs.Memory.{EntryValue, MemoryValue, empty_memory, entry_of, StandsIn, StandsAs, IsTaken, IsFree, IsFull, IsLowestFree}
use Rattle.attraction_mem.specs.Places.{entries_from, memory_of, HasTag, HasNoTag, AreTaken, IsKept}
use Rattle.attraction_mem.proofs.Holding.{tagged}
use Rattle.attraction_mem.proofs.Changing.{same_item, sets_of, SameTag}
use Rattle.attraction_mem.proofs.Standing.{place_again, stands, tag_of_standing, entry_of_absent}

-- free places hold nothing
no_entries : (ways : ℕ) (words : List (List ℕ)) (n k : ℕ) → entries_from ways words n (replicate k None) ≡ []
no_entries ways words n zero = refl
no_entries ways words n (suc k) = no_entries ways words (n + 1) k

pub memory_of_free : (ways sets k : ℕ) (words : List (List ℕ)) → memory_of ways sets (replicate k None) words ≡ empty_memory sets
unfolding memory_of
memory_of_free ways sets k words = ap (λ es. record { sets = sets; entries = from_entries es }) (no_entries ways words 0 k)

-- an item that stands in a way does so in some state
in_some_state : (m : MemoryValue) (set way item : ℕ) → StandsIn m set way item → (s : LeafState) × StandsAs m set way item s
in_some_state m set way item there =
    elim (entry_of m item) as (λ o. IsSomeAnd o (λ e. e.way ≡ way) → (s : LeafState) × ((item % m.sets ≡ set) × IsSomeAnd o (λ e. (e.way ≡ way) × (e.state ≡ s)))) [
      | None ↦ λ h. absurd h
      | Some e ↦ λ h. (e.state, (there.0, (h, refl)))
    ] there.1

in_any_state : (m : MemoryValue) (set way item : ℕ) (s : LeafState) → StandsAs m set way item s → StandsIn m set way item
in_any_state m set way item s there = (
  there.0,
  elim (entry_of m item) as (λ o. IsSomeAnd o (λ e. (e.way ≡ way) × (e.state ≡ s)) → IsSomeAnd o (λ e. e.way ≡ way)) [
    | None ↦ λ h. h
    | Some e ↦ λ h. h.0
  ] there.1,
)

module _ {ways sets : ℕ} {tags : List (Option (ℕ × LeafState))} {words : List (List ℕ)} (kept : IsKept ways sets tags words) where
  -- a free place is a free way
  pub free_way_of : (set way : ℕ) → way < ways → get_or tags (set * ways + way) None ≡ None → IsFree (memory_of ways sets tags words) set way
  free_way_of set way within free item there =
      let seen = in_some_state (memory_of ways sets tags words) set way item there in
      let tag : HasTag tags (set * ways + way) item seen.0 = tag_of_standing kept set way item seen.0 seen.1 in
      let e : SameTag None (Some (item, seen.0)) = sym free ∙ tag in
      absurd cc

  pub taken_by : (o : Option (ℕ × LeafState)) (set way : ℕ) → way < ways → get_or tags (set * ways + way) None ≡ o → IsSome o → IsTaken (memory_of ways sets tags words) set way
  taken_by None set way within is some = let never : false ≡ true = some in absurd cc
  taken_by (Some t) set way within is some =
      (t.0, in_any_state (memory_of ways sets tags words) set way t.0 t.1 (stands kept set way t.0 t.1 within is))

  pub full_seen : (item : ℕ) → AreTaken tags (item % sets * ways) ways → IsFull ways (memory_of ways sets tags words) (item % (memory_of ways sets tags words).sets)
  unfolding memory_of
  full_seen item taken way within = taken_by (get_or tags (item % sets * ways + way) None) (item % sets) way within refl (taken way within)

  pub lowest_seen : (item way : ℕ) → way < ways → get_or tags (item % sets * ways + way) None ≡ None → AreTaken tags (item % sets * ways) way → IsLowestFree ways (memory_of ways sets tags words) (item % (memory_of ways sets tags words).sets) way
  unfolding memory_of
  lowest_seen item way within free lower = record {
    exists = within;
    free = free_way_of (item % sets) way within free;
    lower_taken = λ k below. taken_by (get_or tags (item % sets * ways + k) None) (item % sets) k (omega arith) refl (lower k below);
  }

  pub none_at : (set way : ℕ) → way < ways → get_or tags (set * ways + way) None ≡ None → (r : Option ℕ) → r ≡ None → (item : ℕ) → (r ≡ Some item) ↔ StandsIn (memory_of ways sets tags words) set way item
  none_at set way within free r none item = ((λ e. absurd cc), (λ there. absurd (free_way_of set way within free item there)))

  pub item_at : (set way x : ℕ) (s : LeafState) → way < ways → HasTag tags (set * ways + way) x s → (item : ℕ) → (Some x ≡ Some item) ↔ StandsIn (memory_of ways sets tags words) set way item
  item_at set way x s within tag item = (
    (λ e. let same : x ≡ item = cc in subst (λ k. StandsIn (memory_of ways sets tags words) set way k) same (in_any_state (memory_of ways sets tags words) set way x s (stands kept set way x s within tag))),
    (λ there.
        let seen = in_some_state (memory_of ways sets tags words) set way item there in
        let other : HasTag tags (set * ways + way) item seen.0 = tag_of_standing kept set way item seen.0 seen.1 in
        ap Some (same_item x item s seen.0 (sym tag ∙ other))),
  )

  pub standing_seen : (set way item : ℕ) (s : LeafState) → way < ways → HasTag tags (set * ways + way) item s ↔ StandsAs (memory_of ways sets tags words) set way item s
  standing_seen set way item s within = (stands kept set way item s within, tag_of_standing kept set way item s)

  words_by : (o : Option EntryValue) (item : ℕ) → entry_of (memory_of ways sets tags words) item ≡ o → IfSome o (λ e. get_or words (item % sets * ways + e.way) [] ≡ e.words)
  words_by None item is = tt
  words_by (Some e) item is =
      let t = tagged ways sets tags words item e is in
      let again = place_again t.0 ways (item % sets) e.way (kept.own t.0 item t.1 t.2) (ap (λ d. d.way) t.3) in
      rw again (sym (ap (λ d. d.words) t.3))

  pub words_seen : (item : ℕ) → IfSome (entry_of (memory_of ways sets tags words) item) (λ e. get_or words (item % (memory_of ways sets tags words).sets * ways + e.way) [] ≡ e.words)
  unfolding memory_of
  words_seen item = words_by (entry_of (memory_of ways sets tags words) item) item refl

  inside_by : (o : Option EntryValue) (item : ℕ) → entry_of (memory_of ways sets tags words) item ≡ o → IfSome o (λ e. e.way < ways)
  inside_by None item is = tt
  inside_by (Some e) item is =
      let t = tagged ways sets tags words item e is in
      let way : e.way ≡ t.0 % ways = ap (λ d. d.way) t.3 in
      let some = kept.sized.some_ways in
      omega (arith, way, some)

  -- each entry is in one of the ways
  pub inside_seen : (item : ℕ) → IfSome (entry_of (memory_of ways sets tags words) item) (λ e. e.way < ways)
  inside_seen item = inside_by (entry_of (memory_of ways sets tags words) item) item refl

  -- an item with an entry is found
  pub is_found : (item : ℕ) (r : Option (ℕ × LeafState)) → IfNone r (HasNoTag tags (item % sets * ways) ways item) → IsSome (entry_of (memory_of ways sets tags words) item) → IsSome r
  is_found item None none some = let never : false ≡ true = rw (entry_of_absent kept item none) at some in absurd cc
  is_found item (Some t) none some = refl

-- what is told of an answer is told of its value
pub value_is : {P : ℕ → Type 0} (o : Option ℕ) (r : ℕ) → o ≡ Some r → ((i : ℕ) → (o ≡ Some i) ↔ P i) → (i : ℕ) → (r ≡ i) ↔ P i
value_is o r is h i = ((λ e. (h i).0 (is ∙ ap Some e)), (λ p. let same : Some r ≡ Some i = sym is ∙ (h i).1 p in cc))

-- the number of sets that is seen
pub sets_seen : (ways sets : ℕ) (tags : List (Option (ℕ × LeafState))) (words : List (List ℕ)) {m : MemoryValue} → memory_of ways sets tags words ≡ m → m.sets ≡ sets
sets_seen ways sets tags words is = sym (ap (λ m. m.sets) is) ∙ sets_of ways sets tags words

-- what no `Some` meets is None
pub is_none : {A : Type 0} (P : Option A → Type 0) → ((x : A) → P (Some x) → ⊥) → (y : Option A) → P y → y ≡ None
is_none P never None is = refl
is_none P never (Some x) is = absurd (never x is)
