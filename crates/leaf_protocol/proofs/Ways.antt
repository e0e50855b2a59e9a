-- A memory as the list of what it has of each item.
use Rattle.std.proofs.Common.{◌≡◌, ◌≢◌, ℕ, zero, suc, ◌+◌, ◌%◌, ◌<◌, ◌≤◌, Bool, true, false, cond, ◌&&◌, nat_eq, List, [], ◌∷◌, length, get_or, set, Option, Some, None, IsSomeAnd, refl, sym, ap, subst, ◌∙◌, ◌⊎◌, inl, inr, arith, length-set, true≢false}
use Rattle.std.specs.Prelude.{replicate, option_map, is_none, find}
use Rattle.std.specs.List.{range_with_len}
use Rattle.std.specs.Cmp.{nat_cmp_total}
use Rattle.std.specs.FinMap.{get-insert, get-remove}
use Rattle.std.proofs.lemmas.Bool.{eqb-true, eq-eqb}
use Rattle.std.proofs.lemmas.Option.{same_Some}
use Rattle.std.proofs.lemmas.List.{same_lists, get_or-set_same, get_or-set_other, get_or_past, length-replicate, get_or-replicate}
use Rattle.std.proofs.lemmas.List.FromFn.{get_or-map-range_with_len, length-map-range_with_len}
use Rattle.leaf_protocol.specs.DdmTypes.declared.sizes.LeafState.{LeafState}
use Rattle.leaf_protocol.specs.TreeModel.State.Lists.{find_from}
use Rattle.leaf_protocol.specs.TreeModel.State.Values.{WayValue}
use Rattle.leaf_protocol.specs.TreeModel.State.Leaf.{way_at, stands_in, item_in_way, words_in}
use Rattle.leaf_protocol.specs.TreeModel.State.States.{is_reading}
use Rattle.attraction_mem.specs.Memory.{EntryValue, MemoryValue, entry_of, StandsIn, IsFree, IsTaken, IsLowestFree, IsFull, with_entry, without_entry, with_state, with_words, changed_state, changed_words}
use Rattle.attraction_mem.proofs.Holding.{equal_or_not, same_key, other_key}
use Rattle.leaf_protocol.specs.Entries.{way_value, way_of, ways_of, lowest_way}

-- ---- the list, place by place

pub ways_of-length : (n : ℕ) (m : MemoryValue) → length (ways_of n m) ≡ n
unfolding ways_of
ways_of-length n m = length-map-range_with_len (way_of m) 0 n

-- no item past the last has an entry
abbrev pub AreBelow : ℕ → MemoryValue → Type 0
AreBelow n m = (x : ℕ) → n ≤ x → way_of m x ≡ None

pub below-or-past : (x n : ℕ) → (x < n) ⊎ (n ≤ x)
below-or-past x zero = inr (omega arith)
below-or-past zero (suc n) = inl (omega arith)
below-or-past (suc x) (suc n) = elim (below-or-past x n) [ inl h ↦ inl (omega arith) | inr h ↦ inr (omega arith) ]

pub ways_of-inside : (n : ℕ) (m : MemoryValue) (x : ℕ) (d : Option WayValue) → x < n → get_or (ways_of n m) x d ≡ way_of m x
unfolding ways_of
ways_of-inside n m x d inside = get_or-map-range_with_len (way_of m) 0 n x x d inside (omega arith)

pub way_at-ways_of : (n : ℕ) (m : MemoryValue) (x : ℕ) → AreBelow n m → way_at x (ways_of n m) ≡ way_of m x
way_at-ways_of n m x below = elim (below-or-past x n) [
  | inl inside ↦ ways_of-inside n m x None inside
  | inr past ↦
      let beyond : length (ways_of n m) ≤ x = rw (ways_of-length n m) past in
      get_or_past (ways_of n m) x None beyond ∙ sym (below x past)
]

-- ---- a memory with another entry of one item

pub record IsPut (m k : MemoryValue) (x : ℕ) (o : Option WayValue) : Type 0 where
  pub sets : k.sets ≡ m.sets
  pub here : way_of k x ≡ o
  pub others : (y : ℕ) → y ≢ x → way_of k y ≡ way_of m y

-- one more change of the same item
pub put-again : (m k l : MemoryValue) (x : ℕ) (o p : Option WayValue) → IsPut m k x o → IsPut k l x p → IsPut m l x p
put-again m k l x o p first second = record { sets = second.sets ∙ first.sets; here = second.here; others = λ y h. second.others y h ∙ first.others y h }

pub put-entry : (m : MemoryValue) (x way : ℕ) (s : LeafState) (words : List ℕ) → IsPut m (with_entry m x way s words) x (Some (record { way = way; state = s; words = words }))
put-entry m x way s words =
    let e : EntryValue = record { way = way; state = s; words = words } in
    record {
      sets = refl;
      here = ap (option_map way_value) (get-insert nat_cmp_total m.entries x e x) ∙ ap (λ b. option_map way_value (cond b (Some e) (entry_of m x))) (same_key x);
      others = λ y h. ap (option_map way_value) (get-insert nat_cmp_total m.entries x e y) ∙ ap (λ b. option_map way_value (cond b (Some e) (entry_of m y))) (other_key y x h);
    }

pub put-none : (m : MemoryValue) (x : ℕ) → IsPut m (without_entry m x) x None
put-none m x = record {
  sets = refl;
  here = ap (option_map way_value) (get-remove nat_cmp_total m.entries x x) ∙ ap (λ b. option_map way_value (cond b None (entry_of m x))) (same_key x);
  others = λ y h. ap (option_map way_value) (get-remove nat_cmp_total m.entries x y) ∙ ap (λ b. option_map way_value (cond b None (entry_of m y))) (other_key y x h);
}

-- another state and other words of an entry that is there
pub put-both : (m : MemoryValue) (x : ℕ) (e : EntryValue) (s : LeafState) (words : List ℕ) → entry_of m x ≡ Some e → IsPut m (with_words (with_state m x s) x words) x (Some (record { way = e.way; state = s; words = words }))
put-both m x e s words there =
    let first : with_state m x s ≡ with_entry m x e.way s e.words = ap (changed_state m x s) there in
    let found : entry_of (with_entry m x e.way s e.words) x ≡ Some (record { way = e.way; state = s; words = e.words }) =
    get-insert nat_cmp_total m.entries x (record { way = e.way; state = s; words = e.words }) x ∙ ap (λ b. cond b (Some (record { way = e.way; state = s; words = e.words })) (entry_of m x)) (same_key x) in
    let second : with_words (with_entry m x e.way s e.words) x words ≡ with_entry (with_entry m x e.way s e.words) x e.way s words = ap (changed_words (with_entry m x e.way s e.words) x words) found in
    let both : with_words (with_state m x s) x words ≡ with_entry (with_entry m x e.way s e.words) x e.way s words = ap (λ k. with_words k x words) first ∙ second in
    rw both (put-again m _ _ x _ _ (put-entry m x e.way s e.words) (put-entry (with_entry m x e.way s e.words) x e.way s words))

-- another state of an entry that is there and keeps its words
pub put-state : (m : MemoryValue) (x : ℕ) (e : EntryValue) (s : LeafState) (width : ℕ) → is_reading s ≡ false → entry_of m x ≡ Some e → IsPut m (with_state m x s) x (Some (record { way = e.way; state = s; words = words_in s width e.words }))
put-state m x e s width keeps there =
    let first : with_state m x s ≡ with_entry m x e.way s e.words = ap (changed_state m x s) there in
    rw (first, keeps) (put-entry m x e.way s e.words)

-- the list is set at the item
pub ways_of-put : (n : ℕ) (m k : MemoryValue) (x : ℕ) (o : Option WayValue) → IsPut m k x o → ways_of n k ≡ set (ways_of n m) x o
ways_of-put n m k x o put =
    same_lists (ways_of n k) (set (ways_of n m) x o) (ways_of-length n k ∙ sym (length-set (ways_of n m) x o ∙ ways_of-length n m)) (λ y d h. at y d (subst (λ l. y < l) (ways_of-length n k) h) (equal_or_not y x))
  where
    at : (y : ℕ) (d : Option WayValue) → y < n → (y ≡ x) ⊎ (y ≡ x → ⊥) → get_or (ways_of n k) y d ≡ get_or (set (ways_of n m) x o) y d
    at y d inside (inl same) =
        let within : x < length (ways_of n m) = rw (ways_of-length n m) (subst (λ z. z < n) same inside) in
        ways_of-inside n k y d inside ∙ (ap (way_of k) same ∙ (put.here ∙ (sym (get_or-set_same (ways_of n m) x o d within) ∙ ap (λ z. get_or (set (ways_of n m) x o) z d) (sym same))))
    at y d inside (inr other) = ways_of-inside n k y d inside ∙ (put.others y other ∙ (sym (ways_of-inside n m y d inside) ∙ sym (get_or-set_other (ways_of n m) x y o d other)))

-- no entry of any item
pub ways_of-empty : (n : ℕ) (m : MemoryValue) → ((x : ℕ) → way_of m x ≡ None) → ways_of n m ≡ replicate n None
ways_of-empty n m none =
    same_lists (ways_of n m) (replicate n None) (ways_of-length n m ∙ sym (length-replicate n None)) (λ y d h.
    let inside : y < n = subst (λ l. y < l) (ways_of-length n m) h in
    ways_of-inside n m y d inside ∙ (none y ∙ sym (get_or-replicate n y None d inside)))

-- ---- who stands in a way

-- the first element that passes, where no other does
pub find_from-only : {X : Type 0} (t : ℕ → X → Bool) (k i j : ℕ) (xs : List X) (d : X) → j ≡ k + i → i < length xs → t j (get_or xs i d) ≡ true → ((a b : ℕ) → b ≡ k + a → a < length xs → t b (get_or xs a d) ≡ true → a ≡ i) → find_from t k xs ≡ Some j
find_from-only t k i j [] d is inside passes only = absurd (omega arith)
find_from-only t k zero j (x ∷ xs) d is inside passes only =
    let same : j ≡ k = omega arith in
    let here : t k x ≡ true = subst (λ n. t n x ≡ true) same passes in
    rw here (ap Some (sym same))
find_from-only t k (suc i) j (x ∷ xs) d is inside passes only =
    let rest = find_from-only t (k + 1) i j xs d (omega arith) (omega arith) passes (λ a b h lt p. let e = only (suc a) b (omega arith) (omega arith) p in omega arith) in
    elim (t k x) as (λ b. t k x ≡ b → cond b (Some k) (find_from t (k + 1) xs) ≡ Some j) [
      | true ↦ λ p. let e = only 0 k (omega arith) (omega arith) p in absurd (omega arith)
      | false ↦ λ p. rest
    ] refl

pub find_from-none : {X : Type 0} (t : ℕ → X → Bool) (k : ℕ) (xs : List X) (d : X) → ((a b : ℕ) → b ≡ k + a → a < length xs → t b (get_or xs a d) ≡ false) → find_from t k xs ≡ None
find_from-none t k [] d none = refl
find_from-none t k (x ∷ xs) d none =
    let here : t k x ≡ false = none 0 k (omega arith) (omega arith) in
    rw here (find_from-none t (k + 1) xs d (λ a b h lt. none (suc a) b (omega arith) (omega arith)))

-- where nothing is found nothing passes
pub find_from-fails : {X : Type 0} (t : ℕ → X → Bool) (k i j : ℕ) (xs : List X) (d : X) → j ≡ k + i → i < length xs → find_from t k xs ≡ None → t j (get_or xs i d) ≡ false
find_from-fails t k i j [] d is inside e = absurd (omega arith)
find_from-fails t k zero j (x ∷ xs) d is inside e =
    let same : j ≡ k = omega arith in
    rw same (elim (t k x) as (λ b. cond b (Some k) (find_from t (k + 1) xs) ≡ None → b ≡ false) [ true ↦ λ f. absurd cc | false ↦ λ f. refl ] e)
find_from-fails t k (suc i) j (x ∷ xs) d is inside e =
    let rest : find_from t (k + 1) xs ≡ None =
    elim (t k x) as (λ b. cond b (Some k) (find_from t (k + 1) xs) ≡ None → find_from t (k + 1) xs ≡ None) [ true ↦ λ f. absurd cc | false ↦ λ f. f ] e in
    find_from-fails t (k + 1) i j xs d (omega arith) (omega arith) rest

-- what is found passes
pub find_from-passes : {X : Type 0} (t : ℕ → X → Bool) (k j : ℕ) (xs : List X) (d : X) → find_from t k xs ≡ Some j → (i : ℕ) × ((j ≡ k + i) × (i < length xs) × (t j (get_or xs i d) ≡ true))
find_from-passes t k j [] d e = absurd cc
find_from-passes t k j (x ∷ xs) d e =
    elim (t k x) as (λ b. t k x ≡ b → cond b (Some k) (find_from t (k + 1) xs) ≡ Some j → (i : ℕ) × ((j ≡ k + i) × (i < length (x ∷ xs)) × (t j (get_or (x ∷ xs) i d) ≡ true))) [
      | true ↦ λ p f. let same : k ≡ j = same_Some k j f in (0, (omega arith, omega arith, rw (sym same) p))
      | false ↦ λ p f.
          let r = find_from-passes t (k + 1) j xs d f in
          (suc r.0, (omega (arith, r.1.0), omega (arith, r.1.1), r.1.2))
    ] refl e

-- the test of the list is that of the memory
pub stands-test : (m : MemoryValue) (x way y : ℕ) → StandsIn m (x % m.sets) way y → stands_in m.sets x way y (way_of m y) ≡ true
stands-test m x way y there = go (entry_of m y) there.1
  where
    go : (o : Option EntryValue) → IsSomeAnd o (λ e. e.way ≡ way) → stands_in m.sets x way y (option_map way_value o) ≡ true
    go None h = absurd h
    go (Some e) h = rw (eq-eqb (y % m.sets) (x % m.sets) there.0, eq-eqb e.way way h) refl

pub test-stands : (m : MemoryValue) (x way y : ℕ) → stands_in m.sets x way y (way_of m y) ≡ true → StandsIn m (x % m.sets) way y
test-stands m x way y passes = go (entry_of m y) passes
  where
    both : (a b : Bool) → (a && b) ≡ true → (a ≡ true) × (b ≡ true)
    both true true h = (refl, refl)
    both true false h = absurd cc
    both false b h = absurd cc

    go : (o : Option EntryValue) → stands_in m.sets x way y (option_map way_value o) ≡ true → (y % m.sets ≡ x % m.sets) × IsSomeAnd o (λ e. e.way ≡ way)
    go None h = absurd cc
    go (Some e) h =
        let t = both (nat_eq (y % m.sets) (x % m.sets)) (nat_eq e.way way) h in
        (eqb-true _ _ t.0, eqb-true _ _ t.1)

module _ (n : ℕ) (m : MemoryValue) (below : AreBelow n m) where
  -- an item that stands is one of the n
  stands-inside : (set way y : ℕ) → StandsIn m set way y → y < n
  stands-inside set way y there = elim (below-or-past y n) [
    | inl inside ↦ inside
    | inr past ↦ absurd (go (entry_of m y) (below y past) there.1)
  ]
    where
      go : (o : Option EntryValue) → option_map way_value o ≡ None → IsSomeAnd o (λ e. e.way ≡ way) → ⊥
      go None none h = h
      go (Some e) none h = absurd cc

  pub item_in_way-only : (x way y : ℕ) → StandsIn m (x % m.sets) way y → ((z : ℕ) → StandsIn m (x % m.sets) way z → y ≡ z) → item_in_way m.sets x way (ways_of n m) ≡ Some y
  unfolding item_in_way
  item_in_way-only x way y there only =
      let inside : y < n = stands-inside (x % m.sets) way y there in
      find_from-only (stands_in m.sets x way) 0 y y (ways_of n m) None (omega arith) (rw (ways_of-length n m) inside) (rw (ways_of-inside n m y None inside) (stands-test m x way y there)) (λ a b same lt passes.
      let within : a < n = subst (λ l. a < l) (ways_of-length n m) lt in
      let is : b ≡ a = omega arith in
      let read : get_or (ways_of n m) a None ≡ way_of m a = ways_of-inside n m a None within in
      let stands = test-stands m x way a (rw (is, read) at passes) in
      sym (only a stands))

  pub item_in_way-none : (x way : ℕ) → IsFree m (x % m.sets) way → item_in_way m.sets x way (ways_of n m) ≡ None
  unfolding item_in_way
  item_in_way-none x way free =
      find_from-none (stands_in m.sets x way) 0 (ways_of n m) None (λ a b same lt.
      let within : a < n = subst (λ l. a < l) (ways_of-length n m) lt in
      let is : b ≡ a = omega arith in
      rw (is, ways_of-inside n m a None within) (fails a (stands_in m.sets x way a (way_of m a)) refl))
    where
      fails : (a : ℕ) (t : Bool) → stands_in m.sets x way a (way_of m a) ≡ t → t ≡ false
      fails a true e = absurd (free a (test-stands m x way a e))
      fails a false e = refl

  -- and back
  pub none-free : (x way : ℕ) → item_in_way m.sets x way (ways_of n m) ≡ None → IsFree m (x % m.sets) way
  unfolding item_in_way
  none-free x way none y there =
      let inside : y < n = stands-inside (x % m.sets) way y there in
      let fails = find_from-fails (stands_in m.sets x way) 0 y y (ways_of n m) None (omega arith) (rw (ways_of-length n m) inside) none in
      absurd (true≢false (sym (stands-test m x way y there) ∙ (sym (ap (stands_in m.sets x way y) (ways_of-inside n m y None inside)) ∙ fails)))

  pub item-stands : (x way y : ℕ) → item_in_way m.sets x way (ways_of n m) ≡ Some y → StandsIn m (x % m.sets) way y
  unfolding item_in_way
  item-stands x way y found =
      let r = find_from-passes (stands_in m.sets x way) 0 y (ways_of n m) None found in
      let same : r.0 ≡ y = omega (arith, r.1.0) in
      let inside : y < n = rw (← same) (subst (λ l. r.0 < l) (ways_of-length n m) r.1.1) in
      let passes : stands_in m.sets x way y (get_or (ways_of n m) y None) ≡ true = subst (λ i. stands_in m.sets x way y (get_or (ways_of n m) i None) ≡ true) same r.1.2 in
      test-stands m x way y (sym (ap (stands_in m.sets x way y) (ways_of-inside n m y None inside)) ∙ passes)

  pub taken-some : (x way : ℕ) → IsTaken m (x % m.sets) way → is_none (item_in_way m.sets x way (ways_of n m)) ≡ false
  taken-some x way taken = go (item_in_way m.sets x way (ways_of n m)) refl
    where
      go : (o : Option ℕ) → item_in_way m.sets x way (ways_of n m) ≡ o → is_none o ≡ false
      go None none = absurd (none-free x way none taken.0 taken.1)
      go (Some y) some = refl

-- ---- the lowest free way

find-first : (t : ℕ → Bool) (a n i j : ℕ) → j ≡ a + i → i < n → t j ≡ true → ((k : ℕ) → a ≤ k → k < j → t k ≡ false) → find t (range_with_len a n) ≡ Some j
find-first t a zero i j is inside passes lower = absurd (omega arith)
find-first t a (suc n) zero j is inside passes lower =
    let same : j ≡ a = omega arith in
    let here : t a ≡ true = subst (λ k. t k ≡ true) same passes in
    rw here (ap Some (sym same))
find-first t a (suc n) (suc i) j is inside passes lower =
    let here : t a ≡ false = lower a (omega arith) (omega arith) in
    rw here (find-first t (a + 1) n i j (omega arith) (omega arith) passes (λ k h l. lower k (omega arith) l))

find-nowhere : (t : ℕ → Bool) (a n : ℕ) → ((k : ℕ) → a ≤ k → k < a + n → t k ≡ false) → find t (range_with_len a n) ≡ None
find-nowhere t a zero none = refl
find-nowhere t a (suc n) none =
    let here : t a ≡ false = none a (omega arith) (omega arith) in
    rw here (find-nowhere t (a + 1) n (λ k h l. none k (omega arith) (omega arith)))

nowhere-found : (t : ℕ → Bool) (a n k : ℕ) → find t (range_with_len a n) ≡ None → a ≤ k → k < a + n → t k ≡ false
nowhere-found t a zero k none h l = absurd (omega arith)
nowhere-found t a (suc n) k none h l =
    elim (t a) as (λ b. t a ≡ b → cond b (Some a) (find t (range_with_len (a + 1) n)) ≡ None → t k ≡ false) [
      | true ↦ λ p f. absurd cc
      | false ↦ λ p f. elim (equal_or_not k a) [
        | inl same ↦ rw same p
        | inr other ↦ nowhere-found t (a + 1) n k f (omega arith) (omega arith)
      ]
    ] refl none

module _ (n : ℕ) (m : MemoryValue) (below : AreBelow n m) (ways x : ℕ) where
  pub lowest-some : (way : ℕ) → IsLowestFree ways m (x % m.sets) way → lowest_way m.sets ways x (ways_of n m) ≡ Some way
  lowest-some way lowest =
      find-first (λ k. is_none (item_in_way m.sets x k (ways_of n m))) 0 ways way way (omega arith) lowest.exists (rw (item_in_way-none n m below x way lowest.free) refl) (λ k h l. taken-some n m below x k (lowest.lower_taken k l))

  pub lowest-none : IsFull ways m (x % m.sets) → lowest_way m.sets ways x (ways_of n m) ≡ None
  lowest-none full = find-nowhere (λ k. is_none (item_in_way m.sets x k (ways_of n m))) 0 ways (λ k h l. taken-some n m below x k (full k (omega arith)))

  -- and back
  pub none-full : lowest_way m.sets ways x (ways_of n m) ≡ None → IsFull ways m (x % m.sets)
  none-full none way inside = go (item_in_way m.sets x way (ways_of n m)) refl (nowhere-found (λ k. is_none (item_in_way m.sets x k (ways_of n m))) 0 ways way none (omega arith) (omega arith))
    where
      go : (o : Option ℕ) → item_in_way m.sets x way (ways_of n m) ≡ o → is_none o ≡ false → IsTaken m (x % m.sets) way
      go None is h = absurd cc
      go (Some y) is h = (y, item-stands n m below x way y is)
