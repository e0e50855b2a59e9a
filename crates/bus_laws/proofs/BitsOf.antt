-- What the rules ask of the children, child by child.
use Rattle.std.proofs.Common.{◌≡◌, ◌≢◌, ℕ, zero, suc, ◌+◌, ◌<◌, Bool, true, false, List, [], ◌∷◌, length, map, refl, ap, subst, arith}
use Rattle.std.specs.Prelude.{not, ◌&&◌, ◌||◌, slice_index_or, if◌then◌else◌}
use Rattle.std.specs.List.{list_any, list_all}
use Rattle.std.specs.Cmp.Derive.{both_true}
use Rattle.std.proofs.lemmas.Bool.{and_parts, or_parts, not-true}
use Rattle.bus_laws.specs.TreeModel.State.Lists.{all_from}
use Rattle.tree_rules.specs.Bus.Faces.{ChildFace}
use Rattle.bus_laws.specs.TreeModel.State.Values.{Note, no_note, local, up_read, up_erase}
use Rattle.tree_rules.specs.Bus.Item.{holds_it, one_holds, gives_none, gives_one, one_gives, may_erase, eraser_is_granted, child_passes}

module _ {X : Type 0} (φ : X → ChildFace) (d : X) where
  abbrev at : ℕ → List X → ChildFace
  at k xs = φ (slice_index_or xs k d)

  module _ (t : ChildFace → Bool) where
    pub any-true : (xs : List X) (k : ℕ) → k < length xs → t (at k xs) ≡ true → list_any t (map φ xs) ≡ true
    any-true [] k l e = absurd (omega arith)
    any-true (x ∷ xs) zero l e = rw e refl
    any-true (x ∷ xs) (suc k) l e = or-right (t (φ x)) _ (any-true xs k (omega arith) e) where
      or-right : (a b : Bool) → b ≡ true → (a || b) ≡ true
      or-right true b e = refl
      or-right false b e = e

    pub any-false : (xs : List X) → ((k : ℕ) → k < length xs → t (at k xs) ≡ false) → list_any t (map φ xs) ≡ false
    any-false [] h = refl
    any-false (x ∷ xs) h =
        let first : t (φ x) ≡ false = h 0 (omega arith) in
        rw first (any-false xs (λ k l. h (suc k) (omega arith)))

    pub any-none : (xs : List X) (k : ℕ) → list_any t (map φ xs) ≡ false → k < length xs → t (at k xs) ≡ false
    any-none [] k e l = absurd (omega arith)
    any-none (x ∷ xs) zero e l = (or_parts (t (φ x)) (list_any t (map φ xs)) e).0
    any-none (x ∷ xs) (suc k) e l = any-none xs k (or_parts (t (φ x)) (list_any t (map φ xs)) e).1 (omega arith)

    pub any-some : (xs : List X) → list_any t (map φ xs) ≡ true → (k : ℕ) × (k < length xs) × (t (at k xs) ≡ true)
    any-some [] e = cc
    any-some (x ∷ xs) e = here (t (φ x)) refl e (λ rest. any-some xs rest) where
      here : (b : Bool) → t (φ x) ≡ b → (b || list_any t (map φ xs)) ≡ true → (list_any t (map φ xs) ≡ true → (k : ℕ) × (k < length xs) × (t (at k xs) ≡ true)) → (k : ℕ) × (k < length (x ∷ xs)) × (t (at k (x ∷ xs)) ≡ true)
      here true is e rest = (0, omega arith, is)
      here false is e rest =
          let r = rest e in
          let l : r.0 < length xs = r.1 in
          (suc r.0, omega arith, r.2)

    pub all-true : (xs : List X) → ((k : ℕ) → k < length xs → t (at k xs) ≡ true) → list_all t (map φ xs) ≡ true
    all-true [] h = refl
    all-true (x ∷ xs) h = both_true (h 0 (omega arith)) (all-true xs (λ k l. h (suc k) (omega arith)))

    pub all-at : (xs : List X) (k : ℕ) → list_all t (map φ xs) ≡ true → k < length xs → t (at k xs) ≡ true
    all-at [] k e l = absurd (omega arith)
    all-at (x ∷ xs) zero e l = (and_parts (t (φ x)) (list_all t (map φ xs)) e).0
    all-at (x ∷ xs) (suc k) e l = all-at xs k (and_parts (t (φ x)) (list_all t (map φ xs)) e).1 (omega arith)

    pub passes-true : (xs : List X) (k : ℕ) → k < length xs → t (at k xs) ≡ true → child_passes t k (map φ xs) ≡ true
    passes-true [] k l e = absurd (omega arith)
    passes-true (x ∷ xs) zero l e = e
    passes-true (x ∷ xs) (suc k) l e = passes-true xs k (omega arith) e

    pub passes-at : (xs : List X) (k : ℕ) → child_passes t k (map φ xs) ≡ true → (k < length xs) × (t (at k xs) ≡ true)
    passes-at [] k e = cc
    passes-at (x ∷ xs) zero e = (omega arith, e)
    passes-at (x ∷ xs) (suc k) e =
        let r = passes-at xs k e in
        let l : k < length xs = r.0 in
        (omega arith, r.1)

  module _ (t : ℕ → ChildFace → Bool) where
    from-true : (i : ℕ) (xs : List X) → ((k : ℕ) → k < length xs → t (i + k) (at k xs) ≡ true) → all_from t i (map φ xs) ≡ true
    from-true i [] h = refl
    from-true i (x ∷ xs) h =
        let same : i + 0 ≡ i = omega arith in
        let first : t (i + 0) (φ x) ≡ true = h 0 (omega arith) in
        let here : t i (φ x) ≡ true = rw same at first in
        both_true here (from-true (i + 1) xs (λ k l.
        let next : i + suc k ≡ (i + 1) + k = omega arith in
        let later : t (i + suc k) (at k xs) ≡ true = h (suc k) (omega arith) in
        subst (λ j. t j (at k xs) ≡ true) next later))

    from-at : (i : ℕ) (xs : List X) (k : ℕ) → all_from t i (map φ xs) ≡ true → k < length xs → t (i + k) (at k xs) ≡ true
    from-at i [] k e l = absurd (omega arith)
    from-at i (x ∷ xs) zero e l =
        let same : i + 0 ≡ i = omega arith in
        rw same (and_parts (t i (φ x)) (all_from t (i + 1) (map φ xs)) e).0
    from-at i (x ∷ xs) (suc k) e l =
        let next : i + suc k ≡ (i + 1) + k = omega arith in
        rw next (from-at (i + 1) xs k (and_parts (t i (φ x)) (all_from t (i + 1) (map φ xs)) e).1 (omega arith))

    pub each-true : (xs : List X) → ((k : ℕ) → k < length xs → t k (at k xs) ≡ true) → all_from t 0 (map φ xs) ≡ true
    each-true xs h = from-true 0 xs (λ k l. let same : 0 + k ≡ k = omega arith in rw same (h k l))

    pub each-at : (xs : List X) (k : ℕ) → all_from t 0 (map φ xs) ≡ true → k < length xs → t k (at k xs) ≡ true
    each-at xs k e l = let same : 0 + k ≡ k = omega arith in subst (λ j. t j (at k xs) ≡ true) same (from-at 0 xs k e l)

  -- ---- just one

  pub one-true : (xs : List X) (k : ℕ) → k < length xs → holds_it (at k xs) ≡ true → ((j : ℕ) → j < length xs → j ≢ k → holds_it (at j xs) ≡ false) → one_holds (map φ xs) ≡ true
  one-true [] k l e others = absurd (omega arith)
  one-true (x ∷ xs) zero l e others =
      let rest : list_any holds_it (map φ xs) ≡ false = any-false holds_it xs (λ j l. others (suc j) (omega arith) (λ same. cc)) in
      rw e (ap not rest)
  one-true (x ∷ xs) (suc k) l e others =
      let first : holds_it (φ x) ≡ false = others 0 (omega arith) (λ same. cc) in
      rw first (one-true xs k (omega arith) e (λ j l ne. others (suc j) (omega arith) (λ same. ne (let p : j ≡ k = omega arith in p))))

  pub one-at : (xs : List X) (k j : ℕ) → one_holds (map φ xs) ≡ true → k < length xs → holds_it (at k xs) ≡ true → j < length xs → j ≢ k → holds_it (at j xs) ≡ false
  one-at [] k j one lk hk lj ne = absurd (omega arith)
  one-at (x ∷ xs) zero zero one lk hk lj ne = absurd (ne refl)
  one-at (x ∷ xs) zero (suc j) one lk hk lj ne =
      let rest : not (list_any holds_it (map φ xs)) ≡ true = rw hk at one in
      any-none holds_it xs j (not-true _ rest) (omega arith)
  one-at (x ∷ xs) (suc k) zero one lk hk lj ne = first (holds_it (φ x)) refl one where
    first : (b : Bool) → holds_it (φ x) ≡ b → (if◌then◌else◌ b (not (list_any holds_it (map φ xs))) (one_holds (map φ xs))) ≡ true → b ≡ false
    first true is e = let some = any-true holds_it xs k (omega arith) hk in let none = not-true _ e in cc
    first false is e = refl
  one-at (x ∷ xs) (suc k) (suc j) one lk hk lj ne = first (holds_it (φ x)) refl one (λ rest. one-at xs k j rest (omega arith) hk (omega arith) (λ same. ne (ap suc same))) where
    first : (b : Bool) → holds_it (φ x) ≡ b → (if◌then◌else◌ b (not (list_any holds_it (map φ xs))) (one_holds (map φ xs))) ≡ true → (one_holds (map φ xs) ≡ true → holds_it (at j xs) ≡ false) → holds_it (at j xs) ≡ false
    first true is e rest = any-none holds_it xs j (not-true _ e) (omega arith)
    first false is e rest = rest e

  pub gift-true : (xs : List X) (k : ℕ) → k < length xs → gives_none (at k xs) ≡ false → gives_one (at k xs) ≡ true → ((j : ℕ) → j < length xs → j ≢ k → gives_none (at j xs) ≡ true) → one_gives (map φ xs) ≡ true
  gift-true [] k l some one others = absurd (omega arith)
  gift-true (x ∷ xs) zero l some one others = rw some (both_true one (all-true gives_none xs (λ j l. others (suc j) (omega arith) (λ same. cc))))
  gift-true (x ∷ xs) (suc k) l some one others =
      let first : gives_none (φ x) ≡ true = others 0 (omega arith) (λ same. cc) in
      rw first (gift-true xs k (omega arith) some one (λ j l ne. others (suc j) (omega arith) (λ same. ne (let p : j ≡ k = omega arith in p))))

  -- where just one gives and this one does: it gives once, and no other does
  pub gift-at : (xs : List X) (k : ℕ) → one_gives (map φ xs) ≡ true → k < length xs → gives_none (at k xs) ≡ false → gives_one (at k xs) ≡ true
  gift-at [] k one l some = absurd (omega arith)
  gift-at (x ∷ xs) zero one l some = (and_parts (gives_one (φ x)) _ (rw some at one)).0
  gift-at (x ∷ xs) (suc k) one l some = first (gives_none (φ x)) refl one (λ rest. gift-at xs k rest (omega arith) some) where
    first : (b : Bool) → gives_none (φ x) ≡ b → (if◌then◌else◌ b (one_gives (map φ xs)) (gives_one (φ x) && list_all gives_none (map φ xs))) ≡ true → (one_gives (map φ xs) ≡ true → gives_one (at k xs) ≡ true) → gives_one (at k xs) ≡ true
    first true is e rest = rest e
    first false is e rest = let all = all-at gives_none xs k (and_parts (gives_one (φ x)) (list_all gives_none (map φ xs)) e).1 (omega arith) in cc

  pub gift-others : (xs : List X) (k j : ℕ) → one_gives (map φ xs) ≡ true → k < length xs → gives_none (at k xs) ≡ false → j < length xs → j ≢ k → gives_none (at j xs) ≡ true
  gift-others [] k j one lk some lj ne = absurd (omega arith)
  gift-others (x ∷ xs) zero zero one lk some lj ne = absurd (ne refl)
  gift-others (x ∷ xs) zero (suc j) one lk some lj ne = all-at gives_none xs j (and_parts (gives_one (φ x)) _ (rw some at one)).1 (omega arith)
  gift-others (x ∷ xs) (suc k) zero one lk some lj ne = first (gives_none (φ x)) refl one where
    first : (b : Bool) → gives_none (φ x) ≡ b → (if◌then◌else◌ b (one_gives (map φ xs)) (gives_one (φ x) && list_all gives_none (map φ xs))) ≡ true → b ≡ true
    first true is e = refl
    first false is e = let all = all-at gives_none xs k (and_parts (gives_one (φ x)) (list_all gives_none (map φ xs)) e).1 (omega arith) in cc
  gift-others (x ∷ xs) (suc k) (suc j) one lk some lj ne = first (gives_none (φ x)) refl one (λ rest. gift-others xs k j rest (omega arith) some (omega arith) (λ same. ne (ap suc same))) where
    first : (b : Bool) → gives_none (φ x) ≡ b → (if◌then◌else◌ b (one_gives (map φ xs)) (gives_one (φ x) && list_all gives_none (map φ xs))) ≡ true → (one_gives (map φ xs) ≡ true → gives_none (at j xs) ≡ true) → gives_none (at j xs) ≡ true
    first true is e rest = rest e
    first false is e rest = all-at gives_none xs j (and_parts (gives_one (φ x)) (list_all gives_none (map φ xs)) e).1 (omega arith)

  -- ---- two lists that are seen alike

  pub any-same : (t : ChildFace → Bool) (xs ys : List X) → length ys ≡ length xs → ((k : ℕ) → k < length xs → t (at k ys) ≡ t (at k xs)) → list_any t (map φ ys) ≡ list_any t (map φ xs)
  any-same t [] [] e h = refl
  any-same t [] (y ∷ ys) e h = absurd (omega (arith, e))
  any-same t (x ∷ xs) [] e h = absurd (omega (arith, e))
  any-same t (x ∷ xs) (y ∷ ys) e h =
      let first : t (φ y) ≡ t (φ x) = h 0 (omega arith) in
      let rest = any-same t xs ys (omega (arith, e)) (λ k l. h (suc k) (omega arith)) in
      rw (first, rest) refl

  pub one-same : (xs ys : List X) → length ys ≡ length xs → ((k : ℕ) → k < length xs → holds_it (at k ys) ≡ holds_it (at k xs)) → one_holds (map φ ys) ≡ one_holds (map φ xs)
  one-same [] [] e h = refl
  one-same [] (y ∷ ys) e h = absurd (omega (arith, e))
  one-same (x ∷ xs) [] e h = absurd (omega (arith, e))
  one-same (x ∷ xs) (y ∷ ys) e h =
      let first : holds_it (φ y) ≡ holds_it (φ x) = h 0 (omega arith) in
      let rest = one-same xs ys (omega (arith, e)) (λ k l. h (suc k) (omega arith)) in
      let any = any-same holds_it xs ys (omega (arith, e)) (λ k l. h (suc k) (omega arith)) in
      rw (first, rest, any) refl

-- no child holds it, so there isn't one that does alone; none gives, so there isn't one gift
pub one-none : (cs : List ChildFace) → list_any holds_it cs ≡ false → one_holds cs ≡ false
one-none [] none = refl
one-none (c ∷ cs) none =
    let parts = or_parts (holds_it c) (list_any holds_it cs) none in
    rw parts.0 (one-none cs parts.1)

pub gift-none : (cs : List ChildFace) → list_all gives_none cs ≡ true → one_gives cs ≡ false
gift-none [] none = refl
gift-none (c ∷ cs) none =
    let parts = and_parts (gives_none c) (list_all gives_none cs) none in
    rw parts.0 (gift-none cs parts.1)

module _ {X : Type 0} (φ : X → ChildFace) (d : X) where
  pub from-same : (t : ℕ → ChildFace → Bool) (i : ℕ) (xs ys : List X) → length ys ≡ length xs → ((k j : ℕ) → k < length xs → t j (φ (slice_index_or ys k d)) ≡ t j (φ (slice_index_or xs k d))) → all_from t i (map φ ys) ≡ all_from t i (map φ xs)
  from-same t i [] [] e h = refl
  from-same t i [] (y ∷ ys) e h = absurd (omega (arith, e))
  from-same t i (x ∷ xs) [] e h = absurd (omega (arith, e))
  from-same t i (x ∷ xs) (y ∷ ys) e h =
      let first : t i (φ y) ≡ t i (φ x) = h 0 i (omega arith) in
      let rest = from-same t (i + 1) xs ys (omega (arith, e)) (λ k j l. h (suc k) j (omega arith)) in
      rw (first, rest) refl

  pub passes-same : (t : ChildFace → Bool) (c : ℕ) (xs ys : List X) → length ys ≡ length xs → ((k : ℕ) → k < length xs → t (φ (slice_index_or ys k d)) ≡ t (φ (slice_index_or xs k d))) → child_passes t c (map φ ys) ≡ child_passes t c (map φ xs)
  passes-same t c [] [] e h = refl
  passes-same t c [] (y ∷ ys) e h = absurd (omega (arith, e))
  passes-same t c (x ∷ xs) [] e h = absurd (omega (arith, e))
  passes-same t zero (x ∷ xs) (y ∷ ys) e h = h 0 (omega arith)
  passes-same t (suc c) (x ∷ xs) (y ∷ ys) e h = passes-same t c xs ys (omega (arith, e)) (λ k l. h (suc k) (omega arith))

  pub eraser-same : (note : Note) (xs ys : List X) → length ys ≡ length xs → ((k : ℕ) → k < length xs → may_erase (φ (slice_index_or ys k d)) ≡ may_erase (φ (slice_index_or xs k d))) → eraser_is_granted note (map φ ys) ≡ eraser_is_granted note (map φ xs)
  eraser-same no_note xs ys e h = refl
  eraser-same (local first joined) xs ys e h = refl
  eraser-same (up_read first joined) xs ys e h = refl
  eraser-same (up_erase c) xs ys e h = passes-same may_erase c xs ys e h

  -- what is held and granted stays, so those bits do
  pub sole-same : (parked : Bool) (xs ys : List X) → length ys ≡ length xs → ((k : ℕ) → k < length xs → holds_it (φ (slice_index_or ys k d)) ≡ holds_it (φ (slice_index_or xs k d))) → (if◌then◌else◌ parked (not (list_any holds_it (map φ ys))) (one_holds (map φ ys))) ≡ (if◌then◌else◌ parked (not (list_any holds_it (map φ xs))) (one_holds (map φ xs)))
  sole-same true xs ys e h = ap not (any-same φ d holds_it xs ys e h)
  sole-same false xs ys e h = one-same φ d xs ys e h

pub all-same : {X : Type 0} (φ : X → ChildFace) (d : X) (t : ChildFace → Bool) (xs ys : List X) → length ys ≡ length xs → ((k : ℕ) → k < length xs → t (φ (slice_index_or ys k d)) ≡ t (φ (slice_index_or xs k d))) → list_all t (map φ ys) ≡ list_all t (map φ xs)
all-same φ d t [] [] e h = refl
all-same φ d t [] (y ∷ ys) e h = absurd (omega (arith, e))
all-same φ d t (x ∷ xs) [] e h = absurd (omega (arith, e))
all-same φ d t (x ∷ xs) (y ∷ ys) e h =
    let first : t (φ y) ≡ t (φ x) = h 0 (omega arith) in
    let rest = all-same φ d t xs ys (omega (arith, e)) (λ k l. h (suc k) (omega arith)) in
    rw (first, rest) refl

pub gift-same : {X : Type 0} (φ : X → ChildFace) (d : X) (xs ys : List X) → length ys ≡ length xs → ((k : ℕ) → k < length xs → gives_none (φ (slice_index_or ys k d)) ≡ gives_none (φ (slice_index_or xs k d))) → ((k : ℕ) → k < length xs → gives_one (φ (slice_index_or ys k d)) ≡ gives_one (φ (slice_index_or xs k d))) → one_gives (map φ ys) ≡ one_gives (map φ xs)
gift-same φ d [] [] e g h = refl
gift-same φ d [] (y ∷ ys) e g h = absurd (omega (arith, e))
gift-same φ d (x ∷ xs) [] e g h = absurd (omega (arith, e))
gift-same φ d (x ∷ xs) (y ∷ ys) e g h =
    let none : gives_none (φ y) ≡ gives_none (φ x) = g 0 (omega arith) in
    let one : gives_one (φ y) ≡ gives_one (φ x) = h 0 (omega arith) in
    let rest = gift-same φ d xs ys (omega (arith, e)) (λ k l. g (suc k) (omega arith)) (λ k l. h (suc k) (omega arith)) in
    let all = all-same φ d gives_none xs ys (omega (arith, e)) (λ k l. g (suc k) (omega arith)) in
    rw (none, one, rest, all) refl
