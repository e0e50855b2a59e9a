-- Where an item goes, while a loop looks for its leaf; and what stays of the other items.
use Rattle.std.proofs.Common.{◌≡◌, ◌<◌, ◌≤◌, ℕ, zero, suc, ◌+◌, ◌-◌, Bool, true, false, List, [], ◌∷◌, ◌++◌, length, map, get_or, set, Option, Some, None, Result, Ok, Err, refl, sym, ap, subst, ◌∙◌, arith}
use Rattle.std.specs.Prelude.{IfOk, IfErr, is_ok, is_some, nat_eq, find, slice_index_or, slice_set, if◌then◌else◌}
use Rattle.std.specs.List.{range_with_len}
use Rattle.std.proofs.lemmas.List.{map-append}
use Rattle.std.proofs.lemmas.Bool.Decides.{nat_tests}
use Rattle.run_engine.specs.TreeModel.State.Lists.{map_from}
use Rattle.run_engine.specs.TreeModel.State.Values.{LeafValue}
use Rattle.run_engine.specs.TreeModel.State.Blank.{no_leaf}
use Rattle.run_engine.specs.TreeModel.State.Leaf.{free_way}
use Rattle.run_engine.specs.TreeModel.Start.Nodes.{has_way, leaf_for, placed, placed_at, placed_in}
use Rattle.run_engine.specs.Placement.{ArePassed, in_turn}

-- ---- an item is placed at one leaf

module _ (x : ℕ) (words : List ℕ) where
  placed-past : (leaf i : ℕ) (ls : List LeafValue) → leaf < i → map_from (placed_at leaf x words) i ls ≡ ls
  placed-past leaf i [] past = refl
  placed-past leaf i (v ∷ ls) past =
      let other : nat_eq i leaf ≡ false = grind (arith, nat_tests, past) in
      let here : placed_at leaf x words i v ≡ v = ap (λ b. if b then placed x words v else v) other in
      ap (λ u. u ∷ map_from (placed_at leaf x words) (i + 1) ls) here ∙ ap (λ us. v ∷ us) (placed-past leaf (i + 1) ls (omega (arith, past)))

  pub placed-set : (leaf i k : ℕ) (ls : List LeafValue) (v : LeafValue) → leaf ≡ i + k → k < length ls → v ≡ get_or ls k v → map_from (placed_at leaf x words) i ls ≡ set ls k (placed x words v)
  placed-set leaf i k [] v at within is = absurd (omega (arith, within))
  placed-set leaf i zero (u ∷ ls) v at within is =
      let here : nat_eq i leaf ≡ true = grind (arith, nat_tests, at) in
      let this : placed_at leaf x words i u ≡ placed x words v = ap (λ b. if b then placed x words u else u) here ∙ ap (placed x words) (sym is) in
      ap (λ w. w ∷ map_from (placed_at leaf x words) (i + 1) ls) this ∙ ap (λ us. placed x words v ∷ us) (placed-past leaf (i + 1) ls (omega (arith, at)))
  placed-set leaf i (suc k) (u ∷ ls) v at within is =
      let other : nat_eq i leaf ≡ false = grind (arith, nat_tests, at) in
      let this : placed_at leaf x words i u ≡ u = ap (λ b. if b then placed x words u else u) other in
      ap (λ w. w ∷ map_from (placed_at leaf x words) (i + 1) ls) this ∙ ap (λ us. u ∷ us) (placed-set leaf (i + 1) k ls v (omega (arith, at)) (omega (arith, within)) is)

-- without a free way nothing is placed
pub placed-full : (x : ℕ) (words : List ℕ) (v : LeafValue) → free_way v.sizes x v.ways ≡ None → placed x words v ≡ v
placed-full x words v none = rw none refl

pub set-same : {X : Type 0} (xs : List X) (k : ℕ) (x : X) → x ≡ get_or xs k x → set xs k x ≡ xs
set-same [] k x is = refl
set-same (y ∷ ys) zero x is = ap (λ z. z ∷ ys) is
set-same (y ∷ ys) (suc k) x is = ap (λ zs. y ∷ zs) (set-same ys k x is)

-- ---- the leaf is searched for

module _ (x : ℕ) (ls : List LeafValue) where
  abbrev turn : ℕ → ℕ
  turn k = in_turn x (length ls) k

  -- the search from the k-th leaf in cyclic order on
  abbrev pub search_from : ℕ → Option ℕ
  search_from k = find (has_way ls x) (map turn (range_with_len k (length ls - k)))

  pub search-all : leaf_for ls x ≡ search_from 0
  unfolding leaf_for
  search-all =
      let whole : length ls - 0 ≡ length ls = omega arith in
      ap (λ m. find (has_way ls x) (map turn (range_with_len 0 m))) (sym whole)

  searched : (k m : ℕ) → length ls - k ≡ suc m → search_from k ≡ (if has_way ls x (turn k) then Some (turn k) else find (has_way ls x) (map turn (range_with_len (k + 1) m)))
  searched k m size = rw size refl

  pub search-found : (k leaf : ℕ) → k < length ls → leaf ≡ turn k → has_way ls x leaf ≡ true → search_from k ≡ Some leaf
  search-found k leaf within is way =
      let size : length ls - k ≡ suc (length ls - k - 1) = omega (arith, within) in
      let way' : has_way ls x (turn k) ≡ true = subst (λ i. has_way ls x i ≡ true) is way in
      searched k (length ls - k - 1) size ∙ ap (λ b. if b then Some (turn k) else find (has_way ls x) (map turn (range_with_len (k + 1) (length ls - k - 1)))) way' ∙ ap Some (sym is)

  pub search-past : (k leaf : ℕ) → k < length ls → leaf ≡ turn k → has_way ls x leaf ≡ false → search_from k ≡ search_from (k + 1)
  search-past k leaf within is way =
      let size : length ls - k ≡ suc (length ls - k - 1) = omega (arith, within) in
      let rest : length ls - k - 1 ≡ length ls - (k + 1) = omega arith in
      let way' : has_way ls x (turn k) ≡ false = subst (λ i. has_way ls x i ≡ false) is way in
      searched k (length ls - k - 1) size ∙ ap (λ b. if b then Some (turn k) else find (has_way ls x) (map turn (range_with_len (k + 1) (length ls - k - 1)))) way' ∙ ap (λ m. find (has_way ls x) (map turn (range_with_len (k + 1) m))) rest

  pub search-end : (k : ℕ) → length ls ≤ k → search_from k ≡ None
  search-end k past =
      let none : length ls - k ≡ 0 = omega (arith, past) in
      ap (λ m. find (has_way ls x) (map turn (range_with_len k m))) none

  -- leaves that have no way are passed
  pub search-skip : (count : ℕ) → count ≤ length ls → ArePassed x count ls → search_from 0 ≡ search_from count
  search-skip zero few passed = refl
  search-skip (suc count) few passed =
      let next : count + 1 ≡ suc count = omega arith in
      search-skip count (omega (arith, few)) (λ k below. passed k (omega (arith, below))) ∙ search-past count (turn count) (omega (arith, few)) refl (passed count (omega arith)) ∙ ap search_from next

-- ---- at one leaf, whether or not it has a way

-- whether a leaf has a way may be read with any leaf in the place of one that isn't there
pub way-at : (x leaf : ℕ) (ls : List LeafValue) (v : LeafValue) → leaf < length ls → v ≡ slice_index_or ls leaf v → has_way ls x leaf ≡ is_some (free_way v.sizes x v.ways)
way-at x leaf ls v within is = ap (λ u. is_some (free_way u.sizes x u.ways)) (default-any ls leaf no_leaf v within ∙ sym is)
  where
    default-any : {X : Type 0} (xs : List X) (k : ℕ) (d e : X) → k < length xs → slice_index_or xs k d ≡ slice_index_or xs k e
    default-any [] k d e l = absurd (omega (arith, l))
    default-any (y ∷ ys) zero d e l = refl
    default-any (y ∷ ys) (suc k) d e l = default-any ys k d e (omega (arith, l))

pub way-told : {E : Type 0} (r : Result ℕ E) (o : Option ℕ) (Q : E → Type 0) → IfOk r (λ w. o ≡ Some w) → IfErr r (λ e. (o ≡ None) × Q e) → is_ok r ≡ is_some o
way-told (Ok w) o Q way full = ap is_some (sym way)
way-told (Err e) o Q way full = ap is_some (sym full.0)

pub placed-after : (x : ℕ) (words : List ℕ) (leaf : ℕ) (ls : List LeafValue) (v : LeafValue) → leaf < length ls → v ≡ slice_index_or ls leaf v → (way : Bool) → way ≡ has_way ls x leaf → slice_set ls leaf (placed x words v) ≡ (if way then map_from (placed_at leaf x words) 0 ls else ls)
placed-after x words leaf ls v within is true way = sym (placed-set x words leaf 0 leaf ls v (omega arith) within is)
placed-after x words leaf ls v within is false way =
    let none : free_way v.sizes x v.ways ≡ None = no-way (free_way v.sizes x v.ways) (sym (way ∙ way-at x leaf ls v within is)) in
    ap (set ls leaf) (placed-full x words v none) ∙ set-same ls leaf v is
  where
    no-way : (o : Option ℕ) → is_some o ≡ false → o ≡ None
    no-way None e = refl
    no-way (Some way) e = cc

-- ---- the item's leaf, and no other

pub placed-found : (x : ℕ) (words : List ℕ) (ls : List LeafValue) (leaf : ℕ) → leaf_for ls x ≡ Some leaf → map_from (placed_at leaf x words) 0 ls ≡ placed_in x words ls (leaf_for ls x)
placed-found x words ls leaf is = ap (placed_in x words ls) (sym is)

pub placed-nowhere : (x : ℕ) (words : List ℕ) (ls : List LeafValue) → leaf_for ls x ≡ None → ls ≡ placed_in x words ls (leaf_for ls x)
placed-nowhere x words ls none = ap (placed_in x words ls) (sym none)

-- ---- one leaf more

pub range-more : (a n : ℕ) → range_with_len a (n + 1) ≡ range_with_len a n ++ (a + n) ∷ []
range-more a zero = ap (λ k. k ∷ []) (omega arith)
range-more a (suc n) =
    let longer : suc n + 1 ≡ suc (n + 1) = omega arith in
    ap (range_with_len a) longer ∙ ap (λ ks. a ∷ ks) (range-more (a + 1) n ∙ ap (λ k. range_with_len (a + 1) n ++ k ∷ []) (omega arith))

pub made-more : {X : Type 0} (f : ℕ → X) (n : ℕ) → map f (range_with_len 0 n) ++ f n ∷ [] ≡ map f (range_with_len 0 (n + 1))
made-more f n = sym (ap (map f) (range-more 0 n ∙ ap (λ k. range_with_len 0 n ++ k ∷ []) (omega arith)) ∙ map-append f (range_with_len 0 n) (n ∷ []))
