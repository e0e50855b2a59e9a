-- Directories over runs of children before the run: the items that they hold, and which children each gets.
use Rattle.std.proofs.Common.{◌≡◌, ◌<◌, ◌≤◌, ℕ, zero, suc, ◌+◌, Bool, true, false, List, [], ◌∷◌, ◌++◌, length, map, get_or, take, drop, replicate, refl, sym, ap, ◌∙◌, arith, add-one, All}
use Rattle.std.specs.Prelude.{if◌then◌else◌, slice_index_or, slice_set, sum}
use Rattle.std.specs.List.{AllByRecursion}
use Rattle.std.proofs.lemmas.List.{append_assoc, length-append}
use Rattle.std.proofs.lemmas.List.Elements.{recursion_from_All}
use Rattle.std.proofs.lemmas.List.Sums.{sum_by-cons}
use Rattle.ddm_tree.specs.DdmTypes.declared.sizes.Hold.{Hold}
use Rattle.ddm_tree.specs.TreeModel.State.Directory.{with_hold}
use Rattle.ddm_tree.specs.TreeModel.State.Values.{DirItem, DirSizes, absent_item, Node}
use Rattle.ddm_tree.specs.TreeModel.Start.Nodes.{cut_in, dir_over, dirs_over, held_below, held_by, held_if, new_dir}
use Rattle.leaf_protocol.proofs.Marking.{each-length}
use Rattle.ddm_tree.specs.Holders.{IsHolder}

-- ---- a list while a loop goes over it

module _ {A : Type 0} (f : A → Node) (p : Node → Bool) where
  pub drop-here : (k : ℕ) (xs : List A) (x : A) → k < length xs → x ≡ get_or xs k x → drop k xs ≡ x ∷ drop (suc k) xs
  drop-here k [] x l is = absurd (omega (arith, l))
  drop-here zero (y ∷ ys) x l is = ap (λ z. z ∷ ys) (sym is)
  drop-here (suc k) (y ∷ ys) x l is = drop-here k ys x (omega (arith, l)) is

-- ---- what holders hold

module _ (items : ℕ) where
  held-fits : (ks : List Node) → AllByRecursion (IsHolder items) ks → length (held_below ks) ≤ items
  held-fits [] all = omega arith
  held-fits (k ∷ ks) all =
      let fits = held-fits ks all.1 in
      let whole = each-length (held_by k) (held_below ks) (omega (arith, all.0.count, fits)) in
      omega (arith, whole, all.0.count)

  held-length : (ks : List Node) → AllByRecursion (IsHolder items) ks → 0 < length ks → length (held_below ks) ≡ items
  held-length [] all some = absurd (omega (arith, some))
  held-length (k ∷ ks) all some =
      let fits = held-fits ks all.1 in
      each-length (held_by k) (held_below ks) (omega (arith, all.0.count, fits)) ∙ all.0.count

  pub below-length : (ks : List Node) → All (IsHolder items) ks → 0 < length ks → length (held_below ks) ≡ items
  below-length ks all some = held-length ks (recursion_from_All (IsHolder items) ks all) some

-- ---- a directory's items, of which the first were gone through

abbrev pub mixed : ℕ → List Bool → List DirItem
mixed zero [] = []
mixed zero (b ∷ bs) = absent_item ∷ mixed zero bs
mixed (suc k) [] = []
mixed (suc k) (b ∷ bs) = held_if b ∷ mixed k bs

pub mixed-start : (n : ℕ) (bs : List Bool) → length bs ≡ n → replicate n absent_item ≡ mixed 0 bs
mixed-start zero [] e = refl
mixed-start zero (b ∷ bs) e = absurd (omega (arith, e))
mixed-start (suc n) [] e = absurd (omega (arith, e))
mixed-start (suc n) (b ∷ bs) e = ap (λ is. absent_item ∷ is) (mixed-start n bs (omega (arith, e)))

pub mixed-end : (k : ℕ) (bs : List Bool) → length bs ≤ k → mixed k bs ≡ map held_if bs
mixed-end zero [] e = refl
mixed-end zero (b ∷ bs) e = absurd (omega (arith, e))
mixed-end (suc k) [] e = refl
mixed-end (suc k) (b ∷ bs) e = ap (λ is. held_if b ∷ is) (mixed-end k bs (omega (arith, e)))

pub mixed-length : (k : ℕ) (bs : List Bool) → length (mixed k bs) ≡ length bs
mixed-length zero [] = refl
mixed-length zero (b ∷ bs) =
    let rest = mixed-length zero bs in
    omega (arith, rest)
mixed-length (suc k) [] = refl
mixed-length (suc k) (b ∷ bs) =
    let rest = mixed-length k bs in
    omega (arith, rest)

abbrev set_held : List DirItem → ℕ → Bool → List DirItem
set_held is k b = if b then slice_set is k (record (slice_index_or is k absent_item) { hold = Hold.Exclusive }) else is

mixed-more : (k : ℕ) (bs : List Bool) (b : Bool) → k < length bs → b ≡ slice_index_or bs k false → set_held (mixed k bs) k b ≡ mixed (suc k) bs
mixed-more k [] b l is = absurd (omega (arith, l))
mixed-more zero (true ∷ bs) true l is = refl
mixed-more zero (false ∷ bs) true l is = cc
mixed-more zero (true ∷ bs) false l is = cc
mixed-more zero (false ∷ bs) false l is = refl
mixed-more (suc k) (c ∷ bs) true l is = ap (λ is. held_if c ∷ is) (mixed-more k bs true (omega (arith, l)) is)
mixed-more (suc k) (c ∷ bs) false l is = ap (λ is. held_if c ∷ is) (mixed-more k bs false (omega (arith, l)) is)

pub dir-more : (sizes : DirSizes) (level bus k : ℕ) (bs : List Bool) (b : Bool) → k < length bs → b ≡ slice_index_or bs k false
    → (if b then with_hold k Hold.Exclusive (new_dir sizes level bus (mixed k bs)) else new_dir sizes level bus (mixed k bs)) ≡ new_dir sizes level bus (mixed (k + 1) bs)
dir-more sizes level bus k bs true l is = ap (new_dir sizes level bus) (mixed-more k bs true l is ∙ ap (λ i. mixed i bs) (sym (add-one k)))
dir-more sizes level bus k bs false l is = ap (new_dir sizes level bus) (mixed-more k bs false l is ∙ ap (λ i. mixed i bs) (sym (add-one k)))

-- ---- the children of each directory

pub take-whole : {X : Type 0} (n : ℕ) (us vs ws : List X) → us ++ vs ≡ ws → length us ≡ n → us ≡ take n ws
take-whole n us vs ws whole size = sym (ap (λ k. take k ws) (sym size) ∙ ap (take (length us)) (sym whole) ∙ front us vs)
  where
    front : {X : Type 0} (us vs : List X) → take (length us) (us ++ vs) ≡ us
    front [] vs = refl
    front (u ∷ us) vs = ap (λ xs. u ∷ xs) (front us vs)

pub drop-whole : {X : Type 0} (n : ℕ) (us vs ws : List X) → us ++ vs ≡ ws → length us ≡ n → vs ≡ drop n ws
drop-whole n us vs ws whole size = sym (ap (λ k. drop k ws) (sym size) ∙ ap (drop (length us)) (sym whole) ∙ back us vs)
  where
    back : {X : Type 0} (us vs : List X) → drop (length us) (us ++ vs) ≡ vs
    back [] vs = refl
    back (u ∷ us) vs = back us vs

pub whole-length : {X : Type 0} (us vs ws : List X) → us ++ vs ≡ ws → length us + length vs ≡ length ws
whole-length us vs ws whole = sym (length-append us vs) ∙ ap length whole

pub map-take : {X Y : Type 0} (f : X → Y) (n : ℕ) (xs : List X) → map f (take n xs) ≡ take n (map f xs)
map-take f zero xs = refl
map-take f (suc n) [] = refl
map-take f (suc n) (x ∷ xs) = ap (λ ys. f x ∷ ys) (map-take f n xs)

pub map-drop : {X Y : Type 0} (f : X → Y) (n : ℕ) (xs : List X) → map f (drop n xs) ≡ drop n (map f xs)
map-drop f zero xs = refl
map-drop f (suc n) [] = refl
map-drop f (suc n) (x ∷ xs) = map-drop f n xs

drop-number : (k : ℕ) (ws : List ℕ) (w : ℕ) → k < length ws → w ≡ get_or ws k w → drop k ws ≡ w ∷ drop (suc k) ws
drop-number k [] w l is = absurd (omega (arith, l))
drop-number zero (v ∷ vs) w l is = ap (λ z. z ∷ vs) (sym is)
drop-number (suc k) (v ∷ vs) w l is = drop-number k vs w (omega (arith, l)) is

pub next-width : (k : ℕ) (ws : List ℕ) (w : ℕ) → k < length ws → w ≡ get_or ws k w → drop k ws ≡ w ∷ drop (k + 1) ws
next-width k ws w l is = drop-number k ws w l is ∙ ap (λ i. w ∷ drop i ws) (sym (add-one k))

pub next-sum : (k : ℕ) (ws : List ℕ) (w : ℕ) → k < length ws → w ≡ get_or ws k w → sum (drop k ws) ≡ w + sum (drop (k + 1) ws)
next-sum k ws w l is = ap sum (next-width k ws w l is) ∙ sum_by-cons (λ x. x) w (drop (k + 1) ws)

pub next-dirs : (sizes : DirSizes) (level bus k : ℕ) (ws : List ℕ) (w : ℕ) (ns : List Node) → k < length ws → w ≡ get_or ws k w
    → dirs_over sizes level bus (cut_in (drop k ws) ns) ≡ dir_over sizes level bus (take w ns) ∷ dirs_over sizes level (bus + 1) (cut_in (drop (k + 1) ws) (drop w ns))
next-dirs sizes level bus k ws w ns l is = ap (λ vs. dirs_over sizes level bus (cut_in vs ns)) (next-width k ws w l is)

pub take-some : {X : Type 0} (n : ℕ) (xs : List X) → 0 < n → n ≤ length xs → 0 < length (take n xs)
take-some zero xs some enough = absurd (omega (arith, some))
take-some (suc n) [] some enough = absurd (omega (arith, enough))
take-some (suc n) (x ∷ xs) some enough = omega arith

pub width-at : (k : ℕ) (ws : List ℕ) → k < length ws → slice_index_or ws k 0 ≡ get_or ws k (slice_index_or ws k 0)
width-at k [] l = absurd (omega (arith, l))
width-at zero (w ∷ ws) l = refl
width-at (suc k) (w ∷ ws) l = width-at k ws (omega (arith, l))

pub drop-less : {X : Type 0} (n : ℕ) (xs : List X) (m : ℕ) → length xs ≡ n + m → length (drop n xs) ≡ m
drop-less zero xs m e = omega (arith, e)
drop-less (suc n) [] m e = absurd (omega (arith, e))
drop-less (suc n) (x ∷ xs) m e = drop-less n xs m (omega (arith, e))

-- one directory more, and the children that are left for the others
pub one-dir : (sizes : DirSizes) (level first k : ℕ) (ws : List ℕ) (w : ℕ) (ns made : List Node) (dir : Node) (rest : List Node) (all : List Node) → k < length ws → w ≡ get_or ws k w → dir ≡ dir_over sizes level (first + k) (take w ns) → rest ≡ drop w ns
    → made ++ dirs_over sizes level (first + k) (cut_in (drop k ws) ns) ≡ all → (made ++ dir ∷ []) ++ dirs_over sizes level (first + (k + 1)) (cut_in (drop (k + 1) ws) rest) ≡ all
one-dir sizes level first k ws w ns made dir rest all within at is left before =
    let later : first + (k + 1) ≡ first + k + 1 = omega arith in
    append_assoc made (dir ∷ []) _ ∙ ap (λ ds. made ++ ds) (ap (λ b. dir ∷ dirs_over sizes level b (cut_in (drop (k + 1) ws) rest)) later ∙ ap (λ ms. dir ∷ dirs_over sizes level (first + k + 1) (cut_in (drop (k + 1) ws) ms)) left ∙ ap (λ d. d ∷ dirs_over sizes level (first + k + 1) (cut_in (drop (k + 1) ws) (drop w ns))) is ∙ sym (next-dirs sizes level (first + k) k ws w ns within at)) ∙ before
