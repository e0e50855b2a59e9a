-- Marks put child by child, and those of a directory put item by item.
-- Letters: b, c and e are marks, bs, cs and es lists of them, n is a node, i an item, k a place.
use Rattle.std.proofs.Common.{◌≡◌, ◌<◌, ◌≤◌, ℕ, zero, suc, ◌+◌, Bool, true, false, ◌||◌, List, [], ◌∷◌, length, map, drop, take, get_or, set, replicate, refl, sym, ap, ◌∙◌, arith, add-one}
use Rattle.std.specs.Prelude.{if◌then◌else◌}
use Rattle.std.proofs.Math.Bool.{or_assoc, or-true, or-false}
use Rattle.std.proofs.lemmas.List.{drop_all, get_or-map, length-map}
use Rattle.ddm_tree.specs.TreeModel.State.Values.{DirItem, absent_item, Node}
use Rattle.ddm_tree.specs.TreeModel.Start.Nodes.{held_below, held_by, item_is_exclusive, or_each}
use Rattle.ddm_tree.proofs.Gathered.{drop-here}

-- ---- either of two lists

each-assoc : (bs cs es : List Bool) → or_each (or_each bs cs) es ≡ or_each bs (or_each cs es)
each-assoc [] cs es = refl
each-assoc (b ∷ bs) [] es = refl
each-assoc (b ∷ bs) (c ∷ cs) [] = refl
each-assoc (b ∷ bs) (c ∷ cs) (e ∷ es) = ap (λ x. x ∷ or_each (or_each bs cs) es) (or_assoc b c e) ∙ ap (λ xs. (b || (c || e)) ∷ xs) (each-assoc bs cs es)

pub each-none : (bs : List Bool) → or_each bs [] ≡ bs
each-none [] = refl
each-none (b ∷ bs) = refl

-- marks over blank ones
pub each-blank : (n : ℕ) (bs : List Bool) → length bs ≡ n → or_each (replicate n false) bs ≡ bs
each-blank zero [] whole = refl
each-blank zero (b ∷ bs) whole = absurd (omega (arith, whole))
each-blank (suc n) [] whole = absurd (omega (arith, whole))
each-blank (suc n) (b ∷ bs) whole = ap (λ cs. b ∷ cs) (each-blank n bs (omega (arith, whole)))

-- ---- children, seen through f, while a loop goes over them

module _ {A : Type 0} (f : A → Node) (k : ℕ) (xs : List A) (bs : List Bool) where
  pub marked-next : (x : A) → k < length xs → x ≡ get_or xs k x → or_each (or_each bs (held_by (f x))) (held_below (map f (drop (k + 1) xs))) ≡ or_each bs (held_below (map f (drop k xs)))
  marked-next x inside is =
      let here : drop k xs ≡ x ∷ drop (k + 1) xs = drop-here f (λ n. true) k xs x inside is ∙ ap (λ i. x ∷ drop i xs) (sym (add-one k)) in
      each-assoc bs (held_by (f x)) (held_below (map f (drop (k + 1) xs))) ∙ ap (λ ys. or_each bs (held_below (map f ys))) (sym here)

  pub marked-end : length xs ≤ k → or_each bs (held_below (map f (drop k xs))) ≡ bs
  marked-end past = ap (λ ys. or_each bs (held_below (map f ys))) (drop_all k xs past) ∙ each-none bs

-- ---- the items of a directory

-- one place more
each-more : (k : ℕ) (bs cs : List Bool) (c : Bool) → k < length cs → length bs ≡ length cs → c ≡ get_or cs k false → (if c then set (or_each bs (take k cs)) k true else or_each bs (take k cs)) ≡ or_each bs (take (suc k) cs)
each-more k bs [] c inside whole is = absurd (omega (arith, inside))
each-more k [] (e ∷ cs) c inside whole is = absurd (omega (arith, whole))
each-more zero (b ∷ bs) (e ∷ cs) true inside whole is = ap (λ x. x ∷ bs) (sym (or-true b) ∙ ap (λ x. b || x) is) ∙ ap (λ xs. (b || e) ∷ xs) (sym (each-none bs))
each-more zero (b ∷ bs) (e ∷ cs) false inside whole is = ap (λ x. x ∷ bs) (sym (or-false b) ∙ ap (λ x. b || x) is) ∙ ap (λ xs. (b || e) ∷ xs) (sym (each-none bs))
each-more (suc k) (b ∷ bs) (e ∷ cs) true inside whole is = ap (λ xs. (b || e) ∷ xs) (each-more k bs cs true (omega (arith, inside)) (omega (arith, whole)) is)
each-more (suc k) (b ∷ bs) (e ∷ cs) false inside whole is = ap (λ xs. (b || e) ∷ xs) (each-more k bs cs false (omega (arith, inside)) (omega (arith, whole)) is)

pub exclusive-next : (k : ℕ) (bs : List Bool) (is : List DirItem) (held : Bool) → k < length is → length bs ≡ length is → held ≡ item_is_exclusive (get_or is k absent_item)
    → (if held then set (or_each bs (take k (map item_is_exclusive is))) k true else or_each bs (take k (map item_is_exclusive is))) ≡ or_each bs (take (k + 1) (map item_is_exclusive is))
exclusive-next k bs is held inside whole at =
    let marks = map item_is_exclusive is in
    let many : length marks ≡ length is = length-map is item_is_exclusive in
    let told : held ≡ get_or marks k false = at ∙ sym (get_or-map item_is_exclusive is k absent_item false inside) in
    each-more k bs marks held (omega (arith, inside, many)) (omega (arith, whole, many)) told ∙ ap (λ i. or_each bs (take i marks)) (sym (add-one k))
