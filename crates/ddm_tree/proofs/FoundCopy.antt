-- The found copy: among children while a loop goes over them, seen through f; and a directory's own before theirs.
use Rattle.std.proofs.Common.{◌≡◌, ◌<◌, ◌≤◌, ℕ, ◌+◌, Bool, true, false, List, ◌∷◌, length, map, drop, get_or, Option, Some, None, option_map, refl, sym, ap, ◌∙◌, arith, add-one, All}
use Rattle.std.specs.Prelude.{if◌then◌else◌}
use Rattle.std.proofs.lemmas.List.Elements.{All-nil, All-cons}
use Rattle.std.proofs.lemmas.List.{drop_all}
use Rattle.ddm_tree.specs.TreeModel.State.Lists.{first_some}
use Rattle.ddm_tree.specs.TreeModel.State.Values.{DirValue, Node, Nodes, dir_node, no_nodes, more_nodes, nodes, children}
use Rattle.ddm_tree.specs.TreeModel.State.Rooms.{dir_within, all_within, all_within_among}
use Rattle.ddm_tree.specs.TreeModel.State.Child.{child_holds}
use Rattle.ddm_tree.specs.TreeModel.State.Directory.{parked_place, parked_words, queue_of}
use Rattle.ddm_tree.specs.TreeModel.declared.CopyPlace.{CopyPlace}
use Rattle.ddm_tree.specs.TreeModel.Turns.Found.{FoundValue, found_of, place_found, place_among, words_found, words_among, down_place, queue_words}
use Rattle.ddm_tree.proofs.TreeModel.Children.{children-nodes}
use Rattle.ddm_tree.proofs.TreeModel.Tests.{and-first, and-second}
use Rattle.ddm_tree.specs.ItemStates.Parts.{node_items}
use Rattle.ddm_tree.specs.Reads.{own_place, own_words}
use Rattle.ddm_tree.specs.Ready.{IsItemIn}
use Rattle.ddm_tree.proofs.Gathered.{drop-here}
use Rattle.ddm_tree.proofs.Places.{none-alike, parked-alike}
use Rattle.ddm_tree.proofs.Reading.{items-within}

-- of the lowest of these that holds the item
abbrev pub copy_among : ℕ → List Node → Option FoundValue
copy_among x ns = found_of (place_among x (nodes ns)) (words_among x (nodes ns))

abbrev pub copy_in : ℕ → Node → Option FoundValue
copy_in x n = found_of (place_found x n) (words_found x n)

copy-first : (x : ℕ) (n : Node) (ns : List Node) → copy_among x (n ∷ ns) ≡ (if child_holds x n then copy_in x n else copy_among x ns)
copy-first x n ns = by_test (child_holds x n)
  where
    by_test : (b : Bool) → found_of (if b then place_found x n else place_among x (nodes ns)) (if b then words_found x n else words_among x (nodes ns)) ≡ (if b then copy_in x n else copy_among x ns)
    by_test true = refl
    by_test false = refl

module _ {A : Type 0} (f : A → Node) (x k : ℕ) (xs : List A) where
  copy-next : (y : A) → k < length xs → y ≡ get_or xs k y → copy_among x (map f (drop k xs)) ≡ (if child_holds x (f y) then copy_in x (f y) else copy_among x (map f (drop (k + 1) xs)))
  copy-next y l is = ap (λ ys. copy_among x (map f ys)) (drop-here f (child_holds x) k xs y l is ∙ ap (λ i. y ∷ drop i xs) (sym (add-one k))) ∙ copy-first x (f y) (map f (drop (k + 1) xs))

  pub copy-here : (y : A) → k < length xs → y ≡ get_or xs k y → child_holds x (f y) ≡ true → copy_among x (map f (drop k xs)) ≡ copy_in x (f y)
  copy-here y l is holds = copy-next y l is ∙ ap (λ b. if b then copy_in x (f y) else copy_among x (map f (drop (k + 1) xs))) holds

  pub copy-past : (y : A) → k < length xs → y ≡ get_or xs k y → child_holds x (f y) ≡ false → copy_among x (map f (drop k xs)) ≡ copy_among x (map f (drop (k + 1) xs))
  copy-past y l is lacks = copy-next y l is ∙ ap (λ b. if b then copy_in x (f y) else copy_among x (map f (drop (k + 1) xs))) lacks

  pub copy-end : length xs ≤ k → copy_among x (map f (drop k xs)) ≡ None
  copy-end past = ap (λ ys. copy_among x (map f ys)) (drop_all k xs past)

-- ---- each node below keeps something of the item

pub item-kept : (x : ℕ) (n : Node) → IsItemIn x n → x < node_items n
item-kept x n is =
    let items = items-within is.items n is.within in
    omega (arith, items, is.below)

pub items-below : (items x : ℕ) (ns : Nodes) → all_within_among items ns ≡ true → x < items → All (IsItemIn x) (children ns)
items-below items x no_nodes e l = All-nil (IsItemIn x)
items-below items x (more_nodes n ns) e l = All-cons (IsItemIn x) n (children ns) (record { items = items; within = and-first _ (all_within_among items ns) e; below = l }) (items-below items x ns (and-second (all_within items n) _ e) l)

pub items-under : (x : ℕ) (d : DirValue) (ns : List Node) → IsItemIn x (dir_node d (nodes ns)) → All (IsItemIn x) ns
items-under x d ns is = rw (children-nodes ns) at (items-below is.items x (nodes ns) (and-second (dir_within is.items d) _ is.within) is.below)

-- ---- a directory's own copy comes before those below it

first_some-assoc : {X : Type 0} (a b c : Option X) → first_some a (first_some b c) ≡ first_some (first_some a b) c
first_some-assoc None b c = refl
first_some-assoc (Some x) b c = refl

module _ (x : ℕ) (d : DirValue) (ns : List Node) where
  own-first : copy_in x (dir_node d (nodes ns)) ≡ found_of (first_some (own_place x d) (place_among x (nodes ns))) (first_some (own_words x d) (words_among x (nodes ns)))
  own-first =
      rw (
        first_some-assoc (option_map (λ k. CopyPlace.DownList d.bus k) (down_place x 0 d.down)) (option_map (λ k. CopyPlace.Parking d.bus k) (parked_place x d)) (place_among x (nodes ns)),
        first_some-assoc (queue_words (queue_of x d.down)) (parked_words x d) (words_among x (nodes ns)),
      ) refl

  pub own-found : (f : FoundValue) → Some f.place ≡ own_place x d → Some f.words ≡ own_words x d → Some f ≡ copy_in x (dir_node d (nodes ns))
  own-found f place words = sym (own-first ∙ rw (← place, ← words) refl)

  pub none-own : None ≡ own_place x d → None ≡ own_words x d → copy_among x ns ≡ copy_in x (dir_node d (nodes ns))
  none-own place words = sym (own-first ∙ rw (← place, ← words) refl)

-- ---- no own copy: neither in the down list nor parked

module _ (x : ℕ) (d : DirValue) where
  pub no-own-words : None ≡ queue_words (queue_of x d.down) → None ≡ parked_place x d → None ≡ own_words x d
  no-own-words down place =
      let words : None ≡ parked_words x d = none-alike (parked_place x d) (parked_words x d) (parked-alike x d) place in
      rw (← down, ← words) refl

  pub no-own-place : None ≡ down_place x 0 d.down → None ≡ parked_words x d → None ≡ own_place x d
  no-own-place down words =
      let place : None ≡ parked_place x d = none-alike (parked_words x d) (parked_place x d) (sym (parked-alike x d)) words in
      rw (← down, ← place) refl
