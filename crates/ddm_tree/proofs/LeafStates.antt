-- The states of an item's entries at the leaves of some nodes are those of the first one and then those of the others; and while a
-- loop goes over children, seen through f.
use Rattle.std.proofs.Common.{◌≡◌, ◌<◌, ℕ, ◌+◌, List, [], ◌∷◌, ◌++◌, length, map, drop, get_or, Option, true, refl, sym, ap, ◌∙◌, add-one}
use Rattle.std.proofs.lemmas.List.{append_assoc, length-append, map-append}
use Rattle.ddm_tree.specs.DdmTypes.declared.sizes.LeafState.{LeafState}
use Rattle.ddm_tree.specs.TreeModel.State.Values.{LeafValue, Node, Nodes, leaf_node, dir_node, no_nodes, more_nodes, nodes}
use Rattle.ddm_tree.specs.TreeModel.State.Leaf.{state_at}
use Rattle.ddm_tree.specs.TreeModel.Turns.Machine.{leaves_of, leaves_among}
use Rattle.ddm_tree.specs.Reads.{leaf_count, leaf_count_among, node_states, states_among}
use Rattle.ddm_tree.proofs.Gathered.{drop-here}

mutual
  leaves-before : (n : Node) (rest : List LeafValue) → leaves_of n rest ≡ leaves_of n [] ++ rest
  leaves-before (leaf_node v) rest = refl
  leaves-before (dir_node d ns) rest = among-before ns rest

  among-before : (ns : Nodes) (rest : List LeafValue) → leaves_among ns rest ≡ leaves_among ns [] ++ rest
  among-before no_nodes rest = refl
  among-before (more_nodes n ns) rest =
      let here = leaves-before n (leaves_among ns rest) in
      let others = ap (λ l. leaves_of n [] ++ l) (among-before ns rest) in
      let again = ap (λ l. l ++ rest) (sym (leaves-before n (leaves_among ns []))) in
      here ∙ others ∙ sym (append_assoc (leaves_of n []) (leaves_among ns []) rest) ∙ again

count-first : (n : Node) (ns : List Node) → leaf_count_among (n ∷ ns) ≡ leaf_count n + leaf_count_among ns
count-first n ns = ap length (leaves-before n (leaves_among (nodes ns) [])) ∙ length-append (leaves_of n []) (leaves_among (nodes ns) [])

states-first : (x : ℕ) (n : Node) (ns : List Node) → states_among x (n ∷ ns) ≡ node_states x n ++ states_among x ns
states-first x n ns = ap (map (state_at x)) (leaves-before n (leaves_among (nodes ns) [])) ∙ map-append (state_at x) (leaves_of n []) (leaves_among (nodes ns) [])

module _ {A : Type 0} (f : A → Node) (x k : ℕ) (xs : List A) where
  module _ (y : A) (inside : k < length xs) (is : y ≡ get_or xs k y) where
    next-here : map f (drop k xs) ≡ f y ∷ map f (drop (k + 1) xs)
    next-here = ap (map f) (drop-here f (λ n. true) k xs y inside is ∙ ap (λ i. y ∷ drop i xs) (sym (add-one k)))

    pub count-next : leaf_count_among (map f (drop k xs)) ≡ leaf_count (f y) + leaf_count_among (map f (drop (k + 1) xs))
    count-next = ap leaf_count_among next-here ∙ count-first (f y) (map f (drop (k + 1) xs))

    -- those before, those of this child and those of the others
    pub states-next : (before now all : List (Option LeafState)) → before ++ states_among x (map f (drop k xs)) ≡ all → now ≡ before ++ node_states x (f y) → now ++ states_among x (map f (drop (k + 1) xs)) ≡ all
    states-next before now all so_far more =
        let others = states_among x (map f (drop (k + 1) xs)) in
        let here = ap (λ l. before ++ l) (ap (states_among x) next-here ∙ states-first x (f y) (map f (drop (k + 1) xs))) in
        ap (λ l. l ++ others) more ∙ append_assoc before (node_states x (f y)) others ∙ sym here ∙ so_far
