-- A bus is judged item by item: what a loop over the items or over the children has come to, and what is judged below a bus.
use Rattle.std.proofs.Common.{◌≡◌, ◌<◌, ◌≤◌, ◌+◌, ◌++◌, ◌∙◌, ℕ, zero, suc, Bool, true, false, not, List, [], ◌∷◌, length, map, take, drop, get_or, find, Option, Some, None, refl, sym, ap, subst, arith, add-one, All}
use Rattle.std.specs.Prelude.{◌&&◌, ◌||◌, if◌then◌else◌}
use Rattle.std.specs.List.{range_with_len}
use Rattle.std.proofs.lemmas.List.{length-map, get_or-map, drop_all, take_more}
use Rattle.ddm_tree.specs.TreeModel.State.Values.{DirValue, Node, dir_node, nodes, children}
use Rattle.ddm_tree.specs.TreeModel.State.Blank.{no_node}
use Rattle.ddm_tree.specs.TreeModel.State.Rooms.{dir_within, all_within, all_within_among}
use Rattle.ddm_tree.specs.TreeModel.Turns.Children.{child_at}
use Rattle.ddm_tree.specs.TreeModel.Turns.Tree.{Name}
use Rattle.ddm_tree.proofs.TreeModel.Children.{children-nodes}
use Rattle.ddm_tree.proofs.TreeModel.DirRooms.{dir_within-facts}
use Rattle.ddm_tree.proofs.TreeModel.Tests.{and-first, and-second}
use Rattle.ddm_tree.specs.TreeRules.Bus.Faces.{parent_face, child_face, faces_of}
use Rattle.ddm_tree.specs.DdmTypes.declared.answers.TxKind.TheVariants.{InjectTx}
use Rattle.ddm_tree.specs.TreeModel.State.Directory.{is_top, is_up_read}
use Rattle.ddm_tree.specs.TreeModel.State.Kinds.{has_kind}
use Rattle.ddm_tree.specs.TreeRules.Bus.Item.{bits_of, kept_place, starts_with_inject, top_holds}
use Rattle.ddm_tree.specs.TreeRules.Bus.Rules.{kept_places}
use Rattle.state_judging.specs.Judged.{item_kept_at}
use Rattle.ddm_tree.specs.ItemStates.Parts.{node_items}
use Rattle.ddm_tree.specs.Judging.{IsJudged, first_broken, keeps_places, keeps_rules, node_broken}
use Rattle.ddm_tree.specs.Path.{node_at}
use Rattle.ddm_tree.specs.Ready.{Leads}
use Rattle.ddm_tree.proofs.Descend.{within-child}
use Rattle.ddm_tree.proofs.Reading.{any-default, items-within}
use Rattle.ddm_tree.proofs.Steps.{own-few, step-fits, step-inside}

-- ---- the items that are left

range-at : (a n i : ℕ) → i < n → drop i (range_with_len a n) ≡ (a + i) ∷ drop (i + 1) (range_with_len a n)
range-at a zero i l = absurd (omega (arith, l))
range-at a (suc n) zero l = rw (add-one 0) (ap (λ k. k ∷ range_with_len (a + 1) n) (omega arith))
range-at a (suc n) (suc i) l =
    let e : drop i (range_with_len (a + 1) n) ≡ (a + 1 + i) ∷ drop (i + 1) (range_with_len (a + 1) n) = range-at (a + 1) n i (omega (arith, l)) in
    let k : a + 1 + i ≡ a + suc i = omega arith in
    rw (add-one (suc i)) (e ∙ ap (λ j. j ∷ drop (i + 1) (range_with_len (a + 1) n)) k ∙ ap (λ j. (a + suc i) ∷ drop j (range_with_len (a + 1) n)) (add-one i))

pub item-at : (n i : ℕ) → i < n → drop i (range_with_len 0 n) ≡ i ∷ drop (i + 1) (range_with_len 0 n)
item-at n i l = range-at 0 n i l ∙ ap (λ k. k ∷ drop (i + 1) (range_with_len 0 n)) (omega arith)

range-length : (a n : ℕ) → length (range_with_len a n) ≡ n
range-length a zero = refl
range-length a (suc n) = ap suc (range-length (a + 1) n)

pub none-left : (n i : ℕ) → n ≤ i → drop i (range_with_len 0 n) ≡ []
none-left n i past =
    let size = range-length 0 n in
    drop_all i (range_with_len 0 n) (omega (arith, past, size))

-- ---- the rules of one item

pub rules-judged : (p : DirValue) (ns : List Node) (x : ℕ) (rules top first : Bool) → rules ≡ item_kept_at p ns x → top ≡ top_holds (parent_face x p) (bits_of (parent_face x p) (faces_of x ns)) → first ≡ is_top p → (rules && (not first || top)) ≡ keeps_rules p ns x
unfolding keeps_rules
rules-judged p ns x rules top first rules_is top_is first_is = ap (λ b. b && (not first || top)) rules_is ∙ ap (λ b. item_kept_at p ns x && (not first || b)) top_is ∙ ap (λ b. item_kept_at p ns x && (not b || top_holds (parent_face x p) (bits_of (parent_face x p) (faces_of x ns)))) first_is

-- ---- places kept

pub place-more : (p : DirValue) (n i kept more : ℕ) → i < n → kept + kept_places p (drop i (range_with_len 0 n)) ≡ kept_places p (range_with_len 0 n) → more ≡ kept_place (parent_face i p)
    → (kept + more) + kept_places p (drop (i + 1) (range_with_len 0 n)) ≡ kept_places p (range_with_len 0 n)
place-more p n i kept more inside so_far is =
    let rest = kept_places p (drop (i + 1) (range_with_len 0 n)) in
    let here : kept_places p (drop i (range_with_len 0 n)) ≡ kept_place (parent_face i p) + rest = ap (kept_places p) (item-at n i inside) in
    omega (arith, so_far, here, is)

pub one-place : (p : DirValue) (i more : ℕ) → more ≡ kept_place (parent_face i p) → more ≤ 1
one-place p i more is =
    let q = parent_face i p in
    let h = at-most-one (has_kind InjectTx q.queue && not (is_up_read q.note && starts_with_inject q.queue)) in
    omega (arith, is, h)
  where
    at-most-one : (b : Bool) → (if b then 1 else 0) ≤ 1
    at-most-one true = omega arith
    at-most-one false = omega arith

-- ---- the least item that is broken

module _ (items : ℕ) (p : DirValue) (ns : List Node) where
  abbrev pub broken_from : ℕ → Option ℕ
  broken_from i = find (λ x. not (keeps_rules p ns x)) (drop i (range_with_len 0 items))

  pub places-broken : (kept : Bool) → kept ≡ keeps_places items p → kept ≡ false → Some 0 ≡ first_broken items p ns
  places-broken kept is out = ap (λ b. if b then broken_from 0 else Some 0) (sym out ∙ is)

  pub places-hold : (kept : Bool) → kept ≡ keeps_places items p → kept ≡ true → first_broken items p ns ≡ broken_from 0
  places-hold kept is passed = ap (λ b. if b then broken_from 0 else Some 0) (sym is ∙ passed)

  module _ (i : ℕ) (inside : i < items) (found : Option ℕ) (so_far : found ≡ broken_from i) (kept : Bool) (is : kept ≡ keeps_rules p ns i) where
    here : found ≡ (if not kept then Some i else broken_from (i + 1))
    here = so_far ∙ ap (find (λ x. not (keeps_rules p ns x))) (item-at items i inside) ∙ ap (λ b. if not b then Some i else broken_from (i + 1)) (sym is)

    pub broken-here : kept ≡ false → Some i ≡ found
    broken-here out = sym (here ∙ ap (λ b. if not b then Some i else broken_from (i + 1)) out)

    pub broken-past : kept ≡ true → found ≡ broken_from (i + 1)
    broken-past passed = here ∙ ap (λ b. if not b then Some i else broken_from (i + 1)) passed

  pub none-broken : (i : ℕ) (found : Option ℕ) → items ≤ i → found ≡ broken_from i → None ≡ found
  none-broken i found past so_far = sym (so_far ∙ ap (find (λ x. not (keeps_rules p ns x))) (none-left items i past))

-- ---- the children

module _ {A : Type 0} (f : A → Node) where
  pub faces-more : (x : ℕ) (xs : List A) (i : ℕ) (a : A) → i < length xs → a ≡ get_or xs i a → faces_of x (map f (take (i + 1) xs)) ≡ faces_of x (map f (take i xs)) ++ child_face x (f a) ∷ []
  faces-more x xs i a inside is = ap (λ bs. faces_of x (map f bs)) (take_more xs i a inside ∙ ap (λ b. take i xs ++ b ∷ []) (sym is)) ∙ pushed (take i xs)
    where
      pushed : (bs : List A) → faces_of x (map f (bs ++ a ∷ [])) ≡ faces_of x (map f bs) ++ child_face x (f a) ∷ []
      pushed [] = refl
      pushed (b ∷ bs) = ap (λ cs. child_face x (f b) ∷ cs) (pushed bs)

  pub faces-length : (x : ℕ) (xs : List A) → length (faces_of x (map f xs)) ≡ length xs
  faces-length x xs = length-map (map f xs) (child_face x) ∙ length-map xs f

  module _ (d : DirValue) (xs : List A) (items : ℕ) (judged : IsJudged items (dir_node d (nodes (map f xs)))) where
    pub judged-own : length d.items ≡ items
    judged-own = (dir_within-facts items d (and-first _ (all_within_among items (nodes (map f xs))) judged.rooms)).items

    pub judged-few : length xs ≤ 16
    judged-few = own-few f d xs [] refl judged.buses

    kid-within : (i : ℕ) → i < length (map f xs) → all_within items (child_at i (map f xs)) ≡ true
    kid-within i l =
        let below = and-second (dir_within items d) _ judged.rooms in
        let there : i < length (children (nodes (map f xs))) = rw (children-nodes (map f xs)) l in
        rw (children-nodes (map f xs)) at (within-child items (nodes (map f xs)) i below there)

    pub judged-kids : (x : ℕ) → x < items → All (λ n. x < node_items n) (map f xs)
    judged-kids x known k e inside =
        let here : node_items (child_at k (map f xs)) ≡ items = items-within items (child_at k (map f xs)) (kid-within k inside) in
        subst (λ n. x < node_items n) (any-default (map f xs) k no_node e inside) (omega (arith, known, here))

    pub own-broken : (path : List ℕ) → path ≡ [] → first_broken items d (map f xs) ≡ node_broken items (node_at path (dir_node d (nodes (map f xs))))
    own-broken path own = rw own (ap (first_broken items d) (sym (children-nodes (map f xs))))

    module _ (name : Name) (path : List ℕ) (i : ℕ) (rest : List ℕ) (on : path ≡ i ∷ rest) (leads : Leads name path (dir_node d (nodes (map f xs)))) (x : A) (is : x ≡ get_or xs i x) where
      pub step-judged : IsJudged items (f x)
      step-judged =
          let inside : i < length xs = step-inside f d xs name path i rest on leads in
          let at : child_at i (map f xs) ≡ f x = get_or-map f xs i x no_node inside ∙ ap f (sym is) in
          record {
            rooms = ap (all_within items) (sym at) ∙ kid-within i (omega (arith, inside, length-map xs f));
            buses = step-fits f d xs name path i rest on leads x is judged.buses;
          }
