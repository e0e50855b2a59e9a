-- A copy under a child of a bus that doesn't hold the item has an end, which is the moment of an erase inside that child.
-- Letters: d is the directory at the bus's path, ns its children; i is a child's number, k a copy.
use Rattle.std.proofs.Common.{◌≡◌, ℕ, zero, suc, ◌+◌, ◌<◌, ◌≤◌, Bool, true, false, List, [], ◌∷◌, ◌++◌, length, map, Option, Some, None, IfSome, is_some, refl, sym, ap, subst, ◌∙◌, arith, append_assoc}
use Rattle.std.specs.List.{AllByRecursion}
use Rattle.std.proofs.lemmas.Bool.{true≢false, false≢true}
use Rattle.std.proofs.lemmas.List.{length-append}
use Rattle.order_laws.specs.TreeModel.State.Kinds.{brings_copy}
use Rattle.order_laws.specs.TreeModel.State.Lists.{first_some}
use Rattle.order_laws.specs.TreeModel.State.States.{is_held}
use Rattle.order_laws.specs.TreeModel.State.Values.{DownValue, DirValue, Node, Nodes, leaf_node, dir_node, no_nodes, more_nodes, children, MachineValue, root_of}
use Rattle.order_laws.specs.TreeModel.State.Leaf.{words_of_item}
use Rattle.order_laws.specs.TreeModel.State.Directory.{queue_of}
use Rattle.order_laws.specs.TreeModel.State.Child.{child_hold, child_replies}
use Rattle.order_laws.specs.TreeModel.State.Place.{Spot, spot_path, spot_in}
use Rattle.order_laws.specs.TreeModel.Turns.Children.{child_at}
use Rattle.order_laws.specs.TreeRules.Bus.Rules.{IsTreeOk, AreTreesOk, items_of_machine, IsMachineOk}
use Rattle.order_laws.specs.TreeRules.Order.Copies.{CopyAt, cut, first_erase, downs, copies_here, gathered, inner, handed, erases_in, copies_of}
use Rattle.order_laws.specs.TreeRules.Order.Moments.{is_under, moment_at}
use Rattle.order_lists.proofs.Filters.{each-weaker, each-both, each-append, each-under}
use Rattle.order_lists.proofs.Holders.{EndIs, inner_ends}
use Rattle.order_lists.proofs.NoHold.{HasEnd, none_held}
use Rattle.order_lists.proofs.Paths.{under-trans, under-append, under-length, under_child, one_child}
use Rattle.order_lists.proofs.Placed.{inner_under}
use Rattle.order_laws.specs.Moves.Moved.{In}
use Rattle.order_laws.specs.Moves.Carries.{node_at}
use Rattle.order_laws.proofs.Moves.Leaves.{back}
use Rattle.order_laws.proofs.Moves.Sources.{each-map}
use Rattle.order_laws.proofs.Grant.ClaimsCopiesNode.{leaf-below}
use Rattle.order_laws.proofs.Grant.ReservedKept.{each-member}

-- its end is one of these
pub record EndsIn (es : List (List ℕ)) (k : CopyAt) : Type 0 where
  pub end : List ℕ
  pub is : k.end ≡ Some end
  pub there : In end es

-- ---- inside a node that doesn't hold the item

module _ (count x : ℕ) (low : x < count) (c : Spot) (n : Node) (ok : IsTreeOk count n) (none : is_held (child_hold x n) ≡ false) where
  pub ends-inside : AllByRecursion (EndsIn (erases_in x c n)) (inner x c n)
  ends-inside = each-both HasEnd (EndIs (λ e. In e (erases_in x c n))) (EndsIn (erases_in x c n)) one (inner x c n) (none_held count x c n low ok none) (inner_ends (λ e. In e (erases_in x c n)) x c n (each-member (erases_in x c n))) where
    one : (k : CopyAt) → HasEnd k → EndIs (λ e. In e (erases_in x c n)) k → EndsIn (erases_in x c n) k
    one k has is = go k.end refl has is where
      go : (o : Option (List ℕ)) → k.end ≡ o → is_some o ≡ true → IfSome o (λ e. In e (erases_in x c n)) → EndsIn (erases_in x c n) k
      go None at has is = absurd (false≢true has)
      go (Some e) at has is = record { end = e; is = at; there = is }

-- ---- under a child of the bus

module _ (x : ℕ) (path : List ℕ) (d : DirValue) (ns : Nodes) where
  abbrev pub erases_under : ℕ → List (List ℕ)
  erases_under i = erases_in x (spot_in path d i) (child_at i (children ns))

  pub record EndsUnder (i : ℕ) (k : CopyAt) : Type 0 where
    pub within : i < length (children ns)
    pub end : is_held (child_hold x (child_at i (children ns))) ≡ false → EndsIn (erases_under i) k

  -- where the copy is under child i
  abbrev pub EndsByChild : CopyAt → Type 0
  EndsByChild k = (i : ℕ) → is_under (path ++ i ∷ []) k.place ≡ true → EndsUnder i k

  -- a copy that is under no child
  ends-beside : (k : CopyAt) → is_under path k.place ≡ false → EndsByChild k
  ends-beside k apart i u = absurd (true≢false (sym (under_child path k.place i u) ∙ apart))

  ends-above : (k : CopyAt) → length k.place ≤ length path → EndsByChild k
  ends-above k short i u =
      let one : length (path ++ i ∷ []) ≡ length path + 1 = length-append path (i ∷ []) in
      absurd (let long : length (path ++ i ∷ []) ≤ length k.place = under-length (path ++ i ∷ []) k.place u in omega (arith, one, long, short))

  here-above : (place clock : List ℕ) (ws : List (List ℕ)) → length place ≤ length path → AllByRecursion EndsByChild (copies_here place clock ws)
  here-above place clock [] short = tt
  here-above place clock (w ∷ ws) short = (ends-above (record { place = place; clock = clock; end = None; words = w }) short, here-above place clock ws short)

  -- an erase above leaves an end that there is
  ends-cut : (e : Option (List ℕ)) (k : CopyAt) → EndsByChild k → EndsByChild (cut e k)
  ends-cut e k h i u =
      let was : EndsUnder i k = h i u in
      record { within = was.within; end = λ none. let ends : EndsIn (erases_under i) k = was.end none in record { end = ends.end; is = ap (λ o. first_some o e) ends.is; there = ends.there } }

  all-cut : (e : Option (List ℕ)) (ks : List CopyAt) → AllByRecursion EndsByChild ks → AllByRecursion EndsByChild (map (cut e) ks)
  all-cut e ks h = each-map (cut e) EndsByChild EndsByChild (ends-cut e) ks h

  module _ (count : ℕ) (low : x < count) where
    -- ---- what the children hand up

    kid-ends : (j : ℕ) (n : Node) → j < length (children ns) → child_at j (children ns) ≡ n → IsTreeOk count n → AllByRecursion EndsByChild (inner x (spot_in path d j) n)
    kid-ends j n l at ok = each-both (λ k. is_under (path ++ j ∷ []) k.place ≡ true) (λ k. is_held (child_hold x n) ≡ false → EndsIn (erases_in x (spot_in path d j) n) k) EndsByChild one (inner x (spot_in path d j) n) (inner_under x (spot_in path d j) n) (each-under (is_held (child_hold x n) ≡ false) (EndsIn (erases_in x (spot_in path d j) n)) (inner x (spot_in path d j) n) (λ none. ends-inside count x low (spot_in path d j) n ok none)) where
      one : (k : CopyAt) → is_under (path ++ j ∷ []) k.place ≡ true → (is_held (child_hold x n) ≡ false → EndsIn (erases_in x (spot_in path d j) n) k) → EndsByChild k
      one k under ends i u = subst (λ a. EndsUnder a k) (one_child path k.place j i under u) (record { within = l; end = subst (λ m. is_held (child_hold x m) ≡ false → EndsIn (erases_in x (spot_in path d j) m) k) (sym at) ends })

    -- from child j on
    kids-end : (bound : List ℕ) (j : ℕ) (ks : Nodes) → AreTreesOk count ks → ((i : ℕ) → i < length (children ks) → (i + j < length (children ns)) × (child_at (i + j) (children ns) ≡ child_at i (children ks))) → AllByRecursion EndsByChild (handed x path bound d j ks)
    kids-end bound j no_nodes ok at = tt
    kids-end bound j (more_nodes n ks) ok at =
        let first : (j < length (children ns)) × (child_at j (children ns) ≡ n) = subst (λ a. (a < length (children ns)) × (child_at a (children ns) ≡ n)) (let none : 0 + j ≡ j = omega arith in none) (at 0 (omega arith)) in
        each-append EndsByChild (inner x (spot_in path d j) n ++ copies_here path bound (words_of_item x (child_replies n))) (handed x path bound d (j + 1) ks)
        (each-append EndsByChild (inner x (spot_in path d j) n) (copies_here path bound (words_of_item x (child_replies n))) (kid-ends j n first.0 first.1 ok.0) (here-above path bound (words_of_item x (child_replies n)) (omega arith)))
        (kids-end bound (j + 1) ks ok.1 (λ i l. subst (λ a. (a < length (children ns)) × (child_at a (children ns) ≡ child_at i (children ks))) (let more : suc i + j ≡ i + (j + 1) = omega arith in more) (at (suc i) (omega (arith, l)))))

    gathered-ends : (bound : List ℕ) → AreTreesOk count ns → AllByRecursion EndsByChild (gathered x path bound d ns)
    gathered-ends bound ok =
        each-append EndsByChild (handed x path bound d 0 ns) (copies_here path bound (words_of_item x d.parked))
        (kids-end bound 0 ns ok (λ i l. subst (λ a. (a < length (children ns)) × (child_at a (children ns) ≡ child_at i (children ns))) (let none : i ≡ i + 0 = omega arith in none) (l, refl)))
        (here-above path bound (words_of_item x d.parked) (omega arith))

    -- ---- what stands above the bus, and beside it

    downs-above : (place above : List ℕ) (q : List DownValue) → length place ≤ length path → AllByRecursion EndsByChild (downs place above q)
    downs-above place above [] short = tt
    downs-above place above (e ∷ es) short = go (brings_copy e.kind) refl (downs-above place above es short) where
      go : (t : Bool) → brings_copy e.kind ≡ t → AllByRecursion EndsByChild (downs place above es) → AllByRecursion EndsByChild (downs place above (e ∷ es))
      go true is rest = rw is (ends-above (record { place = place; clock = moment_at above e.stamp; end = first_erase above es; words = e.words }) short, rest)
      go false is rest = rw is rest

    -- under child i of a directory above, of which the bus is under another
    inner-beside : (above : List ℕ) (e : DirValue) (i j : ℕ) (p : List ℕ) (n : Node) → above ++ i ∷ p ≡ path → (i ≡ j → ⊥) → AllByRecursion EndsByChild (inner x (spot_in above e j) n)
    inner-beside above e i j p n at other = each-weaker (λ k. is_under (above ++ j ∷ []) k.place ≡ true) EndsByChild (λ k under. λ l u. absurd (other (one_child above k.place i j (under-trans (above ++ i ∷ []) path k.place over (under_child path k.place l u)) under))) (inner x (spot_in above e j) n) (inner_under x (spot_in above e j) n) where
      over : is_under (above ++ i ∷ []) path ≡ true
      over = subst (λ q. is_under (above ++ i ∷ []) q ≡ true) (append_assoc above (i ∷ []) p ∙ at) (under-append (above ++ i ∷ []) p)

    above-short : (above : List ℕ) (i : ℕ) (p : List ℕ) → above ++ i ∷ p ≡ path → length above ≤ length path
    above-short above i p at = subst (λ q. length above ≤ length q) at (let size : length (above ++ i ∷ p) ≡ length above + length (i ∷ p) = length-append above (i ∷ p) in omega (arith, size))

    -- what a child hands up, from what is inside it
    with-replies : (above bound : List ℕ) (e : DirValue) (j : ℕ) (k : Node) (ks : Nodes) → length above ≤ length path → AllByRecursion EndsByChild (inner x (spot_in above e j) k) → AllByRecursion EndsByChild (handed x above bound e (j + 1) ks) → AllByRecursion EndsByChild (handed x above bound e j (more_nodes k ks))
    with-replies above bound e j k ks short first rest = each-append EndsByChild (inner x (spot_in above e j) k ++ copies_here above bound (words_of_item x (child_replies k))) (handed x above bound e (j + 1) ks) (each-append EndsByChild (inner x (spot_in above e j) k) (copies_here above bound (words_of_item x (child_replies k))) first (here-above above bound (words_of_item x (child_replies k)) short)) rest

    handed-beside : (above bound : List ℕ) (e : DirValue) (i j : ℕ) (p : List ℕ) (ks : Nodes) → above ++ i ∷ p ≡ path → i < j → AllByRecursion EndsByChild (handed x above bound e j ks)
    handed-beside above bound e i j p no_nodes at l = tt
    handed-beside above bound e i j p (more_nodes k ks) at l = with-replies above bound e j k ks (above-short above i p at) (inner-beside above e i j p k at (λ same. omega (arith, same, l))) (handed-beside above bound e i (j + 1) p ks at (omega (arith, l)))

    mutual
      inner-ends : (p : List ℕ) (c : Spot) (r : Node) → spot_path c ++ p ≡ path → node_at p r ≡ dir_node d ns → IsTreeOk count r → AllByRecursion EndsByChild (inner x c r)
      inner-ends [] c r at is ok = subst (λ k. AllByRecursion EndsByChild (inner x c k)) (sym is) (each-append EndsByChild (map (cut (first_erase c.above (queue_of x d.down))) (gathered x (spot_path c) (moment_at c.above d.epoch) d ns)) (downs (spot_path c) c.above (queue_of x d.down)) (all-cut (first_erase c.above (queue_of x d.down)) (gathered x (spot_path c) (moment_at c.above d.epoch) d ns) below) (downs-above (spot_path c) c.above (queue_of x d.down) short)) where
        here : spot_path c ≡ path
        here = sym (back (spot_path c)) ∙ at

        trees : IsTreeOk count (dir_node d ns)
        trees = subst (IsTreeOk count) is ok

        below : AllByRecursion EndsByChild (gathered x (spot_path c) (moment_at c.above d.epoch) d ns)
        below = subst (λ q. AllByRecursion EndsByChild (gathered x q (moment_at c.above d.epoch) d ns)) (sym here) (gathered-ends (moment_at c.above d.epoch) trees.1)

        short : length (spot_path c) ≤ length path
        short = let same : length (spot_path c) ≡ length path = ap length here in omega (arith, same)
      inner-ends (i ∷ p) c (leaf_node v) at is ok = absurd (leaf-below (i ∷ p) v d ns is)
      inner-ends (i ∷ p) c (dir_node e ks) at is ok =
          each-append EndsByChild (map (cut (first_erase c.above (queue_of x e.down))) (gathered x (spot_path c) (moment_at c.above e.epoch) e ks)) (downs (spot_path c) c.above (queue_of x e.down))
          (all-cut (first_erase c.above (queue_of x e.down)) (gathered x (spot_path c) (moment_at c.above e.epoch) e ks)
          (each-append EndsByChild (handed x (spot_path c) (moment_at c.above e.epoch) e 0 ks) (copies_here (spot_path c) (moment_at c.above e.epoch) (words_of_item x e.parked))
          (handed-ends p (spot_path c) (moment_at c.above e.epoch) e i 0 ks (ap (λ j. spot_path c ++ j ∷ p) (let none : i + 0 ≡ i = omega arith in none) ∙ at) is ok.1)
          (here-above (spot_path c) (moment_at c.above e.epoch) (words_of_item x e.parked) (above-short (spot_path c) i p at))))
          (downs-above (spot_path c) c.above (queue_of x e.down) (above-short (spot_path c) i p at))

      handed-ends : (p above bound : List ℕ) (e : DirValue) (i j : ℕ) (ks : Nodes) → above ++ (i + j) ∷ p ≡ path → node_at p (child_at i (children ks)) ≡ dir_node d ns → AreTreesOk count ks → AllByRecursion EndsByChild (handed x above bound e j ks)
      handed-ends p above bound e i j no_nodes at is ok = tt
      handed-ends p above bound e zero j (more_nodes k ks) at is ok =
          let here : above ++ j ∷ p ≡ path = ap (λ l. above ++ l ∷ p) (let none : j ≡ 0 + j = omega arith in none) ∙ at in
          with-replies above bound e j k ks (above-short above j p here) (inner-ends p (spot_in above e j) k (append_assoc above (j ∷ []) p ∙ here) is ok.0) (handed-beside above bound e j (j + 1) p ks here (omega arith))
      handed-ends p above bound e (suc i) j (more_nodes k ks) at is ok = with-replies above bound e j k ks (above-short above (suc i + j) p at) (inner-beside above e (suc i + j) j p k at (λ same. omega (arith, same))) (handed-ends p above bound e i (j + 1) ks (ap (λ a. above ++ a ∷ p) (let more : i + (j + 1) ≡ suc i + j = omega arith in more) ∙ at) is ok.1)

-- ---- of a machine

-- of the bus with this path, each copy under a child that doesn't hold the item has an end among the erases inside the child
pub copies-end : (x : ℕ) (m : MachineValue) (path : List ℕ) (d : DirValue) (ns : Nodes) → IsMachineOk m → x < items_of_machine m → node_at path (root_of m) ≡ dir_node d ns → AllByRecursion (EndsByChild x path d ns) (copies_of x m)
unfolding copies_of
copies-end x m [] d ns ok low is =
    let top : m.top ≡ d = cc in
    let kids : m.kids ≡ ns = cc in
    let trees : AreTreesOk (items_of_machine m) ns = subst (AreTreesOk (items_of_machine m)) kids ok.tree.1 in
    subst (λ e. AllByRecursion (EndsByChild x [] d ns) (gathered x [] [] e m.kids)) (sym top) (subst (λ ks. AllByRecursion (EndsByChild x [] d ns) (gathered x [] [] d ks)) (sym kids) (gathered-ends x [] d ns (items_of_machine m) low [] trees))
copies-end x m (i ∷ p) d ns ok low is =
    each-append (EndsByChild x (i ∷ p) d ns) (handed x [] [] m.top 0 m.kids) (copies_here [] [] (words_of_item x m.top.parked))
    (handed-ends x (i ∷ p) d ns (items_of_machine m) low p [] [] m.top i 0 m.kids (ap (λ j. j ∷ p) (let none : i + 0 ≡ i = omega arith in none)) is ok.tree.1)
    (here-above x (i ∷ p) d ns [] [] (words_of_item x m.top.parked) (omega arith))
