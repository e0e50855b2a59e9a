-- A claim of a child of a bus: the child holds the item Exclusive, and no other child of the bus holds it.
-- Letters: d is the directory at the bus's path, ns its children; i and j are children's numbers, t a claim.
use Rattle.std.proofs.Common.{◌≡◌, ◌≢◌, ℕ, zero, suc, ◌+◌, ◌<◌, ◌≤◌, Bool, true, false, List, [], ◌∷◌, ◌++◌, length, refl, sym, ap, subst, ◌∙◌, arith, append_assoc}
use Rattle.std.specs.List.{AllByRecursion, list_any}
use Rattle.std.proofs.lemmas.List.{length-append}
use Rattle.order_laws.specs.TreeModel.State.Blank.{no_node}
use Rattle.order_laws.specs.TreeModel.State.States.{is_held, is_exclusive}
use Rattle.order_laws.specs.TreeModel.State.Values.{DirValue, Node, Nodes, leaf_node, dir_node, no_nodes, more_nodes, children, MachineValue, root_of}
use Rattle.order_laws.specs.TreeModel.State.Child.{child_hold}
use Rattle.order_laws.specs.TreeModel.State.Place.{Spot, spot_path, spot_in}
use Rattle.order_laws.specs.TreeModel.Turns.Children.{child_at}
use Rattle.order_laws.specs.TreeRules.Bus.Faces.{parent_face, child_face, faces_of}
use Rattle.order_laws.specs.TreeRules.Bus.Item.{holds_exclusive}
use Rattle.order_laws.specs.TreeRules.Bus.Rules.{IsBusOk}
use Rattle.order_laws.specs.TreeRules.Order.Claims.{ClaimAt, child_is_exclusive, claim, claim_here, claims_in, claims_among, claims_of}
use Rattle.order_laws.specs.TreeRules.Order.Core.{claim_level}
use Rattle.order_laws.specs.TreeRules.Order.Moments.{is_under}
use Rattle.bus_laws.proofs.BitsOf.{any-true, one-at}
use Rattle.order_lists.proofs.AboveExclusive.{above_exclusive, exclusive_held}
use Rattle.order_lists.proofs.Filters.{each-weaker, each-append}
use Rattle.order_lists.proofs.NoHold.{seen_hold}
use Rattle.order_lists.proofs.Paths.{IsFrom, under-itself, under-trans, under-append, one_child, from_child, from_later}
use Rattle.order_laws.specs.Moves.Carries.{node_at}
use Rattle.order_laws.proofs.Moves.Leaves.{back}
use Rattle.order_laws.proofs.Grant.ClaimsCopiesNode.{leaf-below}

-- ---- beside a child that holds the item Exclusive no other holds it

pub none-beside : (count x : ℕ) (d : DirValue) (ns : List Node) → IsBusOk count d ns → x < count → (i j : ℕ) → i < length ns → child_is_exclusive x (child_at i ns) ≡ true → j < length ns → j ≢ i → is_held (child_hold x (child_at j ns)) ≡ false
none-beside count x d ns ok low i j li is lj other =
    let seen : is_exclusive (child_face x (child_at i ns)).hold ≡ true = subst (λ h. is_exclusive h ≡ true) (sym (seen_hold x (child_at i ns))) is in
    let found : list_any holds_exclusive (faces_of x ns) ≡ true = any-true (child_face x) no_node holds_exclusive ns i li seen in
    let above = above_exclusive (parent_face x d) (faces_of x ns) (ok.rules x low) found in
    subst (λ h. is_held h ≡ false) (seen_hold x (child_at j ns)) (one-at (child_face x) no_node ns i j above.one li (exclusive_held (child_face x (child_at i ns)).hold seen) lj other)

-- ---- where claims are

abbrev ClaimsUnder : List ℕ → List ClaimAt → Type 0
ClaimsUnder path ts = AllByRecursion (λ t. is_under path t.child ≡ true) ts

module _ (P : ClaimAt → Type 0) where
  claim-here : (x : ℕ) (c : Spot) (n : Node) (moment : List ℕ) → (child_is_exclusive x n ≡ true → P (record { child = spot_path c; moment = moment })) → AllByRecursion P (claim_here x c n moment)
  claim-here x c n moment h = go (child_is_exclusive x n) refl where
    go : (b : Bool) → child_is_exclusive x n ≡ b → AllByRecursion P (claim_here x c n moment)
    go true is = rw is (h is, tt)
    go false is = rw is tt

mutual
  claims-under : (x : ℕ) (c : Spot) (n : Node) → ClaimsUnder (spot_path c) (claims_in x c n)
  claims-under x c (leaf_node v) = claim-here (λ t. is_under (spot_path c) t.child ≡ true) x c (leaf_node v) (claim x c (leaf_node v)) (λ is. under-itself (spot_path c))
  claims-under x c (dir_node d ns) = each-append (λ t. is_under (spot_path c) t.child ≡ true) (claim_here x c (dir_node d ns) (claim x c (dir_node d ns))) (claims_among x (spot_path c) d 0 ns) (claim-here (λ t. is_under (spot_path c) t.child ≡ true) x c (dir_node d ns) (claim x c (dir_node d ns)) (λ is. under-itself (spot_path c))) (each-weaker (λ t. IsFrom (spot_path c) 0 t.child) (λ t. is_under (spot_path c) t.child ≡ true) (λ t f. f.below) (claims_among x (spot_path c) d 0 ns) (claims-from x (spot_path c) d 0 ns))

  claims-from : (x : ℕ) (path : List ℕ) (d : DirValue) (i : ℕ) (ns : Nodes) → AllByRecursion (λ t. IsFrom path i t.child) (claims_among x path d i ns)
  claims-from x path d i no_nodes = tt
  claims-from x path d i (more_nodes n ns) =
      each-append (λ t. IsFrom path i t.child) (claims_in x (spot_in path d i) n) (claims_among x path d (i + 1) ns)
      (each-weaker (λ t. is_under (path ++ i ∷ []) t.child ≡ true) (λ t. IsFrom path i t.child) (λ t u. from_child path i t.child u) (claims_in x (spot_in path d i) n) (claims-under x (spot_in path d i) n))
      (each-weaker (λ t. IsFrom path (i + 1) t.child) (λ t. IsFrom path i t.child) (λ t f. from_later path i t.child f) (claims_among x path d (i + 1) ns) (claims-from x path d (i + 1) ns))

-- ---- the claims of the bus's children

module _ (x : ℕ) (path : List ℕ) (d : DirValue) (ns : Nodes) where
  pub record OfChild (t : ClaimAt) : Type 0 where
    pub number : ℕ
    pub child : t.child ≡ path ++ number ∷ []
    pub within : number < length (children ns)
    pub exclusive : child_is_exclusive x (child_at number (children ns)) ≡ true

  -- a claim on the bus is one of a child that holds the item Exclusive
  abbrev pub IsOfChild : ClaimAt → Type 0
  IsOfChild t = is_under path t.child ≡ true → claim_level t ≡ length path → OfChild t

  claim-above : (c : Spot) (moment : List ℕ) → length (spot_path c) ≤ length path → IsOfChild (record { child = spot_path c; moment = moment })
  claim-above c moment short u level =
      let one : length (spot_path c) ≡ length c.above + 1 = length-append c.above (c.number ∷ []) in
      absurd (omega (arith, one, short, level))

  claim-below : (t : ClaimAt) → length path + 1 < length t.child → IsOfChild t
  claim-below t long u level = absurd (omega (arith, long, level))

  claim-beside : (above : List ℕ) (i j : ℕ) (p : List ℕ) → above ++ i ∷ p ≡ path → (i ≡ j → ⊥) → (t : ClaimAt) → is_under (above ++ j ∷ []) t.child ≡ true → IsOfChild t
  claim-beside above i j p at other t under u level =
      let over : is_under (above ++ i ∷ []) path ≡ true = subst (λ q. is_under (above ++ i ∷ []) q ≡ true) (append_assoc above (i ∷ []) p ∙ at) (under-append (above ++ i ∷ []) p) in
      absurd (other (one_child above t.child i j (under-trans (above ++ i ∷ []) path t.child over u) under))

  kid-claims : (j : ℕ) (n : Node) → j < length (children ns) → child_at j (children ns) ≡ n → AllByRecursion IsOfChild (claims_in x (spot_in path d j) n)
  kid-claims j n l at = go n at where
    one : (m : Node) → child_at j (children ns) ≡ m → (moment : List ℕ) → AllByRecursion IsOfChild (claim_here x (spot_in path d j) m moment)
    one m at moment = claim-here IsOfChild x (spot_in path d j) m moment (λ is. λ u level. record { number = j; child = refl; within = l; exclusive = subst (λ k. child_is_exclusive x k ≡ true) (sym at) is })

    deeper : (e : DirValue) (ks : Nodes) → AllByRecursion IsOfChild (claims_among x (path ++ j ∷ []) e 0 ks)
    deeper e ks = each-weaker (λ t. IsFrom (path ++ j ∷ []) 0 t.child) IsOfChild (λ t f. claim-below t (let size : length (path ++ j ∷ []) ≡ length path + 1 = length-append path (j ∷ []) in omega (arith, size, f.longer))) (claims_among x (path ++ j ∷ []) e 0 ks) (claims-from x (path ++ j ∷ []) e 0 ks)

    go : (m : Node) → child_at j (children ns) ≡ m → AllByRecursion IsOfChild (claims_in x (spot_in path d j) m)
    go (leaf_node v) at = one (leaf_node v) at (claim x (spot_in path d j) (leaf_node v))
    go (dir_node e ks) at = each-append IsOfChild (claim_here x (spot_in path d j) (dir_node e ks) (claim x (spot_in path d j) (dir_node e ks))) (claims_among x (path ++ j ∷ []) e 0 ks) (one (dir_node e ks) at (claim x (spot_in path d j) (dir_node e ks))) (deeper e ks)

  -- from child j on
  kids-claims : (j : ℕ) (ks : Nodes) → ((i : ℕ) → i < length (children ks) → (i + j < length (children ns)) × (child_at (i + j) (children ns) ≡ child_at i (children ks))) → AllByRecursion IsOfChild (claims_among x path d j ks)
  kids-claims j no_nodes at = tt
  kids-claims j (more_nodes n ks) at =
      let first : (j < length (children ns)) × (child_at j (children ns) ≡ n) = subst (λ a. (a < length (children ns)) × (child_at a (children ns) ≡ n)) (let none : 0 + j ≡ j = omega arith in none) (at 0 (omega arith)) in
      each-append IsOfChild (claims_in x (spot_in path d j) n) (claims_among x path d (j + 1) ks) (kid-claims j n first.0 first.1)
      (kids-claims (j + 1) ks (λ i l. subst (λ a. (a < length (children ns)) × (child_at a (children ns) ≡ child_at i (children ks))) (let more : suc i + j ≡ i + (j + 1) = omega arith in more) (at (suc i) (omega (arith, l)))))

  all-kids : AllByRecursion IsOfChild (claims_among x path d 0 ns)
  all-kids = kids-claims 0 ns (λ i l. subst (λ a. (a < length (children ns)) × (child_at a (children ns) ≡ child_at i (children ns))) (let none : i ≡ i + 0 = omega arith in none) (l, refl))

  -- ---- beside the bus

  among-beside : (above : List ℕ) (e : DirValue) (i j : ℕ) (p : List ℕ) (ks : Nodes) → above ++ i ∷ p ≡ path → i < j → AllByRecursion IsOfChild (claims_among x above e j ks)
  among-beside above e i j p no_nodes at l = tt
  among-beside above e i j p (more_nodes k ks) at l =
      each-append IsOfChild (claims_in x (spot_in above e j) k) (claims_among x above e (j + 1) ks)
      (each-weaker (λ t. is_under (above ++ j ∷ []) t.child ≡ true) IsOfChild (claim-beside above i j p at (λ same. omega (arith, same, l))) (claims_in x (spot_in above e j) k) (claims-under x (spot_in above e j) k))
      (among-beside above e i (j + 1) p ks at (omega (arith, l)))

  mutual
    claims-at : (p : List ℕ) (c : Spot) (r : Node) → spot_path c ++ p ≡ path → node_at p r ≡ dir_node d ns → AllByRecursion IsOfChild (claims_in x c r)
    claims-at [] c r at is = subst (λ k. AllByRecursion IsOfChild (claims_in x c k)) (sym is) (each-append IsOfChild (claim_here x c (dir_node d ns) (claim x c (dir_node d ns))) (claims_among x (spot_path c) d 0 ns) (claim-here IsOfChild x c (dir_node d ns) (claim x c (dir_node d ns)) (λ i. claim-above c (claim x c (dir_node d ns)) short)) (subst (λ q. AllByRecursion IsOfChild (claims_among x q d 0 ns)) (sym here) all-kids)) where
      here : spot_path c ≡ path
      here = sym (back (spot_path c)) ∙ at

      short : length (spot_path c) ≤ length path
      short = let same : length (spot_path c) ≡ length path = ap length here in omega (arith, same)
    claims-at (i ∷ p) c (leaf_node v) at is = absurd (leaf-below (i ∷ p) v d ns is)
    claims-at (i ∷ p) c (dir_node e ks) at is =
        let size : length (spot_path c ++ i ∷ p) ≡ length (spot_path c) + length (i ∷ p) = length-append (spot_path c) (i ∷ p) in
        let whole : length (spot_path c ++ i ∷ p) ≡ length path = ap length at in
        each-append IsOfChild (claim_here x c (dir_node e ks) (claim x c (dir_node e ks))) (claims_among x (spot_path c) e 0 ks)
        (claim-here IsOfChild x c (dir_node e ks) (claim x c (dir_node e ks)) (λ a. claim-above c (claim x c (dir_node e ks)) (omega (arith, size, whole))))
        (among-at p (spot_path c) e i 0 ks (ap (λ j. spot_path c ++ j ∷ p) (let none : i + 0 ≡ i = omega arith in none) ∙ at) is)

    among-at : (p above : List ℕ) (e : DirValue) (i j : ℕ) (ks : Nodes) → above ++ (i + j) ∷ p ≡ path → node_at p (child_at i (children ks)) ≡ dir_node d ns → AllByRecursion IsOfChild (claims_among x above e j ks)
    among-at p above e i j no_nodes at is = tt
    among-at p above e zero j (more_nodes k ks) at is =
        let here : above ++ j ∷ p ≡ path = ap (λ l. above ++ l ∷ p) (let none : j ≡ 0 + j = omega arith in none) ∙ at in
        each-append IsOfChild (claims_in x (spot_in above e j) k) (claims_among x above e (j + 1) ks) (claims-at p (spot_in above e j) k (append_assoc above (j ∷ []) p ∙ here) is) (among-beside above e j (j + 1) p ks here (omega arith))
    among-at p above e (suc i) j (more_nodes k ks) at is =
        each-append IsOfChild (claims_in x (spot_in above e j) k) (claims_among x above e (j + 1) ks)
        (each-weaker (λ t. is_under (above ++ j ∷ []) t.child ≡ true) IsOfChild (claim-beside above (suc i + j) j p at (λ same. omega (arith, same))) (claims_in x (spot_in above e j) k) (claims-under x (spot_in above e j) k))
        (among-at p above e i (j + 1) ks (ap (λ a. above ++ a ∷ p) (let more : i + (j + 1) ≡ suc i + j = omega arith in more) ∙ at) is)

-- ---- of a machine

pub claims-of_children : (x : ℕ) (m : MachineValue) (path : List ℕ) (d : DirValue) (ns : Nodes) → node_at path (root_of m) ≡ dir_node d ns → AllByRecursion (IsOfChild x path d ns) (claims_of x m)
unfolding claims_of
claims-of_children x m [] d ns is =
    let top : m.top ≡ d = cc in
    let kids : m.kids ≡ ns = cc in
    subst (λ e. AllByRecursion (IsOfChild x [] d ns) (claims_among x [] e 0 m.kids)) (sym top) (subst (λ ks. AllByRecursion (IsOfChild x [] d ns) (claims_among x [] d 0 ks)) (sym kids) (all-kids x [] d ns))
claims-of_children x m (i ∷ p) d ns is = among-at x (i ∷ p) d ns p [] m.top i 0 m.kids (ap (λ j. j ∷ p) (let none : i + 0 ≡ i = omega arith in none)) is
