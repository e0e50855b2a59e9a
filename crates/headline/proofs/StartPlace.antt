-- The copies of an item before the first turn stand at one leaf, and who has a claim on the item is that leaf or a directory over it.
use Rattle.std.proofs.Common.{◌≡◌, ℕ, ◌+◌, ◌<◌, Bool, true, false, not, ◌||◌, List, [], ◌∷◌, ◌++◌, length, map, Option, Some, None, refl, sym, subst, ◌∙◌, arith}
use Rattle.std.specs.Prelude.{if◌then◌else◌}
use Rattle.std.specs.List.{AllByRecursion, list_any}
use Rattle.std.proofs.lemmas.Bool.{not-true, true≢false}
use Rattle.std.proofs.lemmas.List.{length-append}
use Rattle.headline.specs.DdmTypes.declared.sizes.Start.{Start}
use Rattle.headline.specs.TreeModel.State.States.{entry_hold, is_held, is_exclusive}
use Rattle.headline.specs.TreeModel.State.Values.{DirValue, Node, Nodes, leaf_node, dir_node, no_nodes, more_nodes, children, MachineValue}
use Rattle.headline.specs.TreeModel.State.Leaf.{words_of_item, LeafEntry, leaf_entry}
use Rattle.headline.specs.TreeModel.State.Place.{Spot, spot_path, spot_in}
use Rattle.headline.specs.TreeRules.Bus.Faces.{child_face, parent_face, faces_of}
use Rattle.headline.specs.TreeRules.Bus.Item.{holds_it, holds_exclusive, one_holds, ItemRules}
use Rattle.headline.specs.TreeRules.Bus.Rules.{IsTreeOk, AreTreesOk, items_of_machine, IsMachineOk}
use Rattle.headline.specs.TreeRules.Order.Moments.{is_under, moment_at, spot_moment}
use Rattle.headline.specs.TreeRules.Order.Copies.{CopyAt, cut, entry_copies, inner, handed, copies_of}
use Rattle.headline.specs.TreeRules.Order.Claims.{ClaimAt, claim, child_is_exclusive, claim_here, claims_in, claims_among, claims_of}
use Rattle.headline.proofs.OrderLists.Filters.{each-append}
use Rattle.headline.proofs.OrderLists.Paths.{under-itself, under_child}
use Rattle.headline.proofs.OrderLists.NoHold.{seen_hold}
use Rattle.headline.proofs.OrderLists.AboveExclusive.{exclusive_held, holder_of_exclusive}
use Rattle.headline.proofs.OrderLists.ExclusiveClaims.{dir_above, first_other}
use Rattle.headline.proofs.StartFresh.{IsFresh, AreFresh, IsFreshMachine}
use Rattle.headline.proofs.StartCopies.{not_held, none_parked, no_words, dir-each, child-each, handed-start, no_copies, none-handed, no_claims, none-claimed, IsStartCopy}

module _ (start : Start) (words : List (List ℕ)) (items x : ℕ) (below : x < items) where
  -- a claim of a child over this place
  abbrev IsOver : List ℕ → ClaimAt → Type 0
  IsOver place t = (is_under t.child place ≡ true) × (0 < length t.child)

  -- below a path there is one place of all these copies, and whoever claims is over it
  pub record IsOnePlace (path : List ℕ) (ks : List CopyAt) (ts : List ClaimAt) : Type 0 where
    pub place : List ℕ
    pub under : is_under path place ≡ true
    pub copies : AllByRecursion (λ (k : CopyAt). k.place ≡ place) ks
    pub claims : AllByRecursion (IsOver place) ts

  own-claim : (c : Spot) (n : Node) (moment place : List ℕ) → is_under (spot_path c) place ≡ true → AllByRecursion (IsOver place) (claim_here x c n moment)
  own-claim c n moment place u = go (child_is_exclusive x n) refl where
    long : 0 < length (spot_path c)
    long = let e : length (c.above ++ c.number ∷ []) ≡ length c.above + 1 = length-append c.above (c.number ∷ []) in omega (arith, e)

    go : (t : Bool) → child_is_exclusive x n ≡ t → AllByRecursion (IsOver place) (claim_here x c n moment)
    go true e = rw e ((u, long), tt)
    go false e = rw e tt

  entry-place : (path clock : List ℕ) (o : Option LeafEntry) → AllByRecursion (λ (k : CopyAt). k.place ≡ path) (entry_copies path clock o)
  entry-place path clock None = tt
  entry-place path clock (Some e) = go (is_held (entry_hold (Some e.state))) refl where
    go : (t : Bool) → is_held (entry_hold (Some e.state)) ≡ t → AllByRecursion (λ (k : CopyAt). k.place ≡ path) (entry_copies path clock (Some e))
    go true i = rw i (refl, tt)
    go false i = rw i tt

  cut-place : (place : List ℕ) (ks : List CopyAt) → AllByRecursion (λ (k : CopyAt). k.place ≡ place) ks → (o : Option (List ℕ)) → o ≡ None → AllByRecursion (λ (k : CopyAt). k.place ≡ place) (map (cut o) ks)
  cut-place place [] h o e = tt
  cut-place place (k ∷ ks) h o e = (h.0, cut-place place ks h.1 o e)

  mutual
    one-place : (c : Spot) (n : Node) → IsFresh start words n → IsTreeOk items n → IsOnePlace (spot_path c) (inner x c n) (claims_in x c n)
    one-place c (leaf_node v) f ok = record { place = spot_path c; under = under-itself (spot_path c); copies = entry-place (spot_path c) (spot_moment c) (leaf_entry x v); claims = own-claim c (leaf_node v) (claim x c (leaf_node v)) (spot_path c) (under-itself (spot_path c)) }
    one-place c (dir_node d ns) f ok = over (one-among (spot_path c) (moment_at c.above d.epoch) d 0 ns f.1 ok.1 (λ h. (dir_above x d ns (ok.0.rules x below) h).one)) where
      over : IsOnePlace (spot_path c) (handed x (spot_path c) (moment_at c.above d.epoch) d 0 ns) (claims_among x (spot_path c) d 0 ns) → IsOnePlace (spot_path c) (inner x c (dir_node d ns)) (claims_in x c (dir_node d ns))
      over s = record {
        place = s.place;
        under = s.under;
        copies = dir-each start words items x below (λ (k : CopyAt). k.place ≡ s.place) (λ ks h o e. cut-place s.place ks h o e) c d ns f.0 s.copies;
        claims = each-append (IsOver s.place) _ (claims_among x (spot_path c) d 0 ns) (own-claim c (dir_node d ns) (claim x c (dir_node d ns)) s.place s.under) s.claims;
      }

    -- where one child holds the item if any holds it Exclusive
    pub one-among : (path bound : List ℕ) (d : DirValue) (i : ℕ) (ns : Nodes) → AreFresh start words ns → AreTreesOk items ns → (list_any holds_exclusive (faces_of x (children ns)) ≡ true → one_holds (faces_of x (children ns)) ≡ true)
        → IsOnePlace path (handed x path bound d i ns) (claims_among x path d i ns)
    one-among path bound d i no_nodes f ok one = record { place = path; under = under-itself path; copies = tt; claims = tt }
    one-among path bound d i (more_nodes n ns) f ok one = go (child_is_exclusive x n) refl (one-place (spot_in path d i) n f.0 ok.0) (one-among path bound d (i + 1) ns f.1 ok.1) where
      seen : child_is_exclusive x n ≡ true → holds_exclusive (child_face x n) ≡ true
      seen e = subst (λ k. is_exclusive k ≡ true) (sym (seen_hold x n)) e

      any : (b : Bool) → holds_exclusive (child_face x n) ≡ true → (holds_exclusive (child_face x n) || b) ≡ true
      any b e = rw e refl

      or-later : (a b : Bool) → b ≡ true → (a || b) ≡ true
      or-later true b e = refl
      or-later false b e = e

      -- this child alone
      alone : child_is_exclusive x n ≡ true → list_any holds_it (faces_of x (children ns)) ≡ false
      alone e =
          let h : one_holds (faces_of x (children (more_nodes n ns))) ≡ true = one (any (list_any holds_exclusive (faces_of x (children ns))) (seen e)) in
          let k : not (list_any holds_it (faces_of x (children ns))) ≡ true = subst (λ t. (if t then not (list_any holds_it (faces_of x (children ns))) else one_holds (faces_of x (children ns))) ≡ true) (exclusive_held (child_face x n).hold (seen e)) h in
          not-true _ k

      unclaimed : list_any holds_it (faces_of x (children ns)) ≡ false → list_any holds_exclusive (faces_of x (children ns)) ≡ false
      unclaimed h = by_test (list_any holds_exclusive (faces_of x (children ns))) refl where
        by_test : (t : Bool) → list_any holds_exclusive (faces_of x (children ns)) ≡ t → list_any holds_exclusive (faces_of x (children ns)) ≡ false
        by_test true e = absurd (true≢false (sym (holder_of_exclusive (faces_of x (children ns)) e) ∙ h))
        by_test false e = e

      here : child_is_exclusive x n ≡ true → IsOnePlace (spot_path (spot_in path d i)) (inner x (spot_in path d i) n) (claims_in x (spot_in path d i) n) → IsOnePlace path (handed x path bound d i (more_nodes n ns)) (claims_among x path d i (more_nodes n ns))
      here e s = record {
        place = s.place;
        under = under_child path s.place i s.under;
        copies = child-each start words items x below (λ (k : CopyAt). k.place ≡ s.place) path bound d i n ns f.0 s.copies (subst (λ l. AllByRecursion (λ (k : CopyAt). k.place ≡ s.place) l) (sym (none-handed start words items x below path bound d (i + 1) ns f.1 ok.1 (alone e))) tt);
        claims = each-append (IsOver s.place) (claims_in x (spot_in path d i) n) _ s.claims (subst (λ l. AllByRecursion (IsOver s.place) l) (sym (none-claimed start words items x below path d (i + 1) ns ok.1 (unclaimed (alone e)))) tt);
      }

      later : child_is_exclusive x n ≡ false → IsOnePlace path (handed x path bound d (i + 1) ns) (claims_among x path d (i + 1) ns) → IsOnePlace path (handed x path bound d i (more_nodes n ns)) (claims_among x path d i (more_nodes n ns))
      later e s = record {
        place = s.place;
        under = s.under;
        copies = child-each start words items x below (λ (k : CopyAt). k.place ≡ s.place) path bound d i n ns f.0 (subst (λ l. AllByRecursion (λ (k : CopyAt). k.place ≡ s.place) l) (sym (no_copies start words items x below (spot_in path d i) n f.0 ok.0 (not_held start words items x below n f.0 e))) tt) s.copies;
        claims = each-append (IsOver s.place) (claims_in x (spot_in path d i) n) _ (subst (λ l. AllByRecursion (IsOver s.place) l) (sym (no_claims start words items x below (spot_in path d i) n ok.0 e)) tt) s.claims;
      }

      go : (t : Bool) → child_is_exclusive x n ≡ t → IsOnePlace (spot_path (spot_in path d i)) (inner x (spot_in path d i) n) (claims_in x (spot_in path d i) n)
          → ((list_any holds_exclusive (faces_of x (children ns)) ≡ true → one_holds (faces_of x (children ns)) ≡ true) → IsOnePlace path (handed x path bound d (i + 1) ns) (claims_among x path d (i + 1) ns))
          → IsOnePlace path (handed x path bound d i (more_nodes n ns)) (claims_among x path d i (more_nodes n ns))
      go true e first rest = here e first
      go false e first rest = later e (rest (λ h. (first_other x n (children ns) h (one (or-later (holds_exclusive (child_face x n)) (list_any holds_exclusive (faces_of x (children ns))) h))).1))

  -- ---- of a machine

  module _ (m : MachineValue) (f : IsFreshMachine start words m) (ok : IsMachineOk m) (same : items_of_machine m ≡ items) where
    trees : AreTreesOk items m.kids
    trees = subst (λ n. AreTreesOk n m.kids) same ok.tree.1

    rules : ItemRules (parent_face x m.top) (faces_of x (children m.kids))
    rules = ok.tree.0.rules x (subst (λ n. x < n) (sym same) below)

    pub copies-start : AllByRecursion (IsStartCopy start words items x below) (copies_of x m)
    unfolding copies_of
    copies-start = each-append (IsStartCopy start words items x below) (handed x [] [] m.top 0 m.kids) _ (handed-start start words items x below [] [] m.top 0 m.kids f.kids) (none_parked start words items x below (IsStartCopy start words items x below) [] [] (words_of_item x m.top.parked) (no_words start words items x below m.top f.top))

    pub machine-one_place : IsOnePlace [] (copies_of x m) (claims_of x m)
    unfolding copies_of claims_of
    machine-one_place = over (one-among [] [] m.top 0 m.kids f.kids trees (λ h. (dir_above x m.top m.kids rules h).one)) where
      over : IsOnePlace [] (handed x [] [] m.top 0 m.kids) (claims_among x [] m.top 0 m.kids) → IsOnePlace [] (copies_of x m) (claims_of x m)
      over s = record {
        place = s.place;
        under = s.under;
        copies = each-append (λ (k : CopyAt). k.place ≡ s.place) (handed x [] [] m.top 0 m.kids) _ s.copies (none_parked start words items x below (λ (k : CopyAt). k.place ≡ s.place) [] [] (words_of_item x m.top.parked) (no_words start words items x below m.top f.top));
        claims = s.claims;
      }
