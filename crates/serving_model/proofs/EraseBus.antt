-- A bus that grants an erase: every other child is told to lose the item, and loses it before anything else is done.
-- Letters: n is how many items there are, x the item, h the leaf, d a directory over the children ns, w a place, c the
-- child that is over the leaf, e whether the directory holds the item Exclusive.
use Rattle.std.proofs.Common.{◌≡◌, ◌≢◌, ℕ, zero, suc, ◌+◌, ◌<◌, Bool, true, false, List, [], ◌∷◌, ◌++◌, length, Some, None, refl, sym, ap, subst, ◌∙◌, arith, get_or-set_same, get_or-set_other}
use Rattle.std.specs.Prelude.{nat_eq, slice_set}
use native.Mathlib.Decide.{ℕ_discrete}
use Rattle.std.proofs.lemmas.Bool.{eq-eqb, ne_eqb}
use Rattle.std.proofs.lemmas.List.{length-set}
use Rattle.serving_model.specs.DdmTypes.declared.answers.TxKind.TheVariants.{EraseTx}
use Rattle.serving_model.specs.DdmTypes.declared.keys.Stamp.{Stamp}
use Rattle.serving_model.specs.DdmTypes.declared.turns.Turn.{Turn}
use Rattle.bus_laws.specs.FlatModel.Flat.{FlatHart}
use Rattle.serving_model.specs.TreeModel.declared.BusTurn.{BusTurn}
use Rattle.serving_model.specs.TreeModel.State.Lists.{map_from, first_given}
use Rattle.serving_model.specs.TreeModel.State.States.{is_exclusive}
use Rattle.serving_model.specs.TreeModel.State.Values.{RequestValue, DirValue, Node, Nodes, dir_node, no_nodes, more_nodes, nodes, children}
use Rattle.serving_model.specs.TreeModel.State.Directory.{dir_hold, pending, stamp_of, counted}
use Rattle.serving_model.specs.TreeModel.State.Child.{child_request, child_request_taken, child_lose}
use Rattle.serving_model.specs.TreeModel.State.Blank.{no_node}
use Rattle.serving_model.specs.TreeModel.State.Place.{Where, at_child, stamp_above, where_path, spot_in}
use Rattle.serving_model.specs.TreeModel.Turns.Grant.{granted, unless_full}
use Rattle.serving_model.specs.TreeModel.Turns.Children.{child_at, other_full, erased_by}
use Rattle.serving_model.specs.TreeModel.Turns.RequestErase.{erase_noted, erase_list_full, erase_of_all}
use Rattle.serving_model.specs.TreeModel.Turns.Bus.{bus_judged}
use Rattle.serving_model.specs.Parts.{FlatView, MayEnd, Runs, stays, turned, below, Settled, Calm}
use Rattle.serving_model.specs.Walk.{child_over, turns_of_child, turns_of_others, lose_turns, loses, clear_turns, clears}
use Rattle.serving_model.proofs.TreeModel.Children.{map_from-length, child_at-map_from, nodes-children}
use Rattle.serving_model.proofs.Dirs.{DirRests, not-pending}
use Rattle.serving_model.proofs.Sweep.{none-given, Turns, Swept, sweep}
use Rattle.serving_model.proofs.Lose.{free-to_lose, loses-many, loses-at, lose}
use Rattle.serving_model.proofs.Steps.{runs-skeleton}
use Rattle.serving_model.proofs.Spine.{same-over, dir-bones}
use Rattle.serving_model.proofs.Exclusive.{Erases}

-- a request to erase is granted
request-erase : (above : Stamp) (x c : ℕ) (p : DirValue) (ns : List Node) (e : Bool) → child_request (child_at c ns) ≡ Some (record { kind = EraseTx; item = x }) → pending x p ≡ None → is_exclusive (dir_hold x p) ≡ e → first_given (other_full c x) 0 ns ≡ None → erase_list_full above c x p ns e ≡ None → bus_judged above p ns (BusTurn.Request c) ≡ granted (erase_of_all above c x p ns)
unfolding unless_full
request-erase above x c p ns e asked free holds others list = rw (asked, free, holds, others, list) refl

clears-at : (h x k : ℕ) (ns : Nodes) → k < length (children ns) → turns_of_child k (clears h x ns) ≡ clear_turns h x (child_at k (children ns))
clears-at h x k no_nodes l = absurd (omega (arith, l))
clears-at h x zero (more_nodes m ns) l = refl
clears-at h x (suc k) (more_nodes m ns) l = clears-at h x k ns (omega (arith, l))

turns-set : (each : List (List Turn)) (c : ℕ) → turns_of_child c (slice_set each c []) ≡ []
turns-set [] c = refl
turns-set (ts ∷ each) zero = refl
turns-set (ts ∷ each) (suc c) = turns-set each c

module _ (n : ℕ) (flat : FlatView) (g : FlatHart) (h x : ℕ) (within : x < n) (ends : MayEnd flat x) where
  abbrev pub erase : RequestValue
  erase = record { kind = EraseTx; item = x }

  -- these turns of a part are granted, it asks to erase, and when its request is taken it waits for exclusive
  pub record Clears (w : Where) (m : Node) (ts : List Turn) : Type 0 where
    pub after : Node
    pub run : Runs w m ts after
    pub request : child_request after ≡ Some erase
    pub erases : Erases n flat g h x within (child_request_taken after)

  module _ (w : Where) (d : DirValue) (ns : Nodes) (c : ℕ) (is : child_over h ns ≡ Some c) (there : c < length (children ns)) (r : DirRests x d) (calm : (j : ℕ) → j < length (children ns) → j ≢ c → Calm n flat (child_at j (children ns)))
      (one : Clears (at_child (spot_in (where_path w) d c)) (child_at c (children ns)) (clear_turns h x (child_at c (children ns)))) (e : Bool) (holds : is_exclusive (dir_hold x d) ≡ e)
      (room : erase_list_full (stamp_above w) c x d (slice_set (children ns) c one.after) e ≡ None) where
    abbrev ks : List Node
    ks = children ns

    -- when the erase has come up
    abbrev l1 : List Node
    l1 = slice_set ks c one.after

    many1 : length l1 ≡ length ks
    many1 = length-set ks c one.after

    at1-c : child_at c l1 ≡ one.after
    at1-c = get_or-set_same ks c one.after no_node there

    at1-other : (j : ℕ) → j ≢ c → child_at j l1 ≡ child_at j ks
    at1-other j ne = get_or-set_other ks c j one.after no_node ne

    -- when it was granted, and the others told to lose the item
    abbrev pub p1 : DirValue
    p1 = erase_noted (stamp_above w) c x d l1 e

    abbrev s1 : Stamp
    s1 = stamp_of (counted d)

    abbrev l2 : List Node
    l2 = map_from (erased_by c x s1) 0 l1

    many2 : length l2 ≡ length ks
    many2 = map_from-length (erased_by c x s1) 0 l1 ∙ many1

    at2 : (j : ℕ) → j < length ks → child_at j l2 ≡ erased_by c x s1 j (child_at j l1)
    at2 j l = child_at-map_from (erased_by c x s1) j l1 (subst (λ n. j < n) (sym many1) l)

    at2-c : child_at c l2 ≡ child_request_taken one.after
    at2-c =
        let here : nat_eq c c ≡ true = eq-eqb c c refl in
        at2 c there ∙ (rw here refl ∙ ap child_request_taken at1-c)

    at2-other : (j : ℕ) → j < length ks → j ≢ c → child_at j l2 ≡ child_lose x s1 (child_at j ks)
    at2-other j l ne =
        let other : nat_eq j c ≡ false = ne_eqb j c ne in
        at2 j l ∙ (rw other refl ∙ ap (child_lose x s1) (at1-other j ne))

    -- ---- the others lose it

    pub record Lost (j : ℕ) (m : Node) : Type 0 where
      pub other : j ≢ c → Settled n flat m
      pub here : j ≡ c → m ≡ child_request_taken one.after

    abbrev each : List (List Turn)
    each = slice_set (loses x ns) c []

    count : length each ≡ length ks
    count = length-set (loses x ns) c [] ∙ loses-many x ns

    lost : (j : ℕ) → j < length ks → Turns w p1 Lost j l2 (turns_of_child j each)
    lost j l = at (ℕ_discrete j c) where
      at : Dec (j ≡ c) → Turns w p1 Lost j l2 (turns_of_child j each)
      at (yes same) =
          let none : turns_of_child j each ≡ [] = subst (λ i. turns_of_child i each ≡ []) (sym same) (turns-set (loses x ns) c) in
          let stay : Turns w p1 Lost j l2 [] = record { after = child_at j l2; run = stays; is = record { other = λ ne. absurd (ne same); here = λ e. subst (λ i. child_at i l2 ≡ child_request_taken one.after) (sym same) at2-c } } in
          subst (Turns w p1 Lost j l2) (sym none) stay
      at (no ne) =
          let turns : turns_of_child j each ≡ lose_turns x (child_at j ks) = get_or-set_other (loses x ns) c j [] [] ne ∙ loses-at x j ns l in
          let gone = lose n flat x within ends (child_at j ks) (at_child (spot_in (where_path w) p1 j)) s1 (calm j l ne) in
          let so : Turns w p1 Lost j l2 (lose_turns x (child_at j ks)) = record {
            after = gone.after;
            run = subst (λ m. Runs (at_child (spot_in (where_path w) p1 j)) m (lose_turns x (child_at j ks)) gone.after) (sym (at2-other j l ne)) gone.run;
            is = record { other = λ other. gone.settled; here = λ same. absurd (ne same) };
          } in
          subst (Turns w p1 Lost j l2) (sym turns) so

    pub swept : Swept w p1 Lost 0 l2 (turns_of_others c (loses x ns))
    swept = sweep w p1 Lost 0 each l2 (omega (arith, count, many2)) (λ j l. subst (λ k. Turns w p1 Lost k l2 (turns_of_child j each)) (let same : j ≡ 0 + j = omega arith in same) (lost j (subst (λ n. j < n) count l)))

    none-full : first_given (other_full c x) 0 l1 ≡ None
    none-full = none-given (other_full c x) 0 l1 (λ j l. at j (subst (λ n. j < n) many1 l) (ℕ_discrete j c)) where
      at : (j : ℕ) → j < length ks → Dec (j ≡ c) → other_full c x (0 + j) (child_at j l1) ≡ None
      at j l (yes same) =
          let zero_more : 0 + j ≡ j = omega arith in
          let here : nat_eq j c ≡ true = eq-eqb j c same in
          rw (zero_more, here) refl
      at j l (no ne) =
          let zero_more : 0 + j ≡ j = omega arith in
          let differs : nat_eq j c ≡ false = ne_eqb j c ne in
          rw (zero_more, differs, at1-other j ne) (free-to_lose n flat x within ends (child_at j ks) (calm j l ne))

    pub run : Runs w (dir_node d ns) (turns_of_child c (clears h x ns) ++ Turn.Request d.bus c ∷ turns_of_others c (loses x ns)) (dir_node p1 (nodes swept.after))
    unfolding erase_of_all
    run =
        let has : child_request (child_at c l1) ≡ Some erase = ap child_request at1-c ∙ one.request in
        let judged = request-erase (stamp_above w) x c d l1 e has (not-pending x d r.items.note r.items.answers r.lists.down) holds none-full room in
        let later : Runs w (dir_node (erase_noted (stamp_above w) c x d l1 (is_exclusive (dir_hold x d))) (nodes l2)) (turns_of_others c (loses x ns)) (dir_node p1 (nodes swept.after)) = subst (λ b. Runs w (dir_node (erase_noted (stamp_above w) c x d l1 b) (nodes l2)) (turns_of_others c (loses x ns)) (dir_node p1 (nodes swept.after))) (sym holds) swept.run in
        rw (clears-at h x c ns there) (subst (λ l. Runs w (dir_node d l) (clear_turns h x (child_at c ks) ++ Turn.Request d.bus c ∷ turns_of_others c (loses x ns)) (dir_node p1 (nodes swept.after))) (nodes-children ns)
        (below ks c (clear_turns h x (child_at c ks)) one.after there one.run (turned l1 (erase_of_all (stamp_above w) c x d l1) refl judged later)))

    -- what the children are then
    pub many3 : length swept.after ≡ length ks
    many3 = swept.many ∙ many2

    pub others3 : (j : ℕ) → j < length swept.after → j ≢ c → Settled n flat (child_at j swept.after)
    others3 j l ne = (swept.done j (omega arith) (subst (λ n. j < n) swept.many l)).other ne

    pub here3 : child_at c swept.after ≡ child_request_taken one.after
    here3 = (swept.done c (omega arith) (subst (λ n. c < n) (sym many2) there)).here refl

    pub over3 : child_over h (nodes swept.after) ≡ Some c
    over3 = same-over h 0 (nodes swept.after) ns (dir-bones p1 d (nodes swept.after) ns (runs-skeleton run)) ∙ is
