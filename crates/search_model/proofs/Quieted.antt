-- A part of the tree with the leaf of a hart that is at a quiet instruction, and the same part after that hart's turn.
-- What a bus tells its children goes with it, so it makes no difference which of the two is first.
-- Letters: n and m are nodes, ns and ms are children, v a leaf, d a directory, x is an item, s and r are stamps, w is where a node
-- stands, k is the number of the child that has the leaf.
use Rattle.std.proofs.Common.{◌≡◌, ℕ, ◌+◌, ◌<◌, ◌≤◌, Bool, true, false, not, List, [], ◌∷◌, ◌||◌, map, Option, None, nat_eq, refl, sym, ap, subst, ◌∙◌, ◌⊎◌, inl, inr, arith, if◌then◌else◌}
use Rattle.search_model.specs.DdmTypes.declared.keys.Stamp.{Stamp}
use Rattle.search_model.specs.FlatModel.Flat.{has_reserved}
use Rattle.search_model.specs.FlatModel.Hart.{HartValue, Action, Halts, Computes, Puts, Loads, Stores, Reserves, StoresIfReserved, Changes}
use Rattle.tree_model.specs.declared.BusTurn.{BusTurn}
use Rattle.tree_model.specs.Laws.{Kept, leaf_kept, dir_kept, kept_of}
use Rattle.tree_model.specs.State.Child.{child_lose, child_take_data, child_take_exclusive, child_answer, child_take_inject, child_request_taken, child_reply_taken, child_give_up}
use Rattle.tree_model.specs.State.Leaf.{unreserved, leaf_lose, leaf_take_data, leaf_take_exclusive, leaf_answer, leaf_take_inject}
use Rattle.tree_model.specs.State.Values.{LeafValue, DirValue, Node, Nodes, leaf_node, dir_node, no_nodes, more_nodes, nodes, children}
use Rattle.tree_model.specs.Turns.Bus.{bus_step}
use Rattle.tree_model.specs.Turns.Children.{only}
use Rattle.tree_model.specs.Turns.Grant.{Outcome}
use Rattle.tree_model.specs.Turns.Tree.{Name, leaf_of_number, bus_of_number, is_named, has_node, has_among}
use Rattle.tree_model.proofs.BusKeeps.{bus_step-keeps}
use Rattle.tree_model.proofs.Children.{nodes-children}
use Rattle.tree_model.proofs.Kept.{child_lose-kept, child_take_data-kept, child_take_exclusive-kept, child_answer-kept, child_take_inject-kept, child_request_taken-kept, child_reply_taken-kept, child_give_up-kept}
use Rattle.time_laws.specs.Blind.{SeenAlike, Unseen, with_inside}
use Rattle.time_laws.specs.Forget.{forget_dir, forget_node, forget_nodes}
use Rattle.time_laws.proofs.BlindBus.{SameTurn, bus_step-blind}
use Rattle.time_laws.proofs.ForgetNode.{seen-forgotten, lose-same, take_data-same, take_exclusive-same, answer-same, take_inject-same, request_taken-same, reply_taken-same, give_up-same}
use Rattle.time_laws.proofs.Inside.{inside-unseen}
use Rattle.time_laws.proofs.Related.{EachRelated, none_related, first_related, BlindTo}
use Rattle.search_model.proofs.Calm.{NoneWaits, lose-calm, take_data-calm, take_exclusive-calm, answer-calm, take_inject-calm, give_up-calm}
use Rattle.search_model.proofs.QuietDeed.{is_calm, hart_then, done_then, ends_then}

-- ---- whether a name is in a part of the tree, by what is kept of it

module _ (name : Name) where
  abbrev names_leaf : Name → ℕ → Bool
  names_leaf (leaf_of_number k) number = nat_eq number k
  names_leaf (bus_of_number b) number = false

  abbrev names_dir : Name → ℕ → Bool
  names_dir (leaf_of_number k) bus = false
  names_dir (bus_of_number b) bus = nat_eq bus b

  named-leaf : (by : Name) (v : LeafValue) → is_named by (leaf_node v) ≡ names_leaf by v.number
  named-leaf (leaf_of_number k) v = refl
  named-leaf (bus_of_number b) v = refl

  named-dir : (by : Name) (d : DirValue) (ns : Nodes) → is_named by (dir_node d ns) ≡ names_dir by d.bus
  named-dir (leaf_of_number k) d ns = refl
  named-dir (bus_of_number b) d ns = refl

  -- two leaves of one number, two directories over one bus
  pub leaf-named : (v w : LeafValue) → v.number ≡ w.number → is_named name (leaf_node v) ≡ is_named name (leaf_node w)
  leaf-named v w same = named-leaf name v ∙ ap (names_leaf name) same ∙ sym (named-leaf name w)

  pub dir-named : (d e : DirValue) (ns ms : Nodes) → d.bus ≡ e.bus → is_named name (dir_node d ns) ≡ is_named name (dir_node e ms)
  dir-named d e ns ms same = named-dir name d ns ∙ ap (names_dir name) same ∙ sym (named-dir name e ms)

  abbrev kept_has : Kept → Bool
  kept_has (leaf_kept number sizes hart done) = names_leaf name number
  kept_has (dir_kept bus level sizes count epoch ns) = names_dir name bus || has_among name ns

  abbrev kepts_have : List Kept → Bool
  kepts_have [] = false
  kepts_have (k ∷ ks) = kept_has k || kepts_have ks

  has-kept : (n : Node) → has_node name n ≡ kept_has (kept_of n)
  has-kept (leaf_node v) = named-leaf name v
  has-kept (dir_node d ns) = ap (λ b. b || has_among name ns) (named-dir name d ns)

  among-kept : (ns : List Node) → has_among name (nodes ns) ≡ kepts_have (map kept_of ns)
  among-kept [] = refl
  among-kept (n ∷ ns) = ap (λ b. b || has_among name (nodes ns)) (has-kept n) ∙ ap (λ b. kept_has (kept_of n) || b) (among-kept ns)

  pub has-by_kept : (n m : Node) → kept_of n ≡ kept_of m → has_node name n ≡ has_node name m
  has-by_kept n m same = has-kept n ∙ ap kept_has same ∙ sym (has-kept m)

  pub among-by_kept : (ns ms : List Node) → map kept_of ns ≡ map kept_of ms → has_among name (nodes ns) ≡ has_among name (nodes ms)
  among-by_kept ns ms same = among-kept ns ∙ ap kepts_have same ∙ sym (among-kept ms)

-- ---- seen alike

seen-through : (n k m : Node) → SeenAlike n k → SeenAlike k m → SeenAlike n m
seen-through n k m a b = record {
  hold = λ x. a.hold x ∙ b.hold x;
  waits = λ x. a.waits x ∙ b.waits x;
  room = λ x. a.room x ∙ b.room x;
  reader_place = λ x. a.reader_place x ∙ b.reader_place x;
  full = λ kind x. a.full kind x ∙ b.full kind x;
  request = a.request ∙ b.request;
  reply = a.reply ∙ b.reply;
  leaving = λ choice. a.leaving choice ∙ b.leaving choice;
  below = λ x. a.below x ∙ b.below x;
  given = λ x. a.given x ∙ b.given x;
}

-- a reservation that ends makes no action loud
unreserved-calm : (a : Action) (x : ℕ) (r : Option ℕ) → is_calm a r ≡ true → is_calm a (unreserved x r) ≡ true
unreserved-calm (Halts cause) x r calm = refl
unreserved-calm (Computes after) x r calm = refl
unreserved-calm (Puts byte after) x r calm = refl
unreserved-calm (Loads op rd a) x r calm = calm
unreserved-calm (Stores op v a) x r calm = calm
unreserved-calm (Reserves rd a) x r calm = calm
unreserved-calm (StoresIfReserved rd v a) x r calm = elim (has_reserved r x) as (λ b. not (has_reserved (if b then None else r) a.item) ≡ true) [ true ↦ refl | false ↦ calm ]
unreserved-calm (Changes op rd v a) x r calm = calm

-- the hart of this number is at this action, with so many instructions completed
module _ (number : ℕ) (action : Action) (hart : HartValue) (done : ℕ) where
  abbrev here : Name
  here = leaf_of_number number

  pub record CalmLeaf (v : LeafValue) : Type 0 where
    pub named : nat_eq v.number number ≡ true
    pub same_hart : v.hart ≡ hart
    pub same_done : v.done ≡ done
    pub none : NoneWaits v.ways v.buffer
    pub calm : is_calm action v.reservation ≡ true

  abbrev pub leaf_then : LeafValue → LeafValue
  leaf_then v = record v { hart = hart_then action hart; done = done_then action done; reservation = if ends_then action then None else v.reservation }

  abbrev mutual
    -- after its turn
    pub quieted : Node → Node
    quieted (leaf_node v) = leaf_node (leaf_then v)
    quieted (dir_node d ns) = dir_node d (quieted_among ns)

    pub quieted_among : Nodes → Nodes
    quieted_among no_nodes = no_nodes
    quieted_among (more_nodes n ns) = if has_node here n then more_nodes (quieted n) ns else more_nodes n (quieted_among ns)

  abbrev mutual
    -- its leaf is in this part
    pub Ready : Node → Type 0
    Ready (leaf_node v) = CalmLeaf v
    Ready (dir_node d ns) = ReadyAmong ns

    pub ReadyAmong : Nodes → Type 0
    ReadyAmong no_nodes = ⊥
    ReadyAmong (more_nodes n ns) = ((has_node here n ≡ true) × Ready n) ⊎ ((has_node here n ≡ false) × ReadyAmong ns)

  abbrev inside : Node → Node
  inside n = with_inside (hart_then action hart) (done_then action done) (ends_then action) quieted_among n

  quieted-inside : (n : Node) → quieted n ≡ inside n
  quieted-inside (leaf_node v) = refl
  quieted-inside (dir_node d ns) = refl

  unseen : Unseen (only 0 inside)
  unseen = inside-unseen 0 (hart_then action hart) (done_then action done) (ends_then action) quieted_among

  -- ---- what a bus tells or takes

  goes-with : (told : Node → Node) (n : Node) → forget_node (inside (told n)) ≡ forget_node (told (inside n)) → forget_node (quieted (told n)) ≡ forget_node (told (quieted n))
  goes-with told n goes = ap forget_node (quieted-inside (told n)) ∙ goes ∙ ap (λ k. forget_node (told k)) (sym (quieted-inside n))

  lose-ready : (x : ℕ) (s : Stamp) (n : Node) → Ready n → Ready (child_lose x s n)
  unfolding leaf_lose
  lose-ready x s (leaf_node v) r = record { named = r.named; same_hart = r.same_hart; same_done = r.same_done; none = lose-calm x v r.none; calm = unreserved-calm action x v.reservation r.calm }
  lose-ready x s (dir_node d ns) r = r

  take_data-ready : (x : ℕ) (words : List ℕ) (s : Stamp) (n : Node) → Ready n → Ready (child_take_data x words s n)
  unfolding leaf_take_data
  take_data-ready x words s (leaf_node v) r = record { named = r.named; same_hart = r.same_hart; same_done = r.same_done; none = take_data-calm x v r.none words; calm = r.calm }
  take_data-ready x words s (dir_node d ns) r = r

  take_exclusive-ready : (x : ℕ) (s : Stamp) (n : Node) → Ready n → Ready (child_take_exclusive x s n)
  unfolding leaf_take_exclusive
  take_exclusive-ready x s (leaf_node v) r = record { named = r.named; same_hart = r.same_hart; same_done = r.same_done; none = take_exclusive-calm x v r.none; calm = r.calm }
  take_exclusive-ready x s (dir_node d ns) r = r

  answer-ready : (x : ℕ) (s : Stamp) (n : Node) → Ready n → Ready (child_answer x s n)
  unfolding leaf_answer
  answer-ready x s (leaf_node v) r = record { named = r.named; same_hart = r.same_hart; same_done = r.same_done; none = answer-calm x v r.none; calm = r.calm }
  answer-ready x s (dir_node d ns) r = r

  take_inject-ready : (x : ℕ) (words : List ℕ) (s : Stamp) (n : Node) → Ready n → Ready (child_take_inject x words s n)
  unfolding leaf_take_inject
  take_inject-ready x words s (leaf_node v) r = record { named = r.named; same_hart = r.same_hart; same_done = r.same_done; none = take_inject-calm x v r.none words; calm = r.calm }
  take_inject-ready x words s (dir_node d ns) r = r

  request_taken-ready : (n : Node) → Ready n → Ready (child_request_taken n)
  request_taken-ready (leaf_node v) r = record { named = r.named; same_hart = r.same_hart; same_done = r.same_done; none = r.none; calm = r.calm }
  request_taken-ready (dir_node d ns) r = r

  reply_taken-ready : (n : Node) → Ready n → Ready (child_reply_taken n)
  reply_taken-ready (leaf_node v) r = record { named = r.named; same_hart = r.same_hart; same_done = r.same_done; none = r.none; calm = r.calm }
  reply_taken-ready (dir_node d ns) r = r

  give_up-ready : (x : ℕ) (n : Node) → Ready n → Ready (child_give_up x n)
  give_up-ready x (leaf_node v) r = record { named = r.named; same_hart = r.same_hart; same_done = r.same_done; none = give_up-calm x v r.none; calm = unreserved-calm action x v.reservation r.calm }
  give_up-ready x (dir_node d ns) r = r

  -- ---- the children of a bus, of which child k has the leaf

  module _ (k : ℕ) where
    data Place (i : ℕ) (n m : Node) : Type 0 where
      before_it : i < k → has_node here n ≡ false → forget_node n ≡ forget_node m → Place i n m
      at_it : i ≡ k → has_node here n ≡ true → Ready n → forget_node (quieted n) ≡ forget_node m → Place i n m
      after_it : k < i → forget_node n ≡ forget_node m → Place i n m

    told-place : (f g : Node → Node) → ((n : Node) → kept_of (f n) ≡ kept_of n) → ((n m : Node) → forget_node n ≡ forget_node m → forget_node (f n) ≡ forget_node (g m)) → ((n : Node) → Ready n → Ready (f n))
        → ((n : Node) → forget_node (inside (f n)) ≡ forget_node (f (inside n))) → (i : ℕ) (n m : Node) → Place i n m → Place i (f n) (g m)
    told-place f g kept same ready goes i n m (before_it below absent alike) = before_it below (has-by_kept here (f n) n (kept n) ∙ absent) (same n m alike)
    told-place f g kept same ready goes i n m (at_it is there r alike) = at_it is (has-by_kept here (f n) n (kept n) ∙ there) (ready n r) (goes-with f n (goes n) ∙ same (quieted n) m alike)
    told-place f g kept same ready goes i n m (after_it above alike) = after_it above (same n m alike)

    seen-place : (i : ℕ) (n m : Node) → Place i n m → SeenAlike n m
    seen-place i n m (before_it below absent alike) = seen-forgotten n m alike
    seen-place i n m (at_it is there r alike) = seen-through n (inside n) m (unseen.seen 0 n) (seen-forgotten (inside n) m (ap forget_node (sym (quieted-inside n)) ∙ alike))
    seen-place i n m (after_it above alike) = seen-forgotten n m alike

    place-blind : BlindTo Place
    place-blind = record {
      seen = seen-place;
      lose = λ x s r. told-place (child_lose x s) (child_lose x r) (child_lose-kept x s) (lose-same x s r) (lose-ready x s) (unseen.lose x s 0);
      take_data = λ x words s r. told-place (child_take_data x words s) (child_take_data x words r) (child_take_data-kept x words s) (take_data-same x words s r) (take_data-ready x words s) (unseen.take_data x words s 0);
      take_exclusive = λ x s r. told-place (child_take_exclusive x s) (child_take_exclusive x r) (child_take_exclusive-kept x s) (take_exclusive-same x s r) (take_exclusive-ready x s) (unseen.take_exclusive x s 0);
      answer = λ x s r. told-place (child_answer x s) (child_answer x r) (child_answer-kept x s) (answer-same x s r) (answer-ready x s) (unseen.answer x s 0);
      take_inject = λ x words s r. told-place (child_take_inject x words s) (child_take_inject x words r) (child_take_inject-kept x words s) (take_inject-same x words s r) (take_inject-ready x words s) (unseen.take_inject x words s 0);
      request_taken = told-place child_request_taken child_request_taken child_request_taken-kept request_taken-same request_taken-ready (unseen.request_taken 0);
      reply_taken = told-place child_reply_taken child_reply_taken child_reply_taken-kept reply_taken-same reply_taken-ready (unseen.reply_taken 0);
      give_up = λ x. told-place (child_give_up x) (child_give_up x) (child_give_up-kept x) (give_up-same x) (give_up-ready x) (unseen.give_up x 0);
    }

    -- those after it
    after-places : (i : ℕ) (ns : Nodes) → k < i → EachRelated Place i (children ns) (children ns)
    after-places i no_nodes above = none_related
    after-places i (more_nodes n ns) above = first_related (after_it above refl) (after-places (i + 1) ns (omega (arith, above)))

    after-same : (i : ℕ) (ns ms : List Node) → EachRelated Place i ns ms → k < i → forget_nodes (nodes ns) ≡ forget_nodes (nodes ms)
    after-same i ns ms none_related above = refl
    after-same i ns ms (first_related {n = n} {m = m} {ns = ks} {ms = ls} (before_it below absent alike) rs) above = absurd (omega (arith, above, below))
    after-same i ns ms (first_related {n = n} {m = m} {ns = ks} {ms = ls} (at_it is there r alike) rs) above = absurd (omega (arith, above, is))
    after-same i ns ms (first_related {n = n} {m = m} {ns = ks} {ms = ls} (after_it behind alike) rs) above =
        ap (λ a. more_nodes a (forget_nodes (nodes ks))) alike ∙ ap (more_nodes (forget_node m)) (after-same (i + 1) ks ls rs (omega (arith, above)))

  -- ---- by whether the first child has it

  pub quieted-first : (n : Node) (ns : Nodes) → has_node here n ≡ true → quieted_among (more_nodes n ns) ≡ more_nodes (quieted n) ns
  quieted-first n ns there = ap (λ b. if b then more_nodes (quieted n) ns else more_nodes n (quieted_among ns)) there

  pub quieted-later : (n : Node) (ns : Nodes) → has_node here n ≡ false → quieted_among (more_nodes n ns) ≡ more_nodes n (quieted_among ns)
  quieted-later n ns absent = ap (λ b. if b then more_nodes (quieted n) ns else more_nodes n (quieted_among ns)) absent

  record PlacedFrom (i : ℕ) (ns : Nodes) : Type 0 where
    child : ℕ
    not_before : i ≤ child
    each : EachRelated (Place child) i (children ns) (children (quieted_among ns))

  placed : (i : ℕ) (ns : Nodes) → ReadyAmong ns → PlacedFrom i ns
  placed i no_nodes r = absurd r
  placed i (more_nodes n ns) (inl p) = record {
    child = i;
    not_before = omega arith;
    each = subst (λ l. EachRelated (Place i) i (n ∷ children ns) (children l)) (sym (quieted-first n ns p.0)) (first_related (at_it refl p.0 p.1 refl) (after-places i (i + 1) ns (omega arith)));
  }
  placed i (more_nodes n ns) (inr q) =
      let rest = placed (i + 1) ns q.1 in
      record {
        child = rest.child;
        not_before = omega (arith, rest.not_before);
        each = subst (λ l. EachRelated (Place rest.child) i (n ∷ children ns) (children l)) (sym (quieted-later n ns q.0)) (first_related (before_it (omega (arith, rest.not_before)) q.0 refl) rest.each);
      }

  -- what the children are again
  record ReadyAgain (ns ms : List Node) : Type 0 where
    ready : ReadyAmong (nodes ns)
    same : forget_nodes (nodes ms) ≡ forget_nodes (quieted_among (nodes ns))

  or-second : (a b : Bool) → a ≡ false → (a || b) ≡ true → b ≡ true
  or-second a b off or = sym (ap (λ z. z || b) off) ∙ or

  again : (k i : ℕ) (ns ms : List Node) → EachRelated (Place k) i ns ms → i ≤ k → has_among here (nodes ns) ≡ true → ReadyAgain ns ms
  again k i ns ms none_related low has = cc
  again k i ns ms (first_related {n = n} {m = m} {ns = ks} {ms = ls} (before_it below absent alike) rs) low has =
      let rest = again k (i + 1) ks ls rs (omega (arith, below)) (or-second (has_node here n) _ absent has) in
      record {
        ready = inr (absent, rest.ready);
        same = ap (λ a. more_nodes a (forget_nodes (nodes ls))) (sym alike) ∙ ap (more_nodes (forget_node n)) rest.same ∙ ap forget_nodes (sym (quieted-later n (nodes ks) absent));
      }
  again k i ns ms (first_related {n = n} {m = m} {ns = ks} {ms = ls} (at_it is there r alike) rs) low has = record {
    ready = inl (there, r);
    same = ap (λ a. more_nodes a (forget_nodes (nodes ls))) (sym alike) ∙ ap (more_nodes (forget_node (quieted n))) (sym (after-same k (i + 1) ks ls rs (omega (arith, is)))) ∙ ap forget_nodes (sym (quieted-first n (nodes ks) there));
  }
  again k i ns ms (first_related {n = n} {m = m} {ns = ks} {ms = ls} (after_it above alike) rs) low has = absurd (omega (arith, above, low))

  ready-among : (ns : Nodes) → ReadyAmong ns → has_among here ns ≡ true
  ready-among no_nodes r = absurd r
  ready-among (more_nodes n ns) (inl p) = ap (λ b. b || has_among here ns) p.0
  ready-among (more_nodes n ns) (inr q) = ap (λ b. b || has_among here ns) q.0 ∙ ready-among ns q.1

  -- ---- a turn of a bus

  pub record BusSwaps (o u : Outcome) : Type 0 where
    pub answer : u.answer ≡ o.answer
    pub ready : ReadyAmong (nodes o.kids)
    pub same : forget_node (dir_node u.parent (nodes u.kids)) ≡ forget_node (quieted (dir_node o.parent (nodes o.kids)))

  pub bus-swaps : (above : Stamp) (t : BusTurn) (d : DirValue) (ns : Nodes) → ReadyAmong ns → BusSwaps (bus_step above t d (children ns)) (bus_step above t d (children (quieted_among ns)))
  bus-swaps above t d ns r =
      let at = placed 0 ns r in
      let o = bus_step above t d (children ns) in
      let u = bus_step above t d (children (quieted_among ns)) in
      let turn : SameTurn (Place at.child) o u = bus_step-blind (Place at.child) (place-blind at.child) above above (children ns) (children (quieted_among ns)) at.each t d d refl in
      let keeps = bus_step-keeps above d (children ns) t in
      let has : has_among here (nodes o.kids) ≡ true = among-by_kept here o.kids (children ns) keeps.kids ∙ ap (has_among here) (nodes-children ns) ∙ ready-among ns r in
      let back = again at.child 0 o.kids u.kids turn.kids at.not_before has in
      record {
        answer = sym turn.answer;
        ready = back.ready;
        same = ap (λ p. dir_node p (forget_nodes (nodes u.kids))) (sym turn.parent) ∙ ap (dir_node (forget_dir o.parent)) back.same;
      }
