-- What is remembered of idle harts stays true in every turn.
use Rattle.std.proofs.Common.{◌≡◌, ◌≢◌, ℕ, zero, suc, ◌<◌, ◌≤◌, ◌++◌, ◌⊎◌, inl, inr, Bool, true, false, List, [], ◌∷◌, length, map, Option, Some, None, refl, sym, ap, subst, ◌∙◌, arith}
use Rattle.std.specs.Prelude.{nat_lt, slice_get, slice_set}
use Rattle.std.proofs.lemmas.Bool.{ltb-true, ltb-false}
use Rattle.std.proofs.lemmas.List.{append-nil, get_or_past, get_or-set_same, get_or-set_other, set-get_or, set_past}
use native.Mathlib.Decide.{ℕ_discrete}
use Rattle.ddm_tree.specs.DdmTypes.declared.answers.LogEntry.{LogEntry}
use Rattle.ddm_tree.specs.DdmTypes.declared.answers.TurnAnswer.{TurnAnswer}
use Rattle.ddm_tree.specs.DdmTypes.declared.keys.Key.{Key}
use Rattle.ddm_tree.specs.DdmTypes.declared.operations.HaltCause.{HaltCause}
use Rattle.ddm_tree.specs.DdmTypes.declared.keys.Stamp.{Stamp}
use Rattle.ddm_tree.specs.DdmTypes.declared.turns.Turn.{Turn}
use Rattle.ddm_tree.specs.DdmTypes.CodeMap.{CodeWord}
use Rattle.ddm_tree.specs.DdmTypes.ItemTable.{ItemTable}
use Rattle.ddm_tree.specs.DdmTypes.Keys.{key_on}
use Rattle.ddm_tree.specs.FlatModel.Hart.{ask_of}
use Rattle.ddm_tree.specs.TreeModel.declared.BusTurn.{BusTurn}
use Rattle.ddm_tree.specs.TreeModel.State.Values.{LeafValue, DirValue, Node, Nodes, leaf_node, dir_node, nodes, children, MachineValue, root_of}
use Rattle.ddm_tree.specs.TreeModel.State.Blank.{no_leaf, no_node}
use Rattle.ddm_tree.specs.TreeModel.State.Leaf.{buffer_full, free_way, waiting_item}
use Rattle.ddm_tree.specs.TreeModel.State.Shape.{skeleton}
use Rattle.ddm_tree.specs.TreeModel.Laws.{Kept, leaf_kept, dir_kept, kept_of}
use Rattle.ddm_tree.specs.TreeModel.Turns.Bus.{bus_judged, bus_step}
use Rattle.ddm_tree.specs.TreeModel.Turns.Children.{child_at}
use Rattle.ddm_tree.specs.TreeModel.Turns.Grant.{Judged, nothing_there, refused, granted, Outcome, outcome_of}
use Rattle.ddm_tree.specs.TreeModel.Turns.HartTurn.{Deed, has_halted, waits_for, halts, completes, fetches, upgrades, finds_buffer_full, Need, no_need, a_copy, no_other_copy, time, answer_of_deed, deed_by_need, deed_of, deed_to_fetch, deed_unless_halted, deed_unless_waiting, leaf_after_deed, leaf_step, need_of, replaces}
use Rattle.ddm_tree.specs.TreeModel.Turns.Machine.{bus_turn_of, named_by, turn_of, victim_of}
use Rattle.ddm_tree.specs.TreeModel.Turns.Tree.{Name, leaf_of_number, bus_of_number, is_named}
use Rattle.ddm_tree.specs.TreeModel.State.Place.{Where, at_top}
use Rattle.ddm_tree.proofs.TreeModel.BusKeeps.{bus_step-keeps}
use Rattle.ddm_tree.proofs.TreeModel.Children.{children-nodes, nodes-children}
use Rattle.ddm_tree.proofs.TreeModel.FrameKept.{turn-frame}
use Rattle.ddm_tree.specs.TreeRules.Bus.Rules.{IsTreeOk}
use Rattle.split_bus.specs.Outcomes.{is_granted}
use Rattle.ddm_tree.specs.declared.idle.Idle.{Idle}
use Rattle.ddm_tree.specs.Idle.{AreIdle, AreNoted, IsFarFrom, IsIdle, IsKnown, IsLeftOut, IsUntouched, answered_by, idle_answer, idle_for, idle_there, idle_told, is_seen, is_told, may_change, node_rests, rests_by, still_known}
use Rattle.ddm_tree.specs.Machine.{listed_path}
use Rattle.ddm_tree.specs.Path.{below, node_at, path_to, put_at, node_answer, node_turned}
use Rattle.ddm_tree.specs.Quiet.{AreApart, AreNear, touches_child}
use Rattle.ddm_tree.specs.Ready.{Leads}
use Rattle.ddm_tree.proofs.Along.{along}
use Rattle.ddm_tree.proofs.BonesKept.{bus-bones, put-bones}
use Rattle.ddm_tree.proofs.Lasting.{IsLasting, idle-rests, lasting, lasting-rests}
use Rattle.ddm_tree.proofs.QuietNear.{far-in}
use Rattle.ddm_tree.proofs.StillWaits.{step-still}
use Rattle.ddm_tree.proofs.Touched.{not-true, step-same}
use Rattle.ddm_tree.proofs.Untold.{step-untold}
use Rattle.ddm_tree.proofs.WaitsOn.{Ruled, nowhere, ruled-at, still-waits}

-- ---- an idle hart's deed has nothing to do with the moment and the victim

abbrev is_idle_deed : Deed → Bool
is_idle_deed (has_halted cause) = false
is_idle_deed (waits_for x) = true
is_idle_deed (halts cause) = false
is_idle_deed (completes c) = false
is_idle_deed (fetches x state way) = false
is_idle_deed (upgrades x words) = false
is_idle_deed finds_buffer_full = true

record IsIdleDeed (v : LeafValue) (now : Key) (i : Idle) (d : Deed) : Type 0 where
  idle : is_idle_deed d ≡ true
  answers : (later : Key) → answer_of_deed later v d ≡ idle_answer i
  leaves : leaf_after_deed v d ≡ v

told-deed : (v : LeafValue) (now : Key) (i : Idle) (d : Deed) → idle_told (answer_of_deed now v d) ≡ Some i → IsIdleDeed v now i d
told-deed v now i (has_halted cause) e = cc
told-deed v now i (waits_for x) e =
    let same : Idle.Waits x ≡ i = cc in
    record { idle = refl; answers = λ later. ap idle_answer same; leaves = refl }
told-deed v now i (halts cause) e = cc
told-deed v now i (completes c) e = cc
told-deed v now i (fetches x state way) e = cc
told-deed v now i (upgrades x words) e = cc
told-deed v now i finds_buffer_full e =
    let same : Idle.BufferFull v.number ≡ i = cc in
    record { idle = refl; answers = λ later. ap idle_answer same; leaves = refl }

module _ (code : List CodeWord) (items : ItemTable) (victim other : ℕ) (v : LeafValue) where
  replaces-idle : (x w u : ℕ) (state : _) (full : Bool) → is_idle_deed (replaces x state w full) ≡ true → replaces x state u full ≡ replaces x state w full
  replaces-idle x w u state true e = refl
  replaces-idle x w u state false e = cc

  fetch-idle : (x : ℕ) (state : _) (way : Option ℕ) → is_idle_deed (deed_to_fetch x state victim v way) ≡ true → deed_to_fetch x state other v way ≡ deed_to_fetch x state victim v way
  fetch-idle x state (Some way) e = refl
  fetch-idle x state None e = replaces-idle x _ _ state (buffer_full v) e

  need-idle : (n : Need) → is_idle_deed (deed_by_need code items victim v n) ≡ true → deed_by_need code items other v n ≡ deed_by_need code items victim v n
  need-idle no_need e = refl
  need-idle (a_copy x state) e = fetch-idle x state (free_way v.sizes x v.ways) e
  need-idle (no_other_copy x words) e = refl
  need-idle (time x) e = refl

  waiting-idle : (o : Option ℕ) → is_idle_deed (deed_unless_waiting code items victim v o) ≡ true → deed_unless_waiting code items other v o ≡ deed_unless_waiting code items victim v o
  waiting-idle (Some x) e = refl
  waiting-idle None e = need-idle (need_of (ask_of code items v.hart) v) e

  halted-idle : (o : _) → is_idle_deed (deed_unless_halted code items victim v o) ≡ true → deed_unless_halted code items other v o ≡ deed_unless_halted code items victim v o
  halted-idle (Some cause) e = refl
  halted-idle None e = waiting-idle (waiting_item v.ways v.buffer) e

  deed-idle : is_idle_deed (deed_of code items victim v) ≡ true → deed_of code items other v ≡ deed_of code items victim v
  unfolding deed_of
  deed-idle e = halted-idle v.hart.halt e

-- a hart that answers so is idle, and its leaf stays as it is
module _ (code : List CodeWord) (items : ItemTable) (now : Key) (victim : ℕ) (v : LeafValue) (i : Idle) (e : idle_told (leaf_step code items now victim v).answer ≡ Some i) where
  told-step : (later : Key) (other : ℕ) → leaf_step code items later other v ≡ record { answer = idle_answer i; leaf = v }
  unfolding leaf_step
  told-step later other =
      let deed = told-deed v now i (deed_of code items victim v) e in
      let like : deed_of code items other v ≡ deed_of code items victim v = deed-idle code items victim other v deed.idle in
      rw (like, deed.answers later, deed.leaves) refl

  pub told-idle : IsIdle code items i (leaf_node v)
  told-idle = record {
    each = λ w later other same.
        let at : v ≡ w = cc in
        subst (λ u. leaf_step code items later other u ≡ record { answer = idle_answer i; leaf = u }) at (told-step later other);
  }

-- ---- a hart that rests by what its leaf tells is idle

module _ (code : List CodeWord) (items : ItemTable) where
  -- its deed has nothing to do with the code, and leaves the leaf as it is
  record IsRest (v : LeafValue) (i : Idle) (d : Deed) : Type 0 where
    answers : (later : Key) → answer_of_deed later v d ≡ idle_answer i
    leaves : leaf_after_deed v d ≡ v

  rest-deed : (victim : ℕ) (v : LeafValue) (i : Idle) (halt : Option HaltCause) (waiting : Option ℕ) → waiting_item v.ways v.buffer ≡ waiting → rests_by halt waiting ≡ Some i → IsRest v i (deed_unless_halted code items victim v halt)
  rest-deed victim v i (Some cause) waiting is e =
      let same : Idle.Halted cause ≡ i = cc in
      record { answers = λ later. ap idle_answer same; leaves = refl }
  rest-deed victim v i None (Some x) is e =
      let same : Idle.Waits x ≡ i = cc in
      let deed : deed_unless_waiting code items victim v (waiting_item v.ways v.buffer) ≡ waits_for x = ap (deed_unless_waiting code items victim v) is in
      rw deed (record { answers = λ later. ap idle_answer same; leaves = refl })
  rest-deed victim v i None None is e = cc

  rest-step : (v : LeafValue) (i : Idle) → rests_by v.hart.halt (waiting_item v.ways v.buffer) ≡ Some i → (later : Key) (victim : ℕ) → leaf_step code items later victim v ≡ record { answer = idle_answer i; leaf = v }
  unfolding leaf_step deed_of
  rest-step v i e later victim =
      let deed = rest-deed victim v i v.hart.halt (waiting_item v.ways v.buffer) refl e in
      rw (deed.answers later, deed.leaves) refl

  pub rest-idle : (n : Node) (i : Idle) → node_rests n ≡ Some i → IsIdle code items i n
  rest-idle (leaf_node v) i e = record {
    each = λ w later victim same.
        let at : v ≡ w = cc in
        subst (λ u. leaf_step code items later victim u ≡ record { answer = idle_answer i; leaf = u }) at (rest-step v i e later victim);
  }
  rest-idle (dir_node d ns) i e = cc

-- ---- a node that is changed along a path, and the others

-- what stands so deep below two nodes is the same
abbrev pub SameFrom : ℕ → Node → Node → Type 0
SameFrom depth n m = (r : List ℕ) → depth ≤ length r → node_at r m ≡ node_at r n

-- a path from the changed node on, or a node that isn't changed
abbrev IsBeyond : ℕ → List ℕ → List ℕ → Type 0
IsBeyond depth p q = (r : List ℕ) × (q ≡ p ++ r) × (length r < depth)

beyond-more : (depth i : ℕ) (p q : List ℕ) → IsBeyond depth p q → IsBeyond depth (i ∷ p) (i ∷ q)
beyond-more depth i p q b = (b.0, ap (λ r. i ∷ r) b.1, b.2)

pub kid-same : (i : ℕ) (ns : List Node) (n : Node) → i < length ns → child_at i (slice_set ns i n) ≡ n
kid-same i ns n inside = get_or-set_same ns i n no_node inside

pub kid-other : (i j : ℕ) (ns : List Node) (n : Node) → j ≢ i → child_at j (slice_set ns i n) ≡ child_at j ns
kid-other i j ns n other = get_or-set_other ns i j n no_node other

pub put-kids : (i : ℕ) (p q : List ℕ) (j : ℕ) (d : DirValue) (ns : Nodes) (new : Node) → node_at (j ∷ q) (put_at (i ∷ p) new (dir_node d ns)) ≡ node_at q (child_at j (slice_set (children ns) i (put_at p new (child_at i (children ns)))))
put-kids i p q j d ns new = ap (λ ms. node_at q (child_at j ms)) (children-nodes (slice_set (children ns) i (put_at p new (child_at i (children ns)))))

module _ (depth : ℕ) (new : Node) where
  abbrev IsFramed : List ℕ → List ℕ → Node → Type 0
  IsFramed p q n = IsBeyond depth p q ⊎ (node_at q (put_at p new n) ≡ node_at q n)

  frame-here : (q : List ℕ) (n : Node) → SameFrom depth n new → (b : Bool) → nat_lt (length q) depth ≡ b → IsFramed [] q n
  frame-here q n same true e = inl (q, refl, ltb-true _ _ e)
  frame-here q n same false e = inr (same q (ltb-false _ _ e))

  -- the child that the path goes through
  frame-kid : (i : ℕ) (p q : List ℕ) (d : DirValue) (ns : Nodes) → IsFramed p q (child_at i (children ns)) → (b : Bool) → nat_lt i (length (children ns)) ≡ b → IsFramed (i ∷ p) (i ∷ q) (dir_node d ns)
  frame-kid i p q d ns (inl beyond) b e = inl (beyond-more depth i p q beyond)
  frame-kid i p q d ns (inr same) true e = inr (put-kids i p q i d ns new ∙ ap (node_at q) (kid-same i (children ns) _ (ltb-true _ _ e)) ∙ same)
  frame-kid i p q d ns (inr same) false e = inr (put-kids i p q i d ns new ∙ ap (λ ms. node_at q (child_at i ms)) (set_past (children ns) i _ (ltb-false _ _ e)))

  frame-at : (i j : ℕ) (p q : List ℕ) (d : DirValue) (ns : Nodes) (v : LeafValue) → node_at q (child_at j (children ns)) ≡ leaf_node v → (node_at q (child_at i (children ns)) ≡ leaf_node v → IsFramed p q (child_at i (children ns))) → Dec (j ≡ i) → IsFramed (i ∷ p) (j ∷ q) (dir_node d ns)
  frame-at i j p q d ns v leaf below (yes is) =
      let kid = frame-kid i p q d ns (below (ap (λ k. node_at q (child_at k (children ns))) (sym is) ∙ leaf)) (nat_lt i (length (children ns))) refl in
      subst (λ k. IsFramed (i ∷ p) (k ∷ q) (dir_node d ns)) (sym is) kid
  frame-at i j p q d ns v leaf below (no other) = inr (put-kids i p q j d ns new ∙ ap (node_at q) (kid-other i j (children ns) _ other))

  pub frame : (p q : List ℕ) (n : Node) (v : LeafValue) → node_at q n ≡ leaf_node v → SameFrom depth (node_at p n) new → IsFramed p q n
  frame [] q n v leaf same = frame-here q n same (nat_lt (length q) depth) refl
  frame (i ∷ p) q (leaf_node w) v leaf same = inr refl
  frame (i ∷ p) [] (dir_node d ns) v leaf same = cc
  frame (i ∷ p) (j ∷ q) (dir_node d ns) v leaf same = frame-at i j p q d ns v leaf (λ below. frame p q (child_at i (children ns)) v below same) (ℕ_discrete j i)

-- a node put where it stands
pub put-same : (p : List ℕ) (n : Node) → put_at p (node_at p n) n ≡ n
put-same [] n = refl
put-same (i ∷ p) (leaf_node v) = refl
put-same (i ∷ p) (dir_node d ns) =
    let kids : slice_set (children ns) i (put_at p (node_at p (child_at i (children ns))) (child_at i (children ns))) ≡ children ns = ap (slice_set (children ns) i) (put-same p (child_at i (children ns))) ∙ set-get_or (children ns) i no_node in
    ap (dir_node d) (ap nodes kids ∙ nodes-children ns)

-- a path that goes on
pub further : (p r : List ℕ) (n : Node) → node_at (p ++ r) n ≡ node_at r (node_at p n)
further [] r n = refl
further (i ∷ p) r n = further p r (child_at i (below n))

-- what was put where a directory stands is found there

module _ (d : DirValue) (ns : Nodes) (new : Node) where
  no-dir : (q : List ℕ) → node_at q no_node ≡ dir_node d ns → ⊥
  no-dir q is =
      let both : leaf_node no_leaf ≡ dir_node d ns = sym (nowhere q) ∙ is in
      cc

  found-kid : (i : ℕ) (p : List ℕ) (e : DirValue) (ms : Nodes) → (node_at p (put_at p new (child_at i (children ms))) ≡ new) → (b : Bool) → nat_lt i (length (children ms)) ≡ b → node_at p (child_at i (children ms)) ≡ dir_node d ns → node_at (i ∷ p) (put_at (i ∷ p) new (dir_node e ms)) ≡ new
  found-kid i p e ms kid true is there = put-kids i p p i e ms new ∙ ap (node_at p) (kid-same i (children ms) _ (ltb-true _ _ is)) ∙ kid
  found-kid i p e ms kid false is there = absurd (no-dir p (ap (node_at p) (sym (get_or_past (children ms) i no_node (ltb-false _ _ is))) ∙ there))

  pub put-found : (p : List ℕ) (n : Node) → node_at p n ≡ dir_node d ns → node_at p (put_at p new n) ≡ new
  put-found [] n there = refl
  put-found (i ∷ p) (leaf_node v) there = absurd (no-dir p there)
  put-found (i ∷ p) (dir_node e ms) there = found-kid i p e ms (put-found p (child_at i (children ms)) there) (nat_lt i (length (children ms))) refl there

-- what is so before and after the change is so beneath the changed node, also where the path to it leads nowhere
module _ (P : Node → Type 0) (new : Node) (r : List ℕ) where
  abbrev IsBeneath : List ℕ → Node → Type 0
  IsBeneath p n = P (node_at (p ++ r) n) → P (node_at (p ++ r) (put_at p new n))

  beneath-kid : (i : ℕ) (p : List ℕ) (d : DirValue) (ns : Nodes) → IsBeneath p (child_at i (children ns)) → (b : Bool) → nat_lt i (length (children ns)) ≡ b → IsBeneath (i ∷ p) (dir_node d ns)
  beneath-kid i p d ns kid true e was = subst P (sym (put-kids i p (p ++ r) i d ns new ∙ ap (node_at (p ++ r)) (kid-same i (children ns) _ (ltb-true _ _ e)))) (kid was)
  beneath-kid i p d ns kid false e was = subst P (sym (put-kids i p (p ++ r) i d ns new ∙ ap (λ ms. node_at (p ++ r) (child_at i ms)) (set_past (children ns) i _ (ltb-false _ _ e)))) was

  beneath : (p : List ℕ) (n : Node) → P (node_at r new) → IsBeneath p n
  beneath [] n there was = there
  beneath (i ∷ p) (leaf_node v) there was = was
  beneath (i ∷ p) (dir_node d ns) there was = beneath-kid i p d ns (beneath p (child_at i (children ns)) there) (nat_lt i (length (children ns))) refl was

-- ---- what a turn leaves below the node that it changes

pub leaf-same_from : (v w : LeafValue) → SameFrom 1 (leaf_node v) (leaf_node w)
leaf-same_from v w [] deep = absurd (omega arith)
leaf-same_from v w (i ∷ r) deep = refl

abbrev kept_below : Kept → List Node
kept_below (leaf_kept number sizes hart done) = []
kept_below (dir_kept bus level sizes count epoch ns) = children ns

below-kept : (n : Node) → below n ≡ kept_below (kept_of n)
below-kept (leaf_node v) = refl
below-kept (dir_node d ns) = refl

pub kept-at : (xs ys : List Node) (c : ℕ) → map kept_of ys ≡ map kept_of xs → kept_of (child_at c ys) ≡ kept_of (child_at c xs)
kept-at [] [] c same = refl
kept-at [] (y ∷ ys) c same = cc
kept-at (x ∷ xs) [] c same = cc
kept-at (x ∷ xs) (y ∷ ys) zero same = cc
kept-at (x ∷ xs) (y ∷ ys) (suc c) same =
    let rest : map kept_of ys ≡ map kept_of xs = cc in
    kept-at xs ys c rest

pub bus-same_from : (d e : DirValue) (ns : Nodes) (kids : List Node) → map kept_of kids ≡ map kept_of (children ns) → SameFrom 2 (dir_node d ns) (dir_node e (nodes kids))
bus-same_from d e ns kids same [] deep = absurd (omega arith)
bus-same_from d e ns kids same (i ∷ []) deep = absurd (omega arith)
bus-same_from d e ns kids same (i ∷ j ∷ r) deep =
    let below_is : below (child_at i kids) ≡ below (child_at i (children ns)) = below-kept (child_at i kids) ∙ ap kept_below (kept-at (children ns) kids i same) ∙ sym (below-kept (child_at i (children ns))) in
    ap (λ ms. node_at (j ∷ r) (child_at i ms)) (children-nodes kids) ∙ ap (λ ms. node_at r (child_at j ms)) below_is

-- ---- what a name leads to

abbrev pub Leaf : Node → Type 0
Leaf n = (v : LeafValue) × (n ≡ leaf_node v)

abbrev pub Dir : Node → Type 0
Dir n = (d : DirValue) × (ns : Nodes) × (n ≡ dir_node d ns)

named-leaf : (k : ℕ) (n : Node) → is_named (leaf_of_number k) n ≡ true → Leaf n
named-leaf k (leaf_node v) e = (v, refl)
named-leaf k (dir_node d ns) e = cc

named-dir : (k : ℕ) (n : Node) → is_named (bus_of_number k) n ≡ true → Dir n
named-dir k (leaf_node v) e = cc
named-dir k (dir_node d ns) e = (d, ns, refl)

pub leads-named : (name : Name) (p : List ℕ) (n : Node) → Leads name p n → is_named name (node_at p n) ≡ true
leads-named name p n leads = (along name (λ (w : Where) (m : Node). m) (λ (w : Where) (m : Node). m) at_top p n leads).named

pub leads-leaf : (k : ℕ) (p : List ℕ) (n : Node) → Leads (leaf_of_number k) p n → Leaf (node_at p n)
leads-leaf k p n leads = named-leaf k (node_at p n) (leads-named (leaf_of_number k) p n leads)

pub leads-dir : (k : ℕ) (p : List ℕ) (n : Node) → Leads (bus_of_number k) p n → Dir (node_at p n)
leads-dir k p n leads = named-dir k (node_at p n) (leads-named (bus_of_number k) p n leads)

leads-once : (name : Name) (p q : List ℕ) (n : Node) → Leads name p n → Leads name q n → q ≡ p
leads-once name p q n first second = some-same (sym second ∙ first)
  where
    some-same : Some q ≡ Some p → q ≡ p
    some-same e = cc

no-more : (p q r : List ℕ) → q ≡ p ++ r → length r < 1 → q ≡ p
no-more p q [] e short = e ∙ append-nil p
no-more p q (i ∷ r) e short = absurd (omega arith)

-- ---- idle harts after a change along a path

module _ (code : List CodeWord) (items : ItemTable) (n : Node) (p : List ℕ) (new : Node) where
  idle-unchanged : new ≡ node_at p n → (q : List ℕ) (i : Idle) → IsIdle code items i (node_at q n) → IsIdle code items i (node_at q (put_at p new n))
  idle-unchanged same q i idle = subst (λ m. IsIdle code items i (node_at q m)) (sym (put-same p n) ∙ ap (λ k. put_at p k n) (sym same)) idle

  leaf-kept : (v u w : LeafValue) (q : List ℕ) (i : Idle) → node_at p n ≡ leaf_node v → new ≡ leaf_node u → (IsIdle code items i (leaf_node v) → u ≡ v) → node_at q n ≡ leaf_node w → IsIdle code items i (node_at q n) → IsIdle code items i (node_at q (put_at p new n))
  leaf-kept v u w q i at becomes stays leaf idle = by (frame 1 new p q n w leaf same)
    where
      same : SameFrom 1 (node_at p n) new
      same = rw (at, becomes) (leaf-same_from v u)

      by : IsFramed 1 new p q n → IsIdle code items i (node_at q (put_at p new n))
      by (inl beyond) =
          let here : q ≡ p = no-more p q beyond.0 beyond.1 beyond.2 in
          let own : IsIdle code items i (leaf_node v) = subst (IsIdle code items i) (ap (λ r. node_at r n) here ∙ at) idle in
          idle-unchanged (becomes ∙ ap leaf_node (stays own) ∙ sym at) q i idle
      by (inr kept) = subst (IsIdle code items i) (sym kept) idle

  bus-kept : (d e : DirValue) (ns : Nodes) (kids : List Node) (w : LeafValue) (q : List ℕ) (i : Idle) → node_at p n ≡ dir_node d ns → new ≡ dir_node e (nodes kids) → map kept_of kids ≡ map kept_of (children ns) → node_at q n ≡ leaf_node w → ((c : ℕ) → q ≡ p ++ c ∷ [] → IsIdle code items i (node_at q (put_at p new n))) → IsIdle code items i (node_at q n) → IsIdle code items i (node_at q (put_at p new n))
  bus-kept d e ns kids w q i at becomes kept leaf child idle = by (frame 2 new p q n w leaf same)
    where
      same : SameFrom 2 (node_at p n) new
      same = rw (at, becomes) (bus-same_from d e ns kids kept)

      beyond-child : (r : List ℕ) → q ≡ p ++ r → length r < 2 → IsIdle code items i (node_at q (put_at p new n))
      beyond-child [] is short =
          let here : q ≡ p = is ∙ append-nil p in
          let both : leaf_node w ≡ dir_node d ns = sym leaf ∙ ap (λ r. node_at r n) here ∙ at in
          cc
      beyond-child (c ∷ []) is short = child c is
      beyond-child (c ∷ k ∷ r) is short = absurd (omega (arith, short))

      by : IsFramed 2 new p q n → IsIdle code items i (node_at q (put_at p new n))
      by (inl beyond) = beyond-child beyond.0 beyond.1 beyond.2
      by (inr stays) = subst (IsIdle code items i) (sym stays) idle

-- ---- a turn of a bus that grants nothing

outcome-ungranted : (d : DirValue) (ns : List Node) (j : Judged) → is_granted (outcome_of d ns j).answer ≡ false → dir_node (outcome_of d ns j).parent (nodes (outcome_of d ns j).kids) ≡ dir_node d (nodes ns)
outcome-ungranted d ns nothing_there e = refl
outcome-ungranted d ns (refused cause) e = refl
outcome-ungranted d ns (granted g) e = cc

pub step-ungranted : (above : Stamp) (t : BusTurn) (d : DirValue) (ns : List Node) → is_granted (bus_step above t d ns).answer ≡ false → dir_node (bus_step above t d ns).parent (nodes (bus_step above t d ns).kids) ≡ dir_node d (nodes ns)
unfolding bus_step
step-ungranted above t d ns e = outcome-ungranted d ns (bus_judged above d ns t) e

-- what a grant answers
granted-entry : (a : TurnAnswer) → is_granted a ≡ true → (entry : LogEntry) × (a ≡ TurnAnswer.Granted entry)
granted-entry (TurnAnswer.Retired op) e = cc
granted-entry (TurnAnswer.Issued kind x) e = cc
granted-entry (TurnAnswer.Waiting x) e = cc
granted-entry (TurnAnswer.Halted cause) e = cc
granted-entry (TurnAnswer.Granted entry) e = (entry, refl)
granted-entry TurnAnswer.Empty e = cc
granted-entry (TurnAnswer.Busy cause) e = cc

-- ---- a turn

module _ (code : List CodeWord) (items : ItemTable) (t : Turn) (p : List ℕ) (present : Stamp) (n : Node) (leads : Leads (named_by t) p n) where
  abbrev new : Node
  new = node_turned code items t p present (node_at p n)

  abbrev answer : TurnAnswer
  answer = node_answer code items t p present (node_at p n)

  -- of a hart
  module _ (k : ℕ) (hart : named_by t ≡ leaf_of_number k) where
    at-leaf : Leaf (node_at p n)
    at-leaf = leads-leaf k p n (subst (λ name. Leads name p n) hart leads)

    abbrev own : LeafValue
    own = at-leaf.0

    abbrev becomes : LeafValue
    becomes = (leaf_step code items (key_on present p own.done) (victim_of t) own).leaf

    new-leaf : new ≡ leaf_node becomes
    new-leaf = ap (node_turned code items t p present) at-leaf.1

    answer-leaf : answer ≡ (leaf_step code items (key_on present p own.done) (victim_of t) own).answer
    answer-leaf = ap (node_answer code items t p present) at-leaf.1

    idle-stays : (i : Idle) → IsIdle code items i (leaf_node own) → becomes ≡ own
    idle-stays i idle = ap (λ o. o.leaf) (idle.each own (key_on present p own.done) (victim_of t) refl)

    idle-answers : (i : Idle) → IsIdle code items i (leaf_node own) → answer ≡ idle_answer i
    idle-answers i idle = answer-leaf ∙ ap (λ o. o.answer) (idle.each own (key_on present p own.done) (victim_of t) refl)

    told-own : (i : Idle) → idle_told answer ≡ Some i → IsIdle code items i (leaf_node own)
    told-own i e = told-idle code items (key_on present p own.done) (victim_of t) own i (ap idle_told (sym answer-leaf) ∙ e)

    idle-new : (i : Idle) → IsIdle code items i (leaf_node own) → new ≡ node_at p n
    idle-new i idle = new-leaf ∙ ap leaf_node (idle-stays i idle) ∙ sym at-leaf.1

    hart-kept : (q : List ℕ) (i : Idle) (w : LeafValue) → node_at q n ≡ leaf_node w → IsIdle code items i (node_at q n) → IsIdle code items i (node_at q (put_at p new n))
    hart-kept q i w leaf idle = leaf-kept code items n p new own becomes w q i at-leaf.1 new-leaf (idle-stays i) leaf idle

    hart-told : (q : List ℕ) (i : Idle) → Leads (leaf_of_number k) q n → idle_told answer ≡ Some i → IsIdle code items i (node_at q (put_at p new n))
    hart-told q i there e =
        let idle = told-own i e in
        let here : q ≡ p = leads-once (leaf_of_number k) p q n (subst (λ name. Leads name p n) hart leads) there in
        idle-unchanged code items n p new (idle-new i idle) q i (subst (IsIdle code items i) (sym at-leaf.1 ∙ ap (λ r. node_at r n) (sym here)) idle)

  -- of a bus
  module _ (b : ℕ) (bus : named_by t ≡ bus_of_number b) where
    at-dir : Dir (node_at p n)
    at-dir = leads-dir b p n (subst (λ name. Leads name p n) bus leads)

    abbrev over : DirValue
    over = at-dir.0

    abbrev kids : Nodes
    kids = at-dir.1

    abbrev outcome : Outcome
    outcome = bus_step present (bus_turn_of t) over (children kids)

    new-dir : new ≡ dir_node outcome.parent (nodes outcome.kids)
    new-dir = ap (node_turned code items t p present) at-dir.2

    answer-dir : answer ≡ outcome.answer
    answer-dir = ap (node_answer code items t p present) at-dir.2

    new-bones : skeleton new ≡ skeleton (node_at p n)
    new-bones = ap skeleton new-dir ∙ bus-bones over kids outcome (bus_step-keeps present over (children kids) (bus_turn_of t)) ∙ ap skeleton (sym at-dir.2)

    new-ungranted : is_granted answer ≡ false → new ≡ node_at p n
    new-ungranted e = new-dir ∙ step-ungranted present (bus_turn_of t) over (children kids) (ap is_granted (sym answer-dir) ∙ e) ∙ ap (dir_node over) (nodes-children kids) ∙ sym at-dir.2

    -- a leaf elsewhere, one of this bus that the grant didn't touch, or one of which nothing is known that it may have changed
    abbrev IsApartOr : List ℕ → Idle → Option ℕ → Type 0
    IsApartOr q i o = AreApart q p ⊎ (((c : ℕ) → q ≡ p ++ c ∷ [] → touches_child c answer ≡ false) ⊎ (may_change (Some i) o ≡ false))

    -- a child that the grant didn't touch
    child-same : (q : List ℕ) (i : Idle) (c : ℕ) → touches_child c answer ≡ false → q ≡ p ++ c ∷ [] → IsIdle code items i (node_at q n) → IsIdle code items i (node_at q (put_at p new n))
    child-same q i c untouched is idle =
        let kid : child_at c outcome.kids ≡ child_at c (children kids) = step-same present over (children kids) c (bus_turn_of t) (ap (touches_child c) (sym answer-dir) ∙ untouched) in
        let same : node_at (c ∷ []) new ≡ node_at q n = ap (λ m. child_at c (below m)) new-dir ∙ ap (child_at c) (children-nodes outcome.kids) ∙ kid ∙ ap (λ m. child_at c (below m)) (sym at-dir.2) ∙ sym (further p (c ∷ []) n) ∙ ap (λ r. node_at r n) (sym is) in
        let there : IsIdle code items i (node_at (c ∷ []) new) = subst (IsIdle code items i) (sym same) idle in
        subst (λ r. IsIdle code items i (node_at r (put_at p new n))) (sym is) (beneath (IsIdle code items i) new (c ∷ []) p n there (subst (λ r. IsIdle code items i (node_at r n)) is idle))

    -- where the rules are kept before and after
    module _ (count : ℕ) (ruled : IsTreeOk count n) (later : IsTreeOk count (put_at p new n)) where
      -- a child waits on for what wasn't answered
      child-lasting : (entry : LogEntry) (c : ℕ) → answer ≡ TurnAnswer.Granted entry → IsLasting (answered_by entry) (child_at c (children kids)) (child_at c outcome.kids)
      child-lasting entry c grants =
          let is : (bus_step present (bus_turn_of t) over (children kids)).answer ≡ TurnAnswer.Granted entry = sym answer-dir ∙ grants in
          let below_old : node_at (p ++ c ∷ []) n ≡ child_at c (children kids) = further p (c ∷ []) n ∙ ap (λ m. child_at c (below m)) at-dir.2 in
          let below_new : node_at (p ++ c ∷ []) (put_at p new n) ≡ child_at c outcome.kids = further p (c ∷ []) (put_at p new n) ∙ ap (node_at (c ∷ [])) (put-found over kids new p n at-dir.2 ∙ new-dir) ∙ ap (child_at c) (children-nodes outcome.kids) in
          let before = subst (Ruled count) below_old (ruled-at count (p ++ c ∷ []) n ruled) in
          let after = subst (Ruled count) below_new (ruled-at count (p ++ c ∷ []) (put_at p new n) later) in
          lasting entry _ _ ((step-untold present over (children kids) (bus_turn_of t) entry is).each c) (λ none. still-waits count entry.item _ _ before after ((step-still present over (children kids) (bus_turn_of t) entry is none).each c))

      -- a leaf of the bus that granted what may not have answered it
      child-kept : (entry : LogEntry) (q : List ℕ) (i : Idle) (w : LeafValue) (c : ℕ) → answer ≡ TurnAnswer.Granted entry → may_change (Some i) (answered_by entry) ≡ false → node_at q n ≡ leaf_node w → q ≡ p ++ c ∷ [] → IsIdle code items i (node_at q n) → IsIdle code items i (node_at q (put_at p new n))
      child-kept entry q i w c grants stays leaf is idle =
          let at : node_at q n ≡ child_at c (children kids) = ap (λ r. node_at r n) is ∙ further p (c ∷ []) n ∙ ap (λ m. child_at c (below m)) at-dir.2 in
          let rests : node_rests (child_at c (children kids)) ≡ Some i = ap node_rests (sym at) ∙ idle-rests code items (key_on present p w.done) (answered_by entry) w i (node_at q n) leaf stays idle in
          let kid : node_at (c ∷ []) new ≡ child_at c outcome.kids = ap (λ m. child_at c (below m)) new-dir ∙ ap (child_at c) (children-nodes outcome.kids) in
          let rests_later : node_rests (node_at (c ∷ []) new) ≡ Some i = ap node_rests kid ∙ lasting-rests (answered_by entry) _ _ i (child-lasting entry c grants) stays rests in
          let there : IsIdle code items i (node_at (c ∷ []) new) = rest-idle code items (node_at (c ∷ []) new) i rests_later in
          subst (λ r. IsIdle code items i (node_at r (put_at p new n))) (sym is) (beneath (IsIdle code items i) new (c ∷ []) p n there (subst (λ r. IsIdle code items i (node_at r n)) is idle))

      granted-kept : (entry : LogEntry) (q : List ℕ) (i : Idle) (w : LeafValue) → answer ≡ TurnAnswer.Granted entry → node_at q n ≡ leaf_node w → IsApartOr q i (answered_by entry) → IsIdle code items i (node_at q n) → (c : ℕ) → q ≡ p ++ c ∷ [] → IsIdle code items i (node_at q (put_at p new n))
      granted-kept entry q i w grants leaf (inl apart) idle c is = absurd (apart.child c is)
      granted-kept entry q i w grants leaf (inr (inl untouched)) idle c is = child-same q i c (untouched c is) is idle
      granted-kept entry q i w grants leaf (inr (inr stays)) idle c is = child-kept entry q i w c grants stays leaf is idle

      bus-turn-kept : (q : List ℕ) (i : Idle) (w : LeafValue) → node_at q n ≡ leaf_node w → ((entry : LogEntry) → answer ≡ TurnAnswer.Granted entry → IsApartOr q i (answered_by entry)) → IsIdle code items i (node_at q n) → IsIdle code items i (node_at q (put_at p new n))
      bus-turn-kept q i w leaf other idle =
          elim (is_granted answer) as (λ g. is_granted answer ≡ g → IsIdle code items i (node_at q (put_at p new n))) [
            | true ↦ λ is.
                let grant = granted-entry answer is in
                bus-kept code items n p new over outcome.parent kids outcome.kids w q i at-dir.2 new-dir (bus_step-keeps present over (children kids) (bus_turn_of t)).kids leaf (granted-kept grant.0 q i w grant.1 leaf (other grant.0 grant.1) idle) idle
            | false ↦ λ is. idle-unchanged code items n p new (new-ungranted is) q i idle
          ] refl

  module _ (bus_leaves leaf_paths bus_paths : List (List ℕ)) (before : List (Option Idle)) (listed : listed_path (named_by t) leaf_paths bus_paths ≡ Some p) (near : AreNear bus_leaves bus_paths leaf_paths) (paths : (k : ℕ) (q : List ℕ) → Leads (leaf_of_number k) q n → slice_get leaf_paths k ≡ Some q) (idle : AreIdle code items before n n) (count : ℕ) (ruled : IsTreeOk count n) (later : IsTreeOk count (put_at p new n)) where
    -- of a bus: where something is granted on it, a leaf is none near it or none that was touched, or what is known of it stays
    module _ (b k : ℕ) (i : Idle) (q : List ℕ) (is : named_by t ≡ bus_of_number b) (there : Leads (leaf_of_number k) q n) where
      bus-listed : slice_get bus_paths b ≡ Some p
      bus-listed = subst (λ name. listed_path name leaf_paths bus_paths ≡ Some p) is listed

      far : IsFarFrom bus_leaves b k → AreApart q p
      far none = far-in bus_leaves bus_paths leaf_paths b p bus-listed near k q (paths k q there) none

      -- the same path leads to it after the turn
      still-leads : Leads (leaf_of_number k) q (put_at p new n)
      still-leads = ap (path_to (leaf_of_number k)) (put-bones p new n (new-bones b is)) ∙ there

      left-out : IsLeftOut answer bus_paths (put_at p new n) b k → (c : ℕ) → q ≡ p ++ c ∷ [] → touches_child c answer ≡ false
      left-out none c at = not-true _ (λ touched. none p bus-listed c touched (subst (λ r. Leads (leaf_of_number k) r (put_at p new n)) at still-leads))

      apart-or : (o : Option ℕ) → IsFarFrom bus_leaves b k ⊎ (IsLeftOut answer bus_paths (put_at p new n) b k ⊎ (may_change (Some i) o ≡ false)) → IsApartOr b is q i o
      apart-or o (inl none) = inl (far none)
      apart-or o (inr (inl none)) = inr (inl (left-out none))
      apart-or o (inr (inr stays)) = inr (inr stays)

      apart-by : IsUntouched t answer bus_leaves bus_paths (put_at p new n) k i → (entry : LogEntry) → answer ≡ TurnAnswer.Granted entry → IsApartOr b is q i (answered_by entry)
      apart-by unchanged entry grants = apart-or (answered_by entry) (unchanged entry b grants is)

    turn-kept : (name : Name) → named_by t ≡ name → (k : ℕ) (i : Idle) (q : List ℕ) → slice_get before k ≡ Some (Some i) → Leads (leaf_of_number k) q n → IsUntouched t answer bus_leaves bus_paths (put_at p new n) k i → IsIdle code items i (node_at q (put_at p new n))
    turn-kept (leaf_of_number j) is k i q known there unchanged =
        let leaf = leads-leaf k q n there in
        hart-kept j is q i leaf.0 leaf.1 (idle.each k i q known there)
    turn-kept (bus_of_number b) is k i q known there unchanged =
        let leaf = leads-leaf k q n there in
        bus-turn-kept b is count ruled later q i leaf.0 leaf.1 (apart-by b k i q is there unchanged) (idle.each k i q known there)

    known-idle : (k : ℕ) (i : Idle) (q : List ℕ) → IsKnown t answer bus_leaves bus_paths leaf_paths (put_at p new n) before k i → Leads (leaf_of_number k) q n → IsIdle code items i (node_at q (put_at p new n))
    known-idle k i q (is_told own says) there = hart-told k own q i there says
    known-idle k i q (is_seen seen) there = rest-idle code items (node_at q (put_at p new n)) i (seen q (paths k q there))
    known-idle k i q (still_known known other) there = turn-kept (named_by t) refl k i q known there other

    -- what is noted is so after the turn
    pub noted-idle : (after : List (Option Idle)) → AreNoted t answer bus_leaves bus_paths leaf_paths (put_at p new n) before after → AreIdle code items after n (put_at p new n)
    noted-idle after noted = record { each = λ k i q known there. known-idle k i q (noted.each k i known) there }

-- ---- a turn of a hart that is known to be idle

known-at : (o : Option (Option Idle)) (i : Idle) → idle_there o ≡ Some i → o ≡ Some (Some i)
known-at None i e = cc
known-at (Some known) i e = ap Some e

module _ (code : List CodeWord) (items : ItemTable) (n : Node) (before : List (Option Idle)) (idle : AreIdle code items before n n) (present : Stamp) (p : List ℕ) (i : Idle) where
  pub record IsSpared (t : Turn) : Type 0 where
    pub answers : node_answer code items t p present (node_at p n) ≡ idle_answer i
    pub leaves : put_at p (node_turned code items t p present (node_at p n)) n ≡ n

  pub spared : (t : Turn) → Leads (named_by t) p n → idle_for t before ≡ Some i → IsSpared t
  spared (Turn.Hart hart victim) leads e =
      let t : Turn = Turn.Hart hart victim in
      let leaf = leads-leaf hart p n leads in
      let here = idle.each hart i p (known-at (slice_get before hart) i e) leads in
      let own : IsIdle code items i (leaf_node leaf.0) = subst (IsIdle code items i) leaf.1 here in
      record {
        answers = idle-answers code items t p present n leads hart refl i (subst (IsIdle code items i) (at-leaf code items t p present n leads hart refl).1 here);
        leaves = ap (λ k. put_at p k n) (idle-new code items t p present n leads hart refl i (subst (IsIdle code items i) (at-leaf code items t p present n leads hart refl).1 here)) ∙ put-same p n;
      }
  spared (Turn.Down bus) leads e = cc
  spared (Turn.Request bus child) leads e = cc
  spared (Turn.Reply bus child) leads e = cc
  spared (Turn.Leave bus child choice) leads e = cc

-- ---- what a machine remembers

-- after a turn: of the tree that it left
pub idle-after : (code : List CodeWord) (items : ItemTable) (t : Turn) (m : MachineValue) (idle kept : List (Option Idle)) (left now : Node) → kept ≡ idle → now ≡ root_of (turn_of t m).machine → now ≡ left → AreIdle code items idle (root_of m) left → AreIdle code items kept now now
idle-after code items t m idle kept left now same becomes is remembered =
    let bones : skeleton now ≡ skeleton (root_of m) = ap skeleton becomes ∙ ap (λ f. f.bones) (turn-frame t m) in
    record { each = λ k i path known there. subst (λ n. IsIdle code items i (node_at path n)) (sym is) (remembered.each k i path (ap (λ xs. slice_get xs k) (sym same) ∙ known) (ap (path_to (leaf_of_number k)) (sym bones) ∙ there)) }

-- where nothing is remembered
pub nothing-idle : (code : List CodeWord) (items : ItemTable) (idle kept : List (Option Idle)) (n after : Node) → kept ≡ idle → ((k : ℕ) (i : Idle) → slice_get idle k ≡ Some (Some i) → ⊥) → AreIdle code items kept n after
nothing-idle code items idle kept n after same none = record { each = λ k i path known there. absurd (none k i (ap (λ xs. slice_get xs k) (sym same) ∙ known)) }
