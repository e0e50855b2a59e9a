-- A run within a part of the tree is one of the machine: each of its turns names a bus that is in this part alone.
-- Letters: w is where a part is, n, m and o are parts, b the number of a bus, d a directory over the children ns, g a
-- grant.
use Rattle.std.proofs.Common.{◌≡◌, ℕ, zero, suc, ◌+◌, ◌<◌, true, false, List, [], ◌∷◌, ◌++◌, length, Some, refl, sym, ap, subst, ◌∙◌, arith, get_or-set_same, append_assoc}
use Rattle.std.specs.Prelude.{is_some, nat_eq, slice_set, map}
use Rattle.std.specs.Cmp.Derive.{both_true}
use Rattle.std.proofs.lemmas.Bool.{and_parts, eq-eqb}
use Rattle.std.proofs.lemmas.List.{length-set}
use Rattle.serving_model.specs.DdmTypes.CodeMap.{CodeWord}
use Rattle.serving_model.specs.DdmTypes.ItemTable.{ItemTable}
use Rattle.serving_model.specs.DdmTypes.declared.answers.LogEntry.{LogEntry}
use Rattle.serving_model.specs.DdmTypes.declared.answers.TurnAnswer.{TurnAnswer}
use Rattle.serving_model.specs.DdmTypes.declared.keys.Stamp.{Stamp}
use Rattle.serving_model.specs.DdmTypes.declared.turns.Turn.{Turn}
use Rattle.serving_model.specs.TreeModel.declared.BusTurn.{BusTurn}
use Rattle.serving_model.specs.TreeModel.State.Values.{DirSizes, DirValue, Node, leaf_node, dir_node, more_nodes, nodes, children, MachineValue, root_of}
use Rattle.serving_model.specs.TreeModel.State.Blank.{no_node}
use Rattle.serving_model.specs.TreeModel.State.Place.{Where, at_top, at_child, stamp_above, where_path, spot_in}
use Rattle.serving_model.specs.TreeModel.State.Shape.{Skeleton, Skeletons, leaf_bone, dir_bone, no_bones, more_bones, skeleton, skeletons, Frame, IsShaped, buses_differ, are_distinct, buses_of}
use Rattle.serving_model.specs.TreeModel.Turns.Grant.{Grant, granted, Outcome, outcome_of}
use Rattle.serving_model.specs.TreeModel.Turns.Children.{child_at}
use Rattle.serving_model.specs.TreeModel.Turns.Bus.{bus_judged, bus_step}
use Rattle.serving_model.specs.TreeModel.Turns.Tree.{Name, bus_of_number, has_node, read_in, read_among, changed_in, changed_among}
use Rattle.serving_model.specs.TreeModel.Turns.Machine.{named_by, bus_turn_of, answer_here, node_after, turn_root, with_root, Turned, turn_of, run_of}
use Rattle.bus_laws.specs.TreeModel.Laws.{Kept, leaf_kept, dir_kept, kept_of}
use Rattle.serving_model.proofs.TreeModel.BusKeeps.{bus_step-keeps}
use Rattle.serving_model.proofs.TreeModel.Children.{children-nodes}
use Rattle.serving_model.proofs.TreeModel.FrameKept.{turn-frame}
use Rattle.serving_model.proofs.TreeModel.TurnChanges.{turn-answered, turn-root}
use Rattle.serving_model.proofs.TreeModel.NamedNode.{read_in-is_some}
use Rattle.serving_model.specs.Parts.{Runs, stays, turned, below, is_granted, BringsTo}
use Rattle.serving_model.proofs.Names.{lower-lack, other-bus, child-distinct}

-- ---- the skeleton stays

abbrev kept_skeleton : Kept → Skeleton
kept_skeleton (leaf_kept number sizes hart done) = leaf_bone number sizes
kept_skeleton (dir_kept bus level sizes count epoch ns) = dir_bone bus level sizes (skeletons ns)

abbrev kept_skeletons : List Kept → Skeletons
kept_skeletons [] = no_bones
kept_skeletons (k ∷ ks) = more_bones (kept_skeleton k) (kept_skeletons ks)

skeleton-kept : (n : Node) → skeleton n ≡ kept_skeleton (kept_of n)
skeleton-kept (leaf_node v) = refl
skeleton-kept (dir_node d ns) = refl

skeletons-kept : (ns : List Node) → skeletons (nodes ns) ≡ kept_skeletons (map kept_of ns)
skeletons-kept [] = refl
skeletons-kept (n ∷ ns) = rw (skeleton-kept n, skeletons-kept ns) refl

bone-same : (b c k l : ℕ) (s r : DirSizes) (ns ms : Skeletons) → b ≡ c → k ≡ l → s ≡ r → ns ≡ ms → dir_bone b k s ns ≡ dir_bone c l r ms
bone-same b c k l s r ns ms bus level sizes bones = rw (bus, level, sizes, bones) refl

step-is : (above : Stamp) (d : DirValue) (ns : List Node) (t : BusTurn) (g : Grant) → bus_judged above d ns t ≡ granted g → bus_step above t d ns ≡ outcome_of d ns (granted g)
unfolding bus_step
step-is above d ns t g judged = ap (outcome_of d ns) judged

granted-skeleton : (above : Stamp) (d : DirValue) (ns : List Node) (t : BusTurn) (g : Grant) → bus_judged above d ns t ≡ granted g → skeleton (dir_node g.parent (nodes g.kids)) ≡ skeleton (dir_node d (nodes ns))
granted-skeleton above d ns t g judged =
    let is = step-is above d ns t g judged in
    let keeps = bus_step-keeps above d ns t in
    let kids : map kept_of g.kids ≡ map kept_of ns = sym (ap (λ (o : Outcome). map kept_of o.kids) is) ∙ keeps.kids in
    bone-same _ _ _ _ _ _ _ _ (sym (ap (λ (o : Outcome). o.parent.bus) is) ∙ keeps.bus) (sym (ap (λ (o : Outcome). o.parent.level) is) ∙ keeps.level) (sym (ap (λ (o : Outcome). o.parent.sizes) is) ∙ keeps.sizes) (skeletons-kept g.kids ∙ ap kept_skeletons kids ∙ sym (skeletons-kept ns))

set-skeleton : (ns : List Node) (i : ℕ) (c : Node) → i < length ns → skeleton c ≡ skeleton (child_at i ns) → skeletons (nodes (slice_set ns i c)) ≡ skeletons (nodes ns)
set-skeleton [] i c l same = refl
set-skeleton (m ∷ ns) zero c l same = ap (λ b. more_bones b (skeletons (nodes ns))) same
set-skeleton (m ∷ ns) (suc i) c l same = ap (more_bones (skeleton m)) (set-skeleton ns i c (omega (arith, l)) same)

pub runs-skeleton : {w : Where} {n m : Node} {ts : List Turn} → Runs w n ts m → skeleton m ≡ skeleton n
runs-skeleton stays = refl
runs-skeleton (turned {w = w} {d = d} {t = t} ns g named judged rest) = runs-skeleton rest ∙ granted-skeleton (stamp_above w) d ns (bus_turn_of t) g judged
runs-skeleton (below {d = d} ns i ts c l inner rest) = runs-skeleton rest ∙ ap (dir_bone d.bus d.level d.sizes) (set-skeleton ns i c l (runs-skeleton inner))

-- ---- one run after the other

pub runs-on : {w : Where} {n m o : Node} {ts us : List Turn} → Runs w n ts m → Runs w m us o → Runs w n (ts ++ us) o
runs-on stays r = r
runs-on (turned ns g named judged rest) r = turned ns g named judged (runs-on rest r)
runs-on {o = o} {us = vs} (below {w = w} {d = d} {us = us} ns i ts c l inner rest) r = subst (λ l. Runs w (dir_node d (nodes ns)) l o) (sym (append_assoc ts us vs)) (below ns i ts c l inner (runs-on rest r))

-- ---- turn after turn

module _ (code : List CodeWord) (items : ItemTable) where
  -- this turn of a bus is granted in the part
  pub record IsGranted (t : Turn) (w : Where) (n : Node) : Type 0 where
    pub bus : ℕ
    pub named : named_by t ≡ bus_of_number bus
    pub entry : LogEntry
    pub answers : read_in (named_by t) (answer_here code items t) w n ≡ Some (TurnAnswer.Granted entry)
    pub bones : skeleton (changed_in (named_by t) (node_after code items t) w n) ≡ skeleton n

  abbrev pub after : Turn → Where → Node → Node
  after t w n = changed_in (named_by t) (node_after code items t) w n

  abbrev pub Steps : List Turn → Where → Node → Node → Type 0
  Steps [] w n m = n ≡ m
  Steps (t ∷ ts) w n m = IsGranted t w n × Steps ts w (after t w n) m

  steps-on : (ts us : List Turn) (w : Where) (n m o : Node) → Steps ts w n m → Steps us w m o → Steps (ts ++ us) w n o
  steps-on [] us w n m o same rest = subst (λ k. Steps us w k o) (sym same) rest
  steps-on (t ∷ ts) us w n m o steps rest = (steps.0, steps-on ts us w (after t w n) m o steps.1 rest)

  -- ---- a child

  module _ (name : Name) where
    pub read-child : {A : Type 0} (read : Where → Node → A) (path : List ℕ) (d : DirValue) (j i : ℕ) (ns : List Node) → i < length ns → has_node name (child_at i ns) ≡ true → ((k : ℕ) → k < i → has_node name (child_at k ns) ≡ false) → read_among name read path d j (nodes ns) ≡ read_in name read (at_child (spot_in path d (j + i))) (child_at i ns)
    read-child read path d j i [] l has lower = absurd (omega (arith, l))
    read-child read path d j zero (m ∷ ns) l has lower =
        let same : j ≡ j + 0 = omega arith in
        rw has (ap (λ k. read_in name read (at_child (spot_in path d k)) m) same)
    read-child read path d j (suc i) (m ∷ ns) l has lower =
        let none : has_node name m ≡ false = lower 0 (omega arith) in
        let same : (j + 1) + i ≡ j + suc i = omega arith in
        rw none (read-child read path d (j + 1) i ns (omega (arith, l)) has (λ k lt. lower (suc k) (omega (arith, lt))) ∙ ap (λ k. read_in name read (at_child (spot_in path d k)) (child_at i ns)) same)

    pub change-child : (change : Where → Node → Node) (path : List ℕ) (d : DirValue) (j i : ℕ) (ns : List Node) → i < length ns → has_node name (child_at i ns) ≡ true → ((k : ℕ) → k < i → has_node name (child_at k ns) ≡ false) → changed_among name change path d j (nodes ns) ≡ nodes (slice_set ns i (changed_in name change (at_child (spot_in path d (j + i))) (child_at i ns)))
    change-child change path d j i [] l has lower = absurd (omega (arith, l))
    change-child change path d j zero (m ∷ ns) l has lower =
        let same : j ≡ j + 0 = omega arith in
        rw has (ap (λ k. more_nodes (changed_in name change (at_child (spot_in path d k)) m) (nodes ns)) same)
    change-child change path d j (suc i) (m ∷ ns) l has lower =
        let none : has_node name m ≡ false = lower 0 (omega arith) in
        let same : (j + 1) + i ≡ j + suc i = omega arith in
        rw none (ap (more_nodes m) (change-child change path d (j + 1) i ns (omega (arith, l)) has (λ k lt. lower (suc k) (omega (arith, lt))) ∙ ap (λ k. nodes (slice_set ns i (changed_in name change (at_child (spot_in path d k)) (child_at i ns)))) same))

  -- where the bus is in child i alone
  module _ (b : ℕ) (d : DirValue) (i : ℕ) (ns : List Node) (l : i < length ns) (other : nat_eq d.bus b ≡ false) (has : has_node (bus_of_number b) (child_at i ns) ≡ true) (lower : (k : ℕ) → k < i → has_node (bus_of_number b) (child_at k ns) ≡ false) (w : Where) where
    read-below : {A : Type 0} (read : Where → Node → A) → read_in (bus_of_number b) read w (dir_node d (nodes ns)) ≡ read_in (bus_of_number b) read (at_child (spot_in (where_path w) d i)) (child_at i ns)
    read-below read =
        let same : 0 + i ≡ i = omega arith in
        rw other (read-child (bus_of_number b) read (where_path w) d 0 i ns l has lower ∙ ap (λ k. read_in (bus_of_number b) read (at_child (spot_in (where_path w) d k)) (child_at i ns)) same)

    change-below : (change : Where → Node → Node) → changed_in (bus_of_number b) change w (dir_node d (nodes ns)) ≡ dir_node d (nodes (slice_set ns i (changed_in (bus_of_number b) change (at_child (spot_in (where_path w) d i)) (child_at i ns))))
    change-below change =
        let same : 0 + i ≡ i = omega arith in
        rw other (ap (dir_node d) (change-child (bus_of_number b) change (where_path w) d 0 i ns l has lower ∙ ap (λ k. nodes (slice_set ns i (changed_in (bus_of_number b) change (at_child (spot_in (where_path w) d k)) (child_at i ns)))) same))

  set-same : (ns : List Node) (i : ℕ) → slice_set ns i (child_at i ns) ≡ ns
  set-same [] i = refl
  set-same (m ∷ ns) zero = refl
  set-same (m ∷ ns) (suc i) = ap (λ ms. m ∷ ms) (set-same ns i)

  set-again : (ns : List Node) (i : ℕ) (k c : Node) → slice_set (slice_set ns i k) i c ≡ slice_set ns i c
  set-again [] i k c = refl
  set-again (m ∷ ns) zero k c = refl
  set-again (m ∷ ns) (suc i) k c = ap (λ ms. m ∷ ms) (set-again ns i k c)

  -- the turns of a child, seen from the bus
  lift : (ts : List Turn) (w : Where) (d : DirValue) (ns : List Node) (i : ℕ) (rest : List ℕ) (c : Node) → i < length ns → are_distinct (buses_of (skeleton (dir_node d (nodes ns))) rest) ≡ true → Steps ts (at_child (spot_in (where_path w) d i)) (child_at i ns) c → Steps ts w (dir_node d (nodes ns)) (dir_node d (nodes (slice_set ns i c)))
  lift [] w d ns i rest c l differ same = ap (λ ms. dir_node d (nodes ms)) (sym (set-same ns i) ∙ ap (λ k. slice_set ns i k) same)
  lift (t ∷ ts) w d ns i rest c l differ steps =
      let g = steps.0 in
      let has : has_node (bus_of_number g.bus) (child_at i ns) ≡ true = subst (λ name. has_node name (child_at i ns) ≡ true) g.named (sym (read_in-is_some (named_by t) (answer_here code items t) (at_child (spot_in (where_path w) d i)) (child_at i ns)) ∙ ap is_some g.answers) in
      let among = (and_parts _ _ differ).1 in
      let other = other-bus g.bus d ns i rest differ l has in
      let lower = lower-lack g.bus ns i rest among l has in
      let k = after t (at_child (spot_in (where_path w) d i)) (child_at i ns) in
      let answers : read_in (named_by t) (answer_here code items t) w (dir_node d (nodes ns)) ≡ Some (TurnAnswer.Granted g.entry) =
      subst (λ name. read_in name (answer_here code items t) (at_child (spot_in (where_path w) d i)) (child_at i ns) ≡ Some (TurnAnswer.Granted g.entry) → read_in name (answer_here code items t) w (dir_node d (nodes ns)) ≡ Some (TurnAnswer.Granted g.entry)) (sym g.named) (λ e. read-below g.bus d i ns l other has lower w (answer_here code items t) ∙ e) g.answers in
      let is : after t w (dir_node d (nodes ns)) ≡ dir_node d (nodes (slice_set ns i k)) =
      subst (λ name. changed_in name (node_after code items t) w (dir_node d (nodes ns)) ≡ dir_node d (nodes (slice_set ns i (changed_in name (node_after code items t) (at_child (spot_in (where_path w) d i)) (child_at i ns))))) (sym g.named) (change-below g.bus d i ns l other has lower w (node_after code items t)) in
      let bones : skeleton (dir_node d (nodes (slice_set ns i k))) ≡ skeleton (dir_node d (nodes ns)) = ap (dir_bone d.bus d.level d.sizes) (set-skeleton ns i k l g.bones) in
      let there : i < length (slice_set ns i k) = subst (λ n. i < n) (sym (length-set ns i k)) l in
      let inner : Steps ts (at_child (spot_in (where_path w) d i)) (child_at i (slice_set ns i k)) c = subst (λ m. Steps ts (at_child (spot_in (where_path w) d i)) m c) (sym (get_or-set_same ns i k no_node l)) steps.1 in
      let later = lift ts w d (slice_set ns i k) i rest c there (subst (λ b. are_distinct (buses_of b rest) ≡ true) (sym bones) differ) inner in (
        record { bus = g.bus; named = g.named; entry = g.entry; answers = answers; bones = ap skeleton is ∙ bones },
        subst (λ m. Steps ts w m (dir_node d (nodes (slice_set ns i c)))) (sym is) (subst (λ ms. Steps ts w (dir_node d (nodes (slice_set ns i k))) (dir_node d (nodes ms))) (set-again ns i k c) later),
      )

  -- a turn of the part's own bus
  own-bus : (t : Turn) (w : Where) (d : DirValue) (ns : List Node) (g : Grant) → named_by t ≡ bus_of_number d.bus → bus_judged (stamp_above w) d ns (bus_turn_of t) ≡ granted g → (after t w (dir_node d (nodes ns)) ≡ dir_node g.parent (nodes g.kids)) × (read_in (named_by t) (answer_here code items t) w (dir_node d (nodes ns)) ≡ Some (TurnAnswer.Granted (record { bus = d.bus; kind = g.kind; item = g.item; source = g.source; taker = g.taker })))
  own-bus t w d ns g named judged =
      let here : nat_eq d.bus d.bus ≡ true = eq-eqb d.bus d.bus refl in
      let is : bus_step (stamp_above w) (bus_turn_of t) d (children (nodes ns)) ≡ outcome_of d ns (granted g) = ap (bus_step (stamp_above w) (bus_turn_of t) d) (children-nodes ns) ∙ step-is (stamp_above w) d ns (bus_turn_of t) g judged in
      (rw (named, here) (ap (λ (o : Outcome). dir_node o.parent (nodes o.kids)) is), rw (named, here) (ap (λ (o : Outcome). Some o.answer) is))

  pub steps : {w : Where} {n m : Node} {ts : List Turn} (rest : List ℕ) → Runs w n ts m → are_distinct (buses_of (skeleton n) rest) ≡ true → Steps ts w n m
  steps rest stays differ = refl
  steps rest (turned {w = w} {d = d} {t = t} {ts = ts} {m = m} ns g named judged runs) differ =
      let own = own-bus t w d ns g named judged in
      let bones = granted-skeleton (stamp_above w) d ns (bus_turn_of t) g judged in
      (record { bus = d.bus; named = named; entry = _; answers = own.1; bones = ap skeleton own.0 ∙ bones }, subst (λ k. Steps ts w k m) (sym own.0) (steps rest runs (subst (λ b. are_distinct (buses_of b rest) ≡ true) (sym bones) differ)))
  steps rest (below {w = w} {d = d} {m = m} {us = us} ns i ts c l inner runs) differ =
      let among = (and_parts _ _ differ).1 in
      let child = child-distinct ns i rest among l in
      let first = lift ts w d ns i rest c l differ (steps child.0 inner child.1) in
      let bones : skeleton (dir_node d (nodes (slice_set ns i c))) ≡ skeleton (dir_node d (nodes ns)) = ap (dir_bone d.bus d.level d.sizes) (set-skeleton ns i c l (runs-skeleton inner)) in
      steps-on ts us w (dir_node d (nodes ns)) (dir_node d (nodes (slice_set ns i c))) m first (steps rest runs (subst (λ b. are_distinct (buses_of b rest) ≡ true) (sym bones) differ))

-- ---- of the machine

with_root-ops : (n : Node) (m : MachineValue) → (with_root n m).ops ≡ m.ops
with_root-ops (leaf_node v) m = refl
with_root-ops (dir_node d ns) m = refl

pub run-steps : (ts : List Turn) (m : MachineValue) (n : Node) → Steps m.code m.items ts at_top (root_of m) n → BringsTo m ts n
unfolding run_of
run-steps [] m n same = record { root = same; granted = refl; operations = refl }
run-steps (t ∷ ts) m n steps =
    let g = steps.0 in
    let is = turn-answered t m (TurnAnswer.Granted g.entry) g.answers in
    let root = turn-root t m (TurnAnswer.Granted g.entry) g.answers in
    let frame = turn-frame t m in
    let next = (turn_of t m).machine in
    let steps1 : Steps m.code m.items ts at_top (root_of next) n = subst (λ k. Steps m.code m.items ts at_top k n) (sym root) steps.1 in
    let steps2 : Steps next.code m.items ts at_top (root_of next) n = subst (λ code. Steps code m.items ts at_top (root_of next) n) (sym (ap (λ (f : Frame). f.code) frame)) steps1 in
    let steps3 : Steps next.code next.items ts at_top (root_of next) n = subst (λ items. Steps next.code items ts at_top (root_of next) n) (sym (ap (λ (f : Frame). f.items) frame)) steps2 in
    let later = run-steps ts next n steps3 in
    let here : is_granted (turn_of t m).answer ≡ true = ap (λ (o : Turned). is_granted o.answer) is in
    record { root = later.root; granted = both_true here later.granted; operations = later.operations ∙ ap (λ (o : Turned). o.machine.ops) is ∙ with_root-ops (turn_root t m) m }

pub runs-machine : (m : MachineValue) (ts : List Turn) (n : Node) → IsShaped m → Runs at_top (root_of m) ts n → BringsTo m ts n
runs-machine m ts n shaped runs = run-steps ts m n (steps m.code m.items [] runs (shaped.each buses_differ))
