-- A turn of the machine, and so a run, keeps the form, and counts one more at most.
use Rattle.std.proofs.Common.{◌≡◌, ℕ, zero, suc, ◌+◌, ◌<◌, ◌≤◌, true, List, [], ◌∷◌, ◌++◌, length, Option, Some, None, refl, sym, subst, arith}
use Rattle.std.specs.Prelude.{nat_le, nat_lt, slice_index, slice_index_or}
use Rattle.std.specs.List.{AllByRecursion}
use Rattle.std.proofs.lemmas.Bool.{leb-true}
use Rattle.value_laws.specs.DdmTypes.declared.answers.TurnAnswer.{TurnAnswer}
use Rattle.value_laws.specs.DdmTypes.declared.answers.LogEntry.{LogEntry}
use Rattle.value_laws.specs.DdmTypes.declared.answers.TxKind.{TxKind}
use Rattle.value_laws.specs.DdmTypes.declared.keys.Stamp.{Stamp}
use Rattle.value_laws.specs.DdmTypes.declared.keys.Key.{Key}
use Rattle.value_laws.specs.DdmTypes.declared.operations.Op.{Op}
use Rattle.value_laws.specs.DdmTypes.declared.turns.Turn.{Turn}
use Rattle.value_laws.specs.DdmTypes.ItemTable.{ItemTable}
use Rattle.value_laws.specs.DdmTypes.CodeMap.{CodeWord}
use Rattle.value_laws.specs.TreeModel.declared.BusTurn.{BusTurn}
use Rattle.value_laws.specs.TreeModel.declared.Traffic.{Traffic}
use Rattle.value_laws.specs.TreeModel.State.Values.{LeafValue, DirValue, Node, Nodes, leaf_node, dir_node, children, MachineValue, root_of}
use Rattle.value_laws.specs.TreeModel.State.Place.{Where, at_child, at_top, key_at_leaf, spot_in, stamp_above, where_path}
use Rattle.value_laws.specs.TreeModel.State.Shape.{bone_count, skeleton, skeletons, widths_fit, widths_fit_among, widths_bounded, IsShaped}
use Rattle.value_laws.specs.TreeModel.Turns.Tree.{ChangedAt}
use Rattle.value_laws.specs.TreeModel.Turns.Grant.{Judged, nothing_there, refused, granted, outcome_of}
use Rattle.value_laws.specs.TreeModel.Turns.Bus.{bus_judged, bus_step}
use Rattle.value_laws.specs.TreeModel.Turns.HartTurn.{Deed, has_halted, waits_for, halts, completes, fetches, upgrades, finds_buffer_full, answer_of_deed, deed_of, leaf_step}
use Rattle.value_laws.specs.TreeModel.Turns.Machine.{no_traffic, one_more, traffic_with, answer_here, bus_turn_of, named_by, node_after, recorded, run_of, turn_answer, turn_of, turn_root, victim_of, with_root}
use Rattle.value_laws.specs.TreeModel.Laws.{TurnsHere}
use Rattle.value_laws.proofs.TreeModel.Changed.{changed-holds}
use Rattle.value_laws.proofs.TreeModel.FrameKept.{turn-shape}
use Rattle.value_laws.proofs.TreeModel.NamedNode.{turned}
use Rattle.value_laws.proofs.TreeModel.Tests.{and-first, and-second}
use Rattle.value_laws.proofs.TreeModel.TurnChanges.{turn-answered, turn-unanswered}
use Rattle.value_laws.specs.Values.{StampHasForm, LeafHasForm, DirHasForm, PartsHaveForm, PartsHaveFormAmong, CodeHasForm, KeyHasForm, OpHasForm, TrafficHasForm, HasForm}
use Rattle.value_laws.proofs.Lists.{all-set, all-pushed, all-more}
use Rattle.value_laws.proofs.DirForm.{zero-form, stamp_at-form, dir-more}
use Rattle.value_laws.proofs.ChildForm.{among-children, among-nodes, parts-more, among-more}
use Rattle.value_laws.proofs.BusForm.{bus_step-form}
use Rattle.value_laws.proofs.HartForm.{DeedHasForm, deed-form, after-form, completed-form}

-- ---- a place in the tree

abbrev AreChildNumbers : List ℕ → Type 0
AreChildNumbers path = (k : ℕ) → slice_index path k < 16

one-deeper : (path : List ℕ) (n : ℕ) → AreChildNumbers path → n < 16 → AreChildNumbers (path ++ n ∷ [])
one-deeper [] n are few zero = omega (arith, few)
one-deeper [] n are few (suc k) = omega arith
one-deeper (p ∷ path) n are few zero = are zero
one-deeper (p ∷ path) n are few (suc k) = one-deeper path n (λ j. are (suc j)) few k

record PlaceHasForm (most : ℕ) (w : Where) : Type 0 where
  stamp : StampHasForm most (stamp_above w)
  path : AreChildNumbers (where_path w)

key-form : (most : ℕ) (w : Where) (done : ℕ) → PlaceHasForm most w → done ≤ most → KeyHasForm most (key_at_leaf w done)
key-form most w done place low = record {
  s0 = place.stamp.s0;
  c0 = place.path 0;
  s1 = place.stamp.s1;
  c1 = place.path 1;
  s2 = place.stamp.s2;
  c2 = place.path 2;
  s3 = place.stamp.s3;
  c3 = place.path 3;
  i = low;
}

top-place : (most : ℕ) → PlaceHasForm most at_top
top-place most = record { stamp = zero-form most; path = λ k. omega arith }

child-place : (width most : ℕ) (path : List ℕ) (d : DirValue) (k : ℕ) → AreChildNumbers path → DirHasForm width most d → k < 16 → PlaceHasForm most (at_child (spot_in path d k))
child-place width most path d k are has few = record { stamp = stamp_at-form most d.epoch d.level d.count has.epoch has.count; path = one-deeper path k are few }

-- ---- the node that a turn names

-- an operation that completed
abbrev AnswerHasForm : ℕ → TurnAnswer → Type 0
AnswerHasForm most (TurnAnswer.Retired op) = OpHasForm most op
AnswerHasForm most a = Unit {0}

module _ (width most : ℕ) where
  deed-answer : (now : Key) (v : LeafValue) (has : LeafHasForm width most v) (d : Deed) → KeyHasForm most now → DeedHasForm width most v has d → AnswerHasForm most (answer_of_deed now v d)
  deed-answer now v has (has_halted cause) key is = tt
  deed-answer now v has (waits_for x) key is = tt
  deed-answer now v has (halts cause) key is = tt
  deed-answer now v has (completes c) key is = completed-form width most v has now key c is
  deed-answer now v has (fetches x state way) key is = tt
  deed-answer now v has (upgrades x words) key is = tt
  deed-answer now v has finds_buffer_full key is = tt

  bus-answer : (above : Stamp) (t : BusTurn) (p : DirValue) (ns : List Node) → AnswerHasForm most (bus_step above t p ns).answer
  unfolding bus_step
  bus-answer above t p ns = by (bus_judged above p ns t) where
    by : (j : Judged) → AnswerHasForm most (outcome_of p ns j).answer
    by nothing_there = tt
    by (refused cause) = tt
    by (granted g) = tt

  module _ (code : List CodeWord) (items : ItemTable) (t : Turn) (code_has : AllByRecursion CodeHasForm code) where
    node-form : (w : Where) (n : Node) → PlaceHasForm most w → PartsHaveForm width most n → PartsHaveForm width (most + 1) (node_after code items t w n) × AnswerHasForm most (answer_here code items t w n)
    unfolding leaf_step
    node-form w (leaf_node v) place has =
        let deed = deed_of code items (victim_of t) v in
        let is = deed-form width most v has code items (victim_of t) code_has in
        (after-form width most v has deed is, deed-answer (key_at_leaf w v.done) v has deed (key-form most w v.done place has.done) is)
    node-form w (dir_node d ns) place has =
        let step = bus_step-form width most (stamp_above w) place.stamp d has.0 (children ns) (among-children width most ns has.1) (bus_turn_of t) in
        let o = bus_step (stamp_above w) (bus_turn_of t) d (children ns) in
        ((step.parent, among-nodes width (most + 1) o.kids step.kids), bus-answer (stamp_above w) (bus_turn_of t) d (children ns))

-- ---- wherever it stands

few-below : (d : DirValue) (ns : Nodes) → widths_fit (skeleton (dir_node d ns)) ≡ true → (bone_count (skeletons ns) ≤ 16) × (widths_fit_among (skeletons ns) ≡ true)
few-below d ns fit =
    let more = and-second (nat_lt 0 (bone_count (skeletons ns))) _ fit in
    (leb-true (bone_count (skeletons ns)) 16 (and-first _ (widths_fit_among (skeletons ns)) more), and-second (nat_le (bone_count (skeletons ns)) 16) _ more)

module _ (width most : ℕ) (t : Turn) (m : MachineValue) (code_has : AllByRecursion CodeHasForm m.code) (a : TurnAnswer) where
  abbrev Kept : Where → List ℕ → Node → Node → Type 0
  Kept w path n k = PlaceHasForm most w → widths_fit (skeleton n) ≡ true → PartsHaveForm width most n → PartsHaveForm width (most + 1) k × AnswerHasForm most a

  abbrev KeptAmong : List ℕ → DirValue → ℕ → ℕ → List ℕ → Nodes → Nodes → Type 0
  KeptAmong above d k i path ns ms = AreChildNumbers above → DirHasForm width most d → k + bone_count (skeletons ns) ≤ 16 → widths_fit_among (skeletons ns) ≡ true → PartsHaveFormAmong width most ns → PartsHaveFormAmong width (most + 1) ms × AnswerHasForm most a

  changed-form : (path : List ℕ) (n k : Node) → ChangedAt (TurnsHere t m a) at_top path n k → Kept at_top path n k
  changed-form path n k changed =
      changed-holds (TurnsHere t m a) Kept KeptAmong
      (λ w n k r place fit has. let x = node-form width most m.code m.items t code_has w n place has in (subst (PartsHaveForm width (most + 1)) (sym r.becomes) x.0, subst (AnswerHasForm most) r.reads x.1))
      (λ w d i path ns ms kept place fit has. let few = few-below d ns fit in let x = kept place.path has.0 (omega (arith, few.0)) few.1 has.1 in ((dir-more width most d has.0, x.0), x.1))
      (λ above d k path n ms ns kept are dir count fit all.
      let x = kept (child-place width most above d k are dir (omega (arith, count))) (and-first _ (widths_fit_among (skeletons ns)) fit) all.0 in
      ((x.0, among-more width most ns all.1), x.1))
      (λ above d k i path n ns ms kept are dir count fit all. let x = kept are dir (omega (arith, count)) (and-second (widths_fit (skeleton n)) _ fit) all.1 in ((parts-more width most n all.0, x.0), x.1))
      at_top path n k changed

-- ---- what the answer adds

key-more : (most : ℕ) (key : Key) → KeyHasForm most key → KeyHasForm (most + 1) key
key-more most key has = record { s0 = omega (arith, has.s0); c0 = has.c0; s1 = omega (arith, has.s1); c1 = has.c1; s2 = omega (arith, has.s2); c2 = has.c2; s3 = omega (arith, has.s3); c3 = has.c3; i = omega (arith, has.i) }

op-more : (most : ℕ) (op : Op) → OpHasForm most op → OpHasForm (most + 1) op
op-more most op has = record { key = key-more most op.key has.key; hart = has.hart; pc = has.pc; effect = has.effect }

traffic-more : (most : ℕ) (t : Traffic) → TrafficHasForm most t → TrafficHasForm (most + 1) t
traffic-more most t has = record { reads = omega (arith, has.reads); copies = omega (arith, has.copies); erases = omega (arith, has.erases); exclusives = omega (arith, has.exclusives); outs = omega (arith, has.outs); injects = omega (arith, has.injects) }

one-more-form : (most : ℕ) (kind : TxKind) (t : Traffic) → TrafficHasForm most t → TrafficHasForm (most + 1) (one_more kind t)
one-more-form most TxKind.ReadTx t has = let more = traffic-more most t has in record { reads = omega (arith, has.reads); copies = more.copies; erases = more.erases; exclusives = more.exclusives; outs = more.outs; injects = more.injects }
one-more-form most TxKind.DataTx t has = let more = traffic-more most t has in record { reads = more.reads; copies = omega (arith, has.copies); erases = more.erases; exclusives = more.exclusives; outs = more.outs; injects = more.injects }
one-more-form most TxKind.EraseTx t has = let more = traffic-more most t has in record { reads = more.reads; copies = more.copies; erases = omega (arith, has.erases); exclusives = more.exclusives; outs = more.outs; injects = more.injects }
one-more-form most TxKind.ExclusiveTx t has = let more = traffic-more most t has in record { reads = more.reads; copies = more.copies; erases = more.erases; exclusives = omega (arith, has.exclusives); outs = more.outs; injects = more.injects }
one-more-form most TxKind.InjectTx t has = let more = traffic-more most t has in record { reads = more.reads; copies = more.copies; erases = more.erases; exclusives = more.exclusives; outs = more.outs; injects = omega (arith, has.injects) }
one-more-form most TxKind.OutTx t has = let more = traffic-more most t has in record { reads = more.reads; copies = more.copies; erases = more.erases; exclusives = more.exclusives; outs = omega (arith, has.outs); injects = more.injects }

pub no-traffic-form : (most : ℕ) → TrafficHasForm most no_traffic
no-traffic-form most = record { reads = omega arith; copies = omega arith; erases = omega arith; exclusives = omega arith; outs = omega arith; injects = omega arith }

traffic-at : (most : ℕ) (ts : List Traffic) (k : ℕ) → AllByRecursion (TrafficHasForm most) ts → TrafficHasForm most (slice_index_or ts k no_traffic)
traffic-at most [] k all = no-traffic-form most
traffic-at most (t ∷ ts) zero all = all.0
traffic-at most (t ∷ ts) (suc k) all = traffic-at most ts k all.1

module _ (most : ℕ) (m : MachineValue) (has : HasForm most m) where
  ops-now : AllByRecursion (OpHasForm (most + 1)) m.ops
  ops-now = all-more (OpHasForm most) (OpHasForm (most + 1)) (op-more most) m.ops has.ops

  traffic-now : AllByRecursion (TrafficHasForm (most + 1)) m.traffic
  traffic-now = all-more (TrafficHasForm most) (TrafficHasForm (most + 1)) (traffic-more most) m.traffic has.traffic

  pub more-form : HasForm (most + 1) m
  more-form = record { code = has.code; parts = parts-more m.top.sizes.width most (root_of m) has.parts; ops = ops-now; traffic = traffic-now }

  -- with another tree
  rooted-form : (n : Node) → PartsHaveForm m.top.sizes.width (most + 1) n → HasForm (most + 1) (with_root n m)
  rooted-form (leaf_node v) parts = more-form
  rooted-form (dir_node d ns) parts = record { code = has.code; parts = subst (λ w. PartsHaveForm w (most + 1) (dir_node d ns)) (sym parts.0.sizes) parts; ops = ops-now; traffic = traffic-now }

  logged : (n : Node) (e : LogEntry) → AllByRecursion (TrafficHasForm (most + 1)) (traffic_with e (with_root n m).traffic)
  logged (leaf_node v) e = all-set (TrafficHasForm (most + 1)) m.traffic e.bus _ traffic-now (one-more-form most e.kind _ (traffic-at most m.traffic e.bus has.traffic))
  logged (dir_node d ns) e = all-set (TrafficHasForm (most + 1)) m.traffic e.bus _ traffic-now (one-more-form most e.kind _ (traffic-at most m.traffic e.bus has.traffic))

  recorded-form : (a : TurnAnswer) (n : Node) → AnswerHasForm most a → PartsHaveForm m.top.sizes.width (most + 1) n → HasForm (most + 1) (recorded a (with_root n m))
  recorded-form (TurnAnswer.Retired op) n is parts =
      let rooted = rooted-form n parts in
      record { code = rooted.code; parts = rooted.parts; ops = all-pushed (OpHasForm (most + 1)) (with_root n m).ops op rooted.ops (op-more most op is); traffic = rooted.traffic }
  recorded-form (TurnAnswer.Issued kind x) n is parts = rooted-form n parts
  recorded-form (TurnAnswer.Waiting x) n is parts = rooted-form n parts
  recorded-form (TurnAnswer.Halted cause) n is parts = rooted-form n parts
  recorded-form (TurnAnswer.Granted e) n is parts =
      let rooted = rooted-form n parts in
      record { code = rooted.code; parts = rooted.parts; ops = rooted.ops; traffic = logged n e }
  recorded-form TurnAnswer.Empty n is parts = rooted-form n parts
  recorded-form (TurnAnswer.Busy cause) n is parts = rooted-form n parts

-- ---- a turn, and a run

pub turn-form : (t : Turn) (most : ℕ) (m : MachineValue) → IsShaped m → HasForm most m → HasForm (most + 1) (turn_of t m).machine
turn-form t most m shaped has = by (turn_answer t m) refl where
  by : (o : Option TurnAnswer) → turn_answer t m ≡ o → HasForm (most + 1) (turn_of t m).machine
  by None none = subst (λ o. HasForm (most + 1) o.machine) (sym (turn-unanswered t m none)) (more-form most m has)
  by (Some a) some =
      let at = turned (named_by t) (answer_here m.code m.items t) (node_after m.code m.items t) a at_top (root_of m) some in
      let fit : widths_fit (skeleton (root_of m)) ≡ true = shaped.each widths_bounded in
      let parts = changed-form m.top.sizes.width most t m has.code a at.0 (root_of m) (turn_root t m) at.1 (top-place most) fit has.parts in
      subst (λ o. HasForm (most + 1) o.machine) (sym (turn-answered t m a some)) (recorded-form most m has a (turn_root t m) parts.1 parts.0)

pub run-form : (ts : List Turn) (most : ℕ) (m : MachineValue) → IsShaped m → HasForm most m → HasForm (most + length ts) (run_of ts m).machine
unfolding run_of
run-form [] most m shaped has = let same : most ≡ most + 0 = omega arith in subst (λ n. HasForm n m) same has
run-form (t ∷ ts) most m shaped has =
    let next = (turn_of t m).machine in
    let rest = run-form ts (most + 1) next (turn-shape t m shaped) (turn-form t most m shaped has) in
    let same : most + 1 + length ts ≡ most + length (t ∷ ts) = omega arith in
    subst (λ n. HasForm n (run_of ts next).machine) same rest
