-- A turn keeps what the type of the machine keeps.
use Rattle.std.proofs.Common.{◌≡◌, ◌≤◌, ℕ, ◌+◌, zero, suc, true, List, [], ◌∷◌, Some, None, refl, sym, ap, subst, arith}
use Rattle.std.specs.Prelude.{nat_le, slice_set, slice_index_or}
use Rattle.std.specs.List.{list_all}
use Rattle.std.proofs.lemmas.Bool.{leb-true, le-leb}
use Rattle.ddm_tree.specs.DdmTypes.declared.answers.TxKind.{TxKind}
use Rattle.ddm_tree.specs.DdmTypes.declared.answers.TurnAnswer.{TurnAnswer}
use Rattle.ddm_tree.specs.DdmTypes.declared.turns.Turn.{Turn}
use Rattle.ddm_tree.specs.DdmTypes.ItemTable.{item_count}
use Rattle.ddm_tree.specs.TreeModel.declared.Traffic.{Traffic}
use Rattle.ddm_tree.specs.TreeModel.State.Values.{Node, leaf_node, dir_node, MachineValue, root_of}
use Rattle.ddm_tree.specs.TreeModel.State.Shape.{skeleton}
use Rattle.ddm_tree.specs.TreeModel.Turns.Machine.{no_traffic, one_more, recorded, with_root, turn_answer, turn_root, turn_of}
use Rattle.ddm_tree.proofs.TreeModel.Tests.{and-first, and-second, and-both}
use Rattle.ddm_tree.proofs.TreeModel.FrameKept.{turn-frame, turn-shape}
use Rattle.ddm_tree.proofs.TreeModel.RoomsKept.{turn-within}
use Rattle.ddm_tree.proofs.TreeModel.TurnChanges.{turn-answered, turn-unanswered}
use Rattle.ddm_tree.specs.Path.{path_to}
use Rattle.ddm_tree.specs.Machine.{traffic_within, IsMachine}
use Rattle.ddm_tree.specs.Ready.{words_are}
use Rattle.ddm_tree.proofs.CountsKept.{turn-counts}
use Rattle.ddm_tree.proofs.RulesKept.{turn-rules}

-- ---- traffic

record Each (most : ℕ) (t : Traffic) : Type 0 where
  reads : t.reads ≤ most
  copies : t.copies ≤ most
  erases : t.erases ≤ most
  exclusives : t.exclusives ≤ most
  outs : t.outs ≤ most
  injects : t.injects ≤ most

each-within : (most : ℕ) (t : Traffic) → traffic_within most t ≡ true → Each most t
each-within most t e =
    let copies = and-second (nat_le t.reads most) _ e in
    let erases = and-second (nat_le t.copies most) _ copies in
    let exclusives = and-second (nat_le t.erases most) _ erases in
    let outs = and-second (nat_le t.exclusives most) _ exclusives in
    record {
      reads = leb-true _ _ (and-first _ _ e);
      copies = leb-true _ _ (and-first _ _ copies);
      erases = leb-true _ _ (and-first _ _ erases);
      exclusives = leb-true _ _ (and-first _ _ exclusives);
      outs = leb-true _ _ (and-first _ _ outs);
      injects = leb-true _ _ (and-second (nat_le t.outs most) _ outs);
    }

within-each : (most : ℕ) (t : Traffic) → Each most t → traffic_within most t ≡ true
within-each most t w =
    and-both _ _ (le-leb _ _ w.reads) (and-both _ _ (le-leb _ _ w.copies) (and-both _ _ (le-leb _ _ w.erases) (and-both _ _ (le-leb _ _ w.exclusives) (and-both _ _ (le-leb _ _ w.outs) (le-leb _ _ w.injects)))))

module _ (most : ℕ) where
  more-each : (t : Traffic) → Each most t → Each (most + 1) t
  more-each t w = record {
    reads = omega (arith, w.reads);
    copies = omega (arith, w.copies);
    erases = omega (arith, w.erases);
    exclusives = omega (arith, w.exclusives);
    outs = omega (arith, w.outs);
    injects = omega (arith, w.injects);
  }

  one_more-each : (kind : TxKind) (t : Traffic) → Each most t → Each (most + 1) (one_more kind t)
  one_more-each TxKind.ReadTx t w = record { reads = omega (arith, w.reads); copies = omega (arith, w.copies); erases = omega (arith, w.erases); exclusives = omega (arith, w.exclusives); outs = omega (arith, w.outs); injects = omega (arith, w.injects) }
  one_more-each TxKind.DataTx t w = record { reads = omega (arith, w.reads); copies = omega (arith, w.copies); erases = omega (arith, w.erases); exclusives = omega (arith, w.exclusives); outs = omega (arith, w.outs); injects = omega (arith, w.injects) }
  one_more-each TxKind.EraseTx t w = record { reads = omega (arith, w.reads); copies = omega (arith, w.copies); erases = omega (arith, w.erases); exclusives = omega (arith, w.exclusives); outs = omega (arith, w.outs); injects = omega (arith, w.injects) }
  one_more-each TxKind.ExclusiveTx t w = record { reads = omega (arith, w.reads); copies = omega (arith, w.copies); erases = omega (arith, w.erases); exclusives = omega (arith, w.exclusives); outs = omega (arith, w.outs); injects = omega (arith, w.injects) }
  one_more-each TxKind.InjectTx t w = record { reads = omega (arith, w.reads); copies = omega (arith, w.copies); erases = omega (arith, w.erases); exclusives = omega (arith, w.exclusives); outs = omega (arith, w.outs); injects = omega (arith, w.injects) }
  one_more-each TxKind.OutTx t w = record { reads = omega (arith, w.reads); copies = omega (arith, w.copies); erases = omega (arith, w.erases); exclusives = omega (arith, w.exclusives); outs = omega (arith, w.outs); injects = omega (arith, w.injects) }

  more-traffic : (t : Traffic) → traffic_within most t ≡ true → traffic_within (most + 1) t ≡ true
  more-traffic t e = within-each (most + 1) t (more-each t (each-within most t e))

  one_more-traffic : (kind : TxKind) (t : Traffic) → traffic_within most t ≡ true → traffic_within (most + 1) (one_more kind t) ≡ true
  one_more-traffic kind t e = within-each (most + 1) (one_more kind t) (one_more-each kind t (each-within most t e))

  all_more : (ts : List Traffic) → list_all (traffic_within most) ts ≡ true → list_all (traffic_within (most + 1)) ts ≡ true
  all_more [] e = refl
  all_more (t ∷ ts) e = and-both _ _ (more-traffic t (and-first _ (list_all (traffic_within most) ts) e)) (all_more ts (and-second (traffic_within most t) _ e))

  counted-traffic : (kind : TxKind) (ts : List Traffic) (bus : ℕ) → list_all (traffic_within most) ts ≡ true → list_all (traffic_within (most + 1)) (slice_set ts bus (one_more kind (slice_index_or ts bus no_traffic))) ≡ true
  counted-traffic kind [] bus e = refl
  counted-traffic kind (t ∷ ts) zero e = and-both _ _ (one_more-traffic kind t (and-first _ (list_all (traffic_within most) ts) e)) (all_more ts (and-second (traffic_within most t) _ e))
  counted-traffic kind (t ∷ ts) (suc bus) e = and-both _ _ (more-traffic t (and-first _ (list_all (traffic_within most) ts) e)) (counted-traffic kind ts bus (and-second (traffic_within most t) _ e))

  recorded-traffic : (a : TurnAnswer) (m : MachineValue) → list_all (traffic_within most) m.traffic ≡ true → list_all (traffic_within (most + 1)) (recorded a m).traffic ≡ true
  recorded-traffic (TurnAnswer.Retired op) m e = all_more m.traffic e
  recorded-traffic (TurnAnswer.Issued kind x) m e = all_more m.traffic e
  recorded-traffic (TurnAnswer.Waiting x) m e = all_more m.traffic e
  recorded-traffic (TurnAnswer.Halted cause) m e = all_more m.traffic e
  recorded-traffic (TurnAnswer.Granted entry) m e = counted-traffic entry.kind m.traffic entry.bus e
  recorded-traffic TurnAnswer.Empty m e = all_more m.traffic e
  recorded-traffic (TurnAnswer.Busy cause) m e = all_more m.traffic e

  with_root-traffic : (n : Node) (m : MachineValue) → (with_root n m).traffic ≡ m.traffic
  with_root-traffic (leaf_node v) m = refl
  with_root-traffic (dir_node d ns) m = refl

  turn-traffic : (t : Turn) (m : MachineValue) → list_all (traffic_within most) m.traffic ≡ true → list_all (traffic_within (most + 1)) (turn_of t m).machine.traffic ≡ true
  turn-traffic t m e =
      elim (turn_answer t m) as (λ o. turn_answer t m ≡ o → list_all (traffic_within (most + 1)) (turn_of t m).machine.traffic ≡ true) [
        | None ↦ λ none. subst (λ o. list_all (traffic_within (most + 1)) o.machine.traffic ≡ true) (sym (turn-unanswered t m none)) (all_more m.traffic e)
        | Some a ↦ λ some. subst (λ o. list_all (traffic_within (most + 1)) o.machine.traffic ≡ true) (sym (turn-answered t m a some)) (recorded-traffic a (with_root (turn_root t m) m) (rw (with_root-traffic (turn_root t m) m) e))
      ] refl

-- ---- all of it

pub turn-keeps : (width turns : ℕ) (leaf_paths bus_paths : List (List ℕ)) (t : Turn) (m : MachineValue) → IsMachine width m turns leaf_paths bus_paths → IsMachine width (turn_of t m).machine (turns + 1) leaf_paths bus_paths
turn-keeps width turns leaf_paths bus_paths t m k =
    let frame = turn-frame t m in
    let bones : skeleton (root_of (turn_of t m).machine) ≡ skeleton (root_of m) = ap (λ f. f.bones) frame in
    let items : (turn_of t m).machine.items ≡ m.items = ap (λ f. f.items) frame in
    record {
      shaped = turn-shape t m k.shaped;
      rules = turn-rules t m k.shaped k.rules;
      rooms = rw items (turn-within (item_count m.items) t m k.rooms);
      words = subst (λ b. words_are width b ≡ true) (sym bones) k.words;
      counts = turn-counts turns t m k.counts;
      granted = turn-traffic turns t m k.granted;
      paths = λ name path leads. k.paths name path (subst (λ b. path_to name b ≡ Some path) bones leads);
    }
