-- One more child is looked at; and what a turn names is a part of the machine.
-- Letters: m is a machine, c a child of cs, ls are greatest lengths, i is a place, t a turn.
use Rattle.std.proofs.Common.{◌≡◌, ◌∙◌, ◌⊎◌, inl, inr, ℕ, zero, suc, ◌+◌, true, List, [], ◌∷◌, take, length, Option, Some, None, refl, sym, ap, add-one}
use Rattle.std.specs.Prelude.{is_some, slice_get}
use Rattle.ddm_types.specs.Keys.{key_zero}
use Rattle.ddm_types.specs.declared.turns.Turn.{Turn}
use Rattle.recording_model.specs.TreeModel.State.Place.{at_top, key_at_leaf}
use Rattle.recording_model.specs.TreeModel.State.Values.{MachineValue, root_of}
use Rattle.recording_model.specs.TreeModel.Turns.Machine.{child_count, is_child_of, names_part}
use Rattle.recording_model.specs.TreeModel.Turns.Tree.{bus_of_number, has_node, leaf_of_number, of_dir, of_leaf}
use Rattle.tree_model.specs.declared.DirLengths.{DirLengths}
use Rattle.tree_model.specs.declared.LeafLengths.{LeafLengths}
use Rattle.tree_model.specs.declared.TreeChild.{TreeChild}
use Rattle.tree_model.proofs.NamedNode.{read_in-is_some}
use Rattle.measuring.specs.Seen.{all_in, all_over, child_in, child_over}

module _ (m : MachineValue) where
  over-one : (i : ℕ) (cs : List TreeChild) (c : TreeChild) (ls : List DirLengths) → slice_get cs i ≡ Some c → all_over m (take (suc i) cs) ls ≡ child_over m c (all_over m (take i cs) ls)
  over-one i [] c ls is = cc
  over-one zero (d ∷ cs) c ls is = let same : d ≡ c = cc in ap (λ e. child_over m e ls) same
  over-one (suc i) (d ∷ cs) c ls is = over-one i cs c (child_over m d ls) is

  in-one : (i : ℕ) (cs : List TreeChild) (c : TreeChild) (ls : List LeafLengths) → slice_get cs i ≡ Some c → all_in m (take (suc i) cs) ls ≡ child_in m c (all_in m (take i cs) ls)
  in-one i [] c ls is = cc
  in-one zero (d ∷ cs) c ls is = let same : d ≡ c = cc in ap (λ e. child_in m e ls) same
  in-one (suc i) (d ∷ cs) c ls is = in-one i cs c (child_in m d ls) is

  pub over-next : (i : ℕ) (cs : List TreeChild) (c : TreeChild) (ls : List DirLengths) → slice_get cs i ≡ Some c → all_over m (take (i + 1) cs) ls ≡ child_over m c (all_over m (take i cs) ls)
  over-next i cs c ls is = rw add-one (over-one i cs c ls is)

  pub in-next : (i : ℕ) (cs : List TreeChild) (c : TreeChild) (ls : List LeafLengths) → slice_get cs i ≡ Some c → all_in m (take (i + 1) cs) ls ≡ child_in m c (all_in m (take i cs) ls)
  in-next i cs c ls is = rw add-one (in-one i cs c ls is)

  -- ---- parts

  pub hart-part : (hart victim : ℕ) (t : Turn) → t ≡ Turn.Hart hart victim → names_part t m ≡ true → has_node (leaf_of_number hart) (root_of m) ≡ true
  hart-part hart victim t is named = sym (read_in-is_some (leaf_of_number hart) (of_leaf (λ w v. key_at_leaf w v.done) key_zero) at_top (root_of m)) ∙ sym (ap (λ u. names_part u m) is) ∙ named

  some-child : (child : ℕ) (o : Option ℕ) → is_child_of child o ≡ true → is_some o ≡ true
  some-child child None is = is
  some-child child (Some count) is = refl

  counted-part : (bus : ℕ) → is_some (child_count bus m) ≡ true → has_node (bus_of_number bus) (root_of m) ≡ true
  counted-part bus some = sym (read_in-is_some (bus_of_number bus) (of_dir (λ w d ns. length ns) 0) at_top (root_of m)) ∙ some

  -- the bus of a turn of any bus
  abbrev IsOfBus : ℕ → Turn → Type 0
  IsOfBus bus t = (t ≡ Turn.Down bus) ⊎ ((child : ℕ) × (t ≡ Turn.Request bus child)) ⊎ ((child : ℕ) × (t ≡ Turn.Reply bus child)) ⊎ ((child : ℕ) × (choice : ℕ) × (t ≡ Turn.Leave bus child choice))

  pub bus-part : (bus : ℕ) (t : Turn) → IsOfBus bus t → names_part t m ≡ true → has_node (bus_of_number bus) (root_of m) ≡ true
  bus-part bus t (inl is) named = counted-part bus (sym (ap (λ u. names_part u m) is) ∙ named)
  bus-part bus t (inr (inl is)) named = counted-part bus (some-child is.0 (child_count bus m) (sym (ap (λ u. names_part u m) is.1) ∙ named))
  bus-part bus t (inr (inr (inl is))) named = counted-part bus (some-child is.0 (child_count bus m) (sym (ap (λ u. names_part u m) is.1) ∙ named))
  bus-part bus t (inr (inr (inr is))) named = counted-part bus (some-child is.0 (child_count bus m) (sym (ap (λ u. names_part u m) is.2) ∙ named))
