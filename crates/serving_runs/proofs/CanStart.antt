-- The machine of an accepted tree with room shows its flat machine, and has the harts of legal operations.
-- Letters: t is a tree, i an image, m the machine, h a hart.
use Rattle.std.proofs.Common.{◌≡◌, ℕ, ◌<◌, true, List, length, Option, Ok, Some, None, sym, ◌∙◌}
use Rattle.std.specs.Prelude.{All, Result}
use Rattle.std.proofs.lemmas.List.Elements.{All-weaker}
use Rattle.serving_runs.specs.BusLaws.IsTree.{IsTree}
use Rattle.serving_runs.specs.DdmTypes.ItemTable.{item_count}
use Rattle.serving_runs.specs.DdmTypes.Keys.{key_zero}
use Rattle.serving_runs.specs.DdmTypes.declared.operations.Op.{Op}
use Rattle.serving_runs.specs.DdmTypes.declared.turns.Turn.{Turn}
use Rattle.serving_runs.specs.FlatModel.Flat.{no_flat_hart}
use Rattle.serving_runs.specs.FlatModel.Legal.{Legal}
use Rattle.serving_runs.specs.TreeModel.Start.Machine.{StartRefusal, start_machine, start_or, start_refusal, start_of, flat_start_of}
use Rattle.serving_runs.specs.TreeModel.Start.Sources.{ImageValue, TreeValue}
use Rattle.serving_runs.specs.TreeModel.State.Place.{at_top, key_at_leaf}
use Rattle.serving_runs.specs.TreeModel.State.Values.{MachineValue, root_of}
use Rattle.serving_runs.specs.TreeModel.Turns.Machine.{names_part}
use Rattle.serving_runs.specs.TreeModel.Turns.Tree.{leaf_of_number, of_leaf}
use Rattle.serving_runs.proofs.TreeModel.NamedNode.{read_in-is_some}
use Rattle.serving_runs.specs.ServingModel.OneLeaf.{leaf_hart}
use Rattle.serving_runs.specs.ServingModel.Rest.{sizes_have_room}
use Rattle.serving_runs.specs.ServingModel.ServedLists.{StartShows}
use Rattle.serving_runs.proofs.ServingModel.LegalHarts.{legal-harts}
use Rattle.serving_runs.proofs.ServingModel.StartRoom.{start-room}
use Rattle.serving_runs.proofs.ServingModel.StartShows.{start-shows}
use Rattle.serving.specs.Shown.{IsShown}

module _ (t : TreeValue) (i : ImageValue) (m : MachineValue) (tree : IsTree t) (built : start_of t i ≡ Ok m) (room : sizes_have_room t (item_count m.items) ≡ true) where
  shows : StartShows m (flat_start_of t i)
  shows = start-shows t i m tree built (start-room t i m built room)

  top : m.top.bus ≡ 0
  unfolding start_of start_machine
  top = by (start_refusal t i) built where
    by : (o : Option StartRefusal) → start_or o t i ≡ Ok m → m.top.bus ≡ 0
    by None e = sym (one e) where
      one : {a b : MachineValue} → (let r : Result MachineValue StartRefusal = Ok a in r ≡ Ok b) → a.top.bus ≡ b.top.bus
      one e = cc
    by (Some r) e = cc

  pub start-shown : IsShown m
  start-shown = record { flat = flat_start_of t i; shows = shows.shows; top = top }

  named : (h : ℕ) → h < length (flat_start_of t i).harts → names_part (Turn.Hart h 0) m ≡ true
  named h l = read_in-is_some (leaf_of_number h) (of_leaf (λ w v. key_at_leaf w v.done) key_zero) at_top (root_of m) ∙ (sym (read_in-is_some (leaf_of_number h) (of_leaf (λ w v. leaf_hart v) no_flat_hart) at_top (root_of m)) ∙ shows.harts h l)

  pub harts-named : (ops : List Op) → Legal m.code m.items (flat_start_of t i) ops → All (λ (op : Op). names_part (Turn.Hart op.hart 0) m ≡ true) ops
  harts-named ops legal = All-weaker (λ (op : Op). op.hart < length (flat_start_of t i).harts) (λ op. names_part (Turn.Hart op.hart 0) m ≡ true) (λ op l. named op.hart l) ops (legal-harts m.code m.items (flat_start_of t i) ops legal)
