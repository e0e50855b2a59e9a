-- A hart's turn keeps the number and the sizes of its leaf.
use Rattle.std.proofs.Common.{ℕ, List, refl}
use Rattle.tree_model.specs.DdmTypes.declared.keys.Key.{Key}
use Rattle.tree_model.specs.DdmTypes.ItemTable.{ItemTable}
use Rattle.tree_model.specs.DdmTypes.CodeMap.{CodeWord}
use Rattle.tree_model.specs.State.Values.{LeafValue}
use Rattle.tree_model.specs.Turns.HartTurn.{Deed, has_halted, waits_for, halts, completes, fetches, upgrades, finds_buffer_full, deed_of, leaf_after_deed, leaf_step}
use Rattle.tree_model.specs.Laws.{KeepsLeaf}

deed-keeps : (v : LeafValue) (d : Deed) → KeepsLeaf v (leaf_after_deed v d)
deed-keeps v (has_halted cause) = record { number = refl; sizes = refl }
deed-keeps v (waits_for x) = record { number = refl; sizes = refl }
deed-keeps v (halts cause) = record { number = refl; sizes = refl }
deed-keeps v (completes c) = record { number = refl; sizes = refl }
deed-keeps v (fetches x state way) = record { number = refl; sizes = refl }
deed-keeps v (upgrades x words) = record { number = refl; sizes = refl }
deed-keeps v finds_buffer_full = record { number = refl; sizes = refl }

pub leaf_step-keeps : (code : List CodeWord) (items : ItemTable) (now : Key) (victim : ℕ) (v : LeafValue) → KeepsLeaf v (leaf_step code items now victim v).leaf
unfolding leaf_step
leaf_step-keeps code items now victim v = deed-keeps v (deed_of code items victim v)
