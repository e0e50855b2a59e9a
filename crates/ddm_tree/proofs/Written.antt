-- What is written of a leaf or a bus by its number is what the node at its path spells; and the words of the first leaves, one leaf
-- more at a time.
use Rattle.std.proofs.Common.{◌≡◌, ◌<◌, ℕ, zero, suc, ◌+◌, ◌++◌, List, [], ◌∷◌, length, map, take, Some, refl, sym, ap, ◌∙◌, arith, add-one, append_assoc}
use Rattle.std.specs.Prelude.{slice_get}
use Rattle.std.specs.List.{flat_map}
use Rattle.std.proofs.lemmas.List.{append-nil}
use Rattle.ddm_tree.specs.TreeModel.State.Values.{LeafValue, Node, leaf_node, dir_node, MachineValue, root_of}
use Rattle.ddm_tree.specs.TreeModel.State.Place.{Where, at_top}
use Rattle.ddm_tree.specs.TreeModel.State.Shape.{IsShaped}
use Rattle.ddm_tree.specs.TreeModel.Turns.Machine.{machine_leaves}
use Rattle.ddm_tree.specs.TreeModel.Turns.Tree.{leaf_of_number, bus_of_number, of_leaf, of_dir}
use Rattle.ddm_tree.specs.StateWords.Parts.{dir_words}
use Rattle.ddm_tree.specs.StateWords.Machine.{words_or_none}
use Rattle.ddm_tree.specs.Path.{node_at}
use Rattle.ddm_tree.specs.Ready.{Leads}
use Rattle.ddm_tree.specs.Written.{node_words, node_dir_words, words_of_leaf, dir_words_of}
use Rattle.ddm_tree.proofs.LeafList.{leaf-listed}
use Rattle.ddm_tree.proofs.Reading.{read-is}
use Rattle.ddm_tree.proofs.Along.{where_end}

module _ (words : LeafValue → List ℕ) where
  leaf-spelled : (w : Where) (n : Node) → node_words words n ≡ of_leaf (λ w v. words v) [] w n
  leaf-spelled w (leaf_node v) = refl
  leaf-spelled w (dir_node d ns) = refl

  pub leaf-written : (m : MachineValue) (leaf : ℕ) (path : List ℕ) → Leads (leaf_of_number leaf) path (root_of m) → node_words words (node_at path (root_of m)) ≡ words_of_leaf words leaf m
  leaf-written m leaf path leads = ap words_or_none (ap Some (leaf-spelled (where_end at_top path (root_of m)) (node_at path (root_of m))) ∙ read-is m (leaf_of_number leaf) path leads (of_leaf (λ w v. words v) []))

  listed-more : (vs : List LeafValue) (k : ℕ) → k < length vs → flat_map words (take (suc k) vs) ≡ flat_map words (take k vs) ++ words_or_none (slice_get (map words vs) k)
  listed-more [] k inside = absurd (omega (arith, inside))
  listed-more (v ∷ vs) zero inside = append-nil (words v)
  listed-more (v ∷ vs) (suc k) inside =
      ap (λ t. words v ++ t) (listed-more vs k (omega (arith, inside))) ∙ sym (append_assoc (words v) (flat_map words (take k vs)) (words_or_none (slice_get (map words vs) k)))

  pub leaves-more : (m : MachineValue) (k : ℕ) → IsShaped m → k < length (machine_leaves m) → flat_map words (take (k + 1) (machine_leaves m)) ≡ flat_map words (take k (machine_leaves m)) ++ words_of_leaf words k m
  leaves-more m k shaped inside = rw add-one (listed-more (machine_leaves m) k inside ∙ ap (λ o. flat_map words (take k (machine_leaves m)) ++ words_or_none o) (leaf-listed words [] k m shaped))

dir-spelled : (w : Where) (n : Node) → node_dir_words n ≡ of_dir (λ w d ns. dir_words d) [] w n
dir-spelled w (leaf_node v) = refl
dir-spelled w (dir_node d ns) = refl

pub dir-written : (m : MachineValue) (bus : ℕ) (path : List ℕ) → Leads (bus_of_number bus) path (root_of m) → node_dir_words (node_at path (root_of m)) ≡ dir_words_of bus m
dir-written m bus path leads = ap words_or_none (ap Some (dir-spelled (where_end at_top path (root_of m)) (node_at path (root_of m))) ∙ read-is m (bus_of_number bus) path leads (of_dir (λ w d ns. dir_words d) []))
