-- Each node before the first turn: its lists are empty, its items of one width, nothing is counted, and it holds what is placed.
use Rattle.std.proofs.Common.{◌≡◌, ℕ, ◌+◌, ◌≤◌, true, List, [], ◌∷◌, map, length, refl, ap, ◌∙◌, arith}
use Rattle.std.specs.List.{AllByRecursion}
use Rattle.std.specs.Cmp.Derive.{both_true}
use Rattle.std.proofs.lemmas.Bool.{eq-eqb, le-leb}
use Rattle.start_parts.specs.TreeModel.State.Values.{LeafSizes, LeafValue, DirSizes, Node, leaf_node, nodes}
use Rattle.start_parts.specs.TreeModel.State.Shape.{skeleton, skeletons}
use Rattle.start_parts.specs.TreeModel.State.Rooms.{all_within, all_within_among}
use Rattle.start_parts.specs.TreeModel.Start.Nodes.{dir_over}
use Rattle.cluster.specs.DdmTree.Counts.{counts_within, counts_among}
use Rattle.cluster.specs.DdmTree.Ready.{words_are, words_are_among}
use Rattle.start_parts.specs.Held.{IsHeld, AreHeld}
use Rattle.start_parts.proofs.NewLeaves.{IsNewLeaf, AreNewLeaves, leaf-held}
use Rattle.start_parts.proofs.HeldBelow.{over-count, dir-held}

pub record IsNewNode (items width : ℕ) (n : Node) : Type 0 where
  pub rooms : all_within items n ≡ true
  pub words : words_are width (skeleton n) ≡ true
  pub uncounted : counts_within 0 n ≡ true
  pub held : IsHeld items n

abbrev pub AreNewNodes : ℕ → ℕ → List Node → Type 0
AreNewNodes items width ns = AllByRecursion (IsNewNode items width) ns

module _ (items width : ℕ) where
  pub rooms-among : (ns : List Node) → AreNewNodes items width ns → all_within_among items (nodes ns) ≡ true
  rooms-among [] h = refl
  rooms-among (n ∷ ns) h = both_true h.0.rooms (rooms-among ns h.1)

  pub words-among : (ns : List Node) → AreNewNodes items width ns → words_are_among width (skeletons (nodes ns)) ≡ true
  words-among [] h = refl
  words-among (n ∷ ns) h = both_true h.0.words (words-among ns h.1)

  pub counts-among : (ns : List Node) → AreNewNodes items width ns → counts_among 0 (nodes ns) ≡ true
  counts-among [] h = refl
  counts-among (n ∷ ns) h = both_true h.0.uncounted (counts-among ns h.1)

  pub held-among : (ns : List Node) → AreNewNodes items width ns → AreHeld items ns
  held-among [] h = tt
  held-among (n ∷ ns) h = (h.0.held, held-among ns h.1)

  -- a directory over them
  pub dir-new : (sizes : DirSizes) → sizes.width ≡ width → (level bus : ℕ) (ks : List Node) → 1 ≤ length ks → AreNewNodes items width ks → IsNewNode items width (dir_over sizes level bus ks)
  dir-new sizes wide level bus ks some h = record {
    rooms = both_true (both_true (eq-eqb _ _ (over-count items ks (held-among ks h) some)) (both_true (le-leb 0 sizes.down_room (omega arith)) (both_true (le-leb 0 sizes.request_room (omega arith)) (both_true (le-leb 0 sizes.reply_room (omega arith)) (le-leb (0 + 0) sizes.parking_room (omega arith)))))) (rooms-among ks h);
    words = both_true (eq-eqb _ _ wide) (words-among ks h);
    uncounted = counts-among ks h;
    held = dir-held items sizes level bus ks some (held-among ks h);
  }

  -- a leaf
  leaf-new : (sizes : LeafSizes) → sizes.width ≡ width → (v : LeafValue) → IsNewLeaf items sizes v → IsNewNode items width (leaf_node v)
  leaf-new sizes wide v h = record {
    rooms = both_true (eq-eqb _ _ h.count) (rw (h.buffer, h.replies) (both_true (le-leb 0 v.sizes.buffer_room (omega arith)) (le-leb 0 v.sizes.reply_room (omega arith))));
    words = eq-eqb _ _ (ap (λ (s : LeafSizes). s.width) h.sizes_are ∙ wide);
    uncounted = rw h.done refl;
    held = leaf-held items sizes v h;
  }

  pub leaves-new-nodes : (sizes : LeafSizes) → sizes.width ≡ width → (vs : List LeafValue) → AreNewLeaves items sizes vs → AreNewNodes items width (map leaf_node vs)
  leaves-new-nodes sizes wide [] h = tt
  leaves-new-nodes sizes wide (v ∷ vs) h = (leaf-new sizes wide v h.0, leaves-new-nodes sizes wide vs h.1)
