-- The leaf of a hart in a machine at rest.
-- Letters: n is how many items there are, h the hart and its leaf, m a part or a machine, d a directory over the
-- children ns.
use Rattle.std.proofs.Common.{◌≡◌, ℕ, ◌<◌, true, [], length, Option, Some, None, refl, sym, ap, ◌∙◌}
use Rattle.std.specs.Prelude.{nat_lt}
use Rattle.std.proofs.lemmas.Bool.{and_parts, true≢false}
use Rattle.bus_laws.specs.FlatModel.Flat.{FlatHart, no_flat_hart}
use Rattle.serving_model.specs.TreeModel.State.Values.{LeafValue, DirValue, Node, Nodes, leaf_node, dir_node, children, MachineValue}
use Rattle.serving_model.specs.TreeModel.State.Blank.{no_node}
use Rattle.serving_model.specs.TreeModel.State.Place.{Where}
use Rattle.serving_model.specs.TreeModel.Turns.Children.{child_at}
use Rattle.serving_model.specs.TreeModel.Turns.Tree.{leaf_of_number, has_node, of_leaf}
use Rattle.serving_model.specs.TreeRules.Bus.Rules.{IsMachineOk, items_of_machine}
use Rattle.serving_model.specs.Rest.{dir_rests, is_at_rest, has_room}
use Rattle.serving_model.specs.Parts.{FlatView, AllHave, Calm}
use Rattle.serving_model.specs.OneLeaf.{leaf_hart, hart_at, Spine, at_leaf, over, RootSpine}
use Rattle.serving_model.specs.Walk.{is_over, child_over}
use Rattle.serving_model.proofs.TreeModel.Children.{found-passes, found-within}
use Rattle.serving_model.proofs.TreeModel.NamedNode.{read_among-absent}
use Rattle.serving_model.proofs.Lists.{part-induction}
use Rattle.serving_model.proofs.Settled.{calm-dir, calm-children}
use Rattle.serving_model.proofs.Issued.{none-among}
use Rattle.serving_model.proofs.Instruction.{root-reads}

module _ (n : ℕ) (flat : FlatView) (h : ℕ) where
  pub record Found (m : Node) : Type 0 where
    pub leaf : LeafValue
    pub calm : Calm n flat (leaf_node leaf)
    pub spine : Spine n flat h (λ v. v ≡ leaf) m

  abbrev IsFound : Node → Type 0
  IsFound m = Calm n flat m → has_node (leaf_of_number h) m ≡ true → Found m

  found-dir : (d : DirValue) (ns : Nodes) → ((k : ℕ) → k < length (children ns) → IsFound (child_at k (children ns))) → IsFound (dir_node d ns)
  found-dir d ns deeper calm has = at (child_over h ns) refl where
    at : (o : Option ℕ) → child_over h ns ≡ o → Found (dir_node d ns)
    at None none = absurd (true≢false (sym has ∙ none-among h 0 ns none))
    at (Some k) is =
        let c = calm-dir n flat d ns calm in
        let there = found-within (is_over h) k (children ns) no_node is in
        let one = deeper k there (c.kids k there) (found-passes (is_over h) k (children ns) no_node is) in
        record { leaf = one.leaf; calm = one.calm; spine = over k is there c.rests c.room (λ j l ne. (c.kids j l).settled) one.spine }

  pub found : (m : Node) → IsFound m
  found = part-induction IsFound (λ v calm has. record { leaf = v; calm = calm; spine = at_leaf has refl }) found-dir

module _ (m : MachineValue) (flat : FlatView) (h : ℕ) (g : FlatHart) (ok : IsMachineOk m) (rests : is_at_rest m ≡ true) (room : has_room m ≡ true) (have : AllHave flat m.kids) (own : hart_at h m ≡ Some g) where
  abbrev n : ℕ
  n = items_of_machine m

  pub calm : (k : ℕ) → k < length (children m.kids) → Calm n flat (child_at k (children m.kids))
  calm = calm-children n flat m.kids (and_parts (dir_rests m.top) _ rests).1 (and_parts (nat_lt 0 m.top.sizes.down_room) _ room).1 have ok.tree.1

  -- the leaf, whose hart it is
  pub record RootFound : Type 0 where
    pub leaf : LeafValue
    pub calm : Calm n flat (leaf_node leaf)
    pub root : RootSpine n flat h (λ v. v ≡ leaf) m.top m.kids
    pub is : leaf_hart leaf ≡ g

  abbrev hart_in : Where → Node → FlatHart
  hart_in = of_leaf (λ w v. leaf_hart v) no_flat_hart

  pub root-found : RootFound
  root-found = at (child_over h m.kids) refl where
    one-of : (a b : FlatHart) → Some a ≡ Some b → a ≡ b
    one-of a b e = cc

    absent : None ≡ Some g → RootFound
    absent e = cc

    at : (o : Option ℕ) → child_over h m.kids ≡ o → RootFound
    at None none = absent (sym (read_among-absent (leaf_of_number h) hart_in [] m.top 0 m.kids (none-among h 0 m.kids none)) ∙ own)
    at (Some k) is =
        let there = found-within (is_over h) k (children m.kids) no_node is in
        let one = found n flat h (child_at k (children m.kids)) (calm k there) (found-passes (is_over h) k (children m.kids) no_node is) in
        let root : RootSpine n flat h (λ v. v ≡ one.leaf) m.top m.kids = record {
          child = k;
          is = is;
          there = there;
          rests = (and_parts (dir_rests m.top) _ rests).0;
          down = (and_parts (nat_lt 0 m.top.sizes.down_room) _ room).0;
          others = λ j l ne. (calm j l).settled;
          spine = one.spine;
        } in
        let read = root-reads hart_in n flat h (λ v. v ≡ one.leaf) m.top m.kids root in
        record { leaf = one.leaf; calm = one.calm; root = root; is = ap leaf_hart (sym read.is) ∙ one-of (leaf_hart read.leaf) g (sym read.says ∙ own) }
