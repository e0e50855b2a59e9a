-- Parts at rest: what is known of a leaf, of a directory and of its children, and who holds an item there.
-- Letters: n is how many items there are, x the item, m a part, d a directory over the children ns, v a leaf, k a child
-- number.
use Rattle.std.proofs.Common.{◌≡◌, ℕ, zero, suc, ◌<◌, Bool, true, false, List, [], ◌∷◌, length, None, refl, sym, ap, ◌∙◌, arith}
use Rattle.std.specs.Prelude.{not, ◌&&◌, is_none}
use Rattle.std.specs.Bool.{beq}
use Rattle.std.specs.List.{list_all, list_any}
use Rattle.std.specs.Cmp.Derive.{both_true}
use Rattle.std.proofs.lemmas.Bool.{and_parts}
use Rattle.serving_model.specs.TreeModel.State.Lists.{find_from, has_some}
use Rattle.serving_model.specs.TreeModel.State.States.{is_held, is_exclusive}
use Rattle.serving_model.specs.TreeModel.State.Values.{LeafValue, Note, no_note, local, up_read, up_erase, DirValue, Node, Nodes, dir_node, no_nodes, more_nodes, nodes, children}
use Rattle.serving_model.specs.TreeModel.State.Leaf.{words_of_item}
use Rattle.serving_model.specs.TreeModel.State.Directory.{dir_hold, dir_note, is_answering, is_parked, queue_of, queue_kinds}
use Rattle.serving_model.specs.TreeModel.State.Blank.{no_node}
use Rattle.serving_model.specs.TreeModel.State.Shape.{skeleton, skeletons}
use Rattle.serving_model.specs.TreeModel.Turns.Children.{child_at, holds_item}
use Rattle.serving_model.specs.TreeRules.Bus.Faces.{ParentFace, parent_face, child_face, faces_of}
use Rattle.serving_model.specs.TreeRules.Bus.Item.{implies, holds_it, Bits, bits_of}
use Rattle.serving_model.specs.TreeRules.Bus.Rules.{IsBusOk, AreTreesOk}
use Rattle.serving_model.proofs.TreeRules.Implying.{implies-use}
use Rattle.bus_laws.proofs.States.{each_state, state-at}
use Rattle.bus_laws.proofs.BitsOf.{any-false}
use Rattle.bus_laws.proofs.Answering.{child-hold}
use Rattle.bus_laws.proofs.DirParts.{is_no_note}
use Rattle.serving_model.specs.Rest.{way_rests, leaf_rests, tree_rests, trees_rest, dir_rests, dir_has_room, tree_has_room, trees_have_room}
use Rattle.serving_model.specs.Parts.{FlatView, AllHave, Settled, Calm}
use Rattle.serving_model.proofs.TreeModel.Children.{none-passes}
use Rattle.serving_model.proofs.Lists.{empty, nothing}
use Rattle.serving_model.proofs.Dirs.{ListsAre}

-- ---- a leaf

pub record LeafRests (v : LeafValue) : Type 0 where
  pub ways : list_all way_rests v.ways ≡ true
  pub buffer : v.buffer ≡ []
  pub slot : v.slot ≡ None
  pub replies : v.replies ≡ []

pub leaf-rests : (v : LeafValue) → leaf_rests v ≡ true → LeafRests v
leaf-rests v rests =
    let a = and_parts (list_all way_rests v.ways) _ rests in
    let b = and_parts (not (has_some v.buffer)) _ a.1 in
    let c = and_parts (is_none v.slot) _ b.1 in
    record { ways = a.0; buffer = empty v.buffer b.0; slot = nothing v.slot c.0; replies = empty v.replies c.1 }

pub rests-leaf : (v : LeafValue) → LeafRests v → leaf_rests v ≡ true
rests-leaf v r = rw (r.ways, r.buffer, r.slot, r.replies) refl

-- ---- children

module _ (n : ℕ) (flat : FlatView) where
  pub calm-children : (ns : Nodes) → trees_rest ns ≡ true → trees_have_room n (skeletons ns) ≡ true → AllHave flat ns → AreTreesOk n ns → (k : ℕ) → k < length (children ns) → Calm n flat (child_at k (children ns))
  calm-children no_nodes rest room have ok k l = absurd (omega (arith, l))
  calm-children (more_nodes m ns) rest room have ok zero l = record {
    settled = record { rests = (and_parts (tree_rests m) _ rest).0; room = (and_parts (tree_has_room n (skeleton m)) _ room).0; copies = have.0 };
    rules = ok.0;
  }
  calm-children (more_nodes m ns) rest room have ok (suc k) l =
      calm-children ns (and_parts (tree_rests m) _ rest).1 (and_parts (tree_has_room n (skeleton m)) _ room).1 have.1 ok.1 k (omega (arith, l))

  -- a directory at rest with its children
  pub record DirCalm (d : DirValue) (ns : Nodes) : Type 0 where
    pub rests : dir_rests d ≡ true
    pub room : dir_has_room d.sizes ≡ true
    pub bus : IsBusOk n d (children ns)
    pub kids : (k : ℕ) → k < length (children ns) → Calm n flat (child_at k (children ns))

  pub calm-dir : (d : DirValue) (ns : Nodes) → Calm n flat (dir_node d ns) → DirCalm d ns
  calm-dir d ns calm =
      let rests = and_parts (dir_rests d) _ calm.settled.rests in
      let room = and_parts (dir_has_room d.sizes) _ calm.settled.room in
      record { rests = rests.0; room = room.0; bus = calm.rules.0; kids = calm-children ns rests.1 room.1 calm.settled.copies calm.rules.1 }

  pub kids-settled : (ns : List Node) → ((k : ℕ) → k < length ns → Settled n flat (child_at k ns)) → (trees_rest (nodes ns) ≡ true) × (trees_have_room n (skeletons (nodes ns)) ≡ true) × AllHave flat (nodes ns)
  kids-settled [] each = (refl, refl, tt)
  kids-settled (m ∷ ns) each =
      let first = each 0 (omega arith) in
      let rest = kids-settled ns (λ k l. each (suc k) (omega (arith, l))) in
      (both_true first.rests rest.0, both_true first.room rest.1, (first.copies, rest.2))

  pub settled-dir : (d : DirValue) (ns : List Node) → dir_rests d ≡ true → dir_has_room d.sizes ≡ true → ((k : ℕ) → k < length ns → Settled n flat (child_at k ns)) → Settled n flat (dir_node d (nodes ns))
  settled-dir d ns rests room each =
      let all = kids-settled ns each in
      record { rests = both_true rests all.0; room = both_true room all.1; copies = all.2 }

-- ---- who holds an item

-- at rest the parent holds it where a child does, and a child that holds it Exclusive is the only one, under a parent
-- that does
abbrev at_rest : ParentFace → Bits → Bool
at_rest p k = implies (is_no_note p.note && (not p.answering && (not (has_some p.queue) && not p.parked))) (beq (is_held p.hold) k.held && implies k.exclusive (k.sole && is_exclusive p.hold))

each-at_rest : (note : Note) → each_state at_rest note ≡ true
unfolding implies
each-at_rest no_note = refl
each-at_rest (local first joined) = refl
each-at_rest (up_read first joined) = refl
each-at_rest (up_erase d) = refl

module _ (n x : ℕ) (within : x < n) (d : DirValue) (ns : List Node) (bus : IsBusOk n d ns) (note : dir_note x d ≡ no_note) (answers : is_answering x d ≡ false) (lists : ListsAre [] [] [] d) where
  abbrev k : Bits
  k = bits_of (parent_face x d) (faces_of x ns)

  pub not-parked : is_parked x d ≡ false
  unfolding words_of_item
  not-parked = rw lists.parked refl

  none-queued : has_some (queue_kinds x d.down) ≡ false
  unfolding queue_of
  none-queued = rw lists.down refl

  pub resting : (beq (is_held (dir_hold x d)) k.held && implies k.exclusive (k.sole && is_exclusive (dir_hold x d))) ≡ true
  resting =
      let all = state-at at_rest each-at_rest (parent_face x d) (faces_of x ns) (bus.rules x within) in
      implies-use _ _ all (both_true (ap is_no_note note) (both_true (ap not answers) (both_true (ap not none-queued) (ap not not-parked))))

  -- where nobody below holds it the directory doesn't
  pub no-holder : find_from (holds_item x) 0 ns ≡ None → is_held (dir_hold x d) ≡ false
  no-holder none =
      let nobody : list_any holds_it (faces_of x ns) ≡ false = any-false (child_face x) no_node holds_it ns (λ i l. ap is_held (sym (child-hold x (child_at i ns))) ∙ none-passes (holds_item x) i ns no_node none l) in
      let held : k.held ≡ false = rw (not-parked, nobody) refl in
      by (is_held (dir_hold x d)) k.held held (and_parts (beq (is_held (dir_hold x d)) k.held) _ resting).0 where
        by : (a b : Bool) → b ≡ false → beq a b ≡ true → a ≡ false
        by true true is same = is
        by true false is same = cc
        by false b is same = refl
