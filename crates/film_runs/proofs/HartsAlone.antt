-- What a turn of a hart left as it was, where it changed the hart alone.
-- Letters: n and k are nodes before and after the turn, ns and ms children, v and w a leaf, d a directory, x an item, m a machine.
use Rattle.std.proofs.Common.{◌≡◌, ◌∙◌, ℕ, suc, ◌+◌, Bool, true, false, List, [], ◌∷◌, ◌++◌, Option, Some, None, option_map, length, refl, sym, ap, ap₂, subst, append_assoc, if◌then◌else◌}
use Rattle.std.specs.Prelude.{◌||◌, codes, nat_eq}
use Rattle.std.proofs.lemmas.Bool.{eqb-true}
use Rattle.ddm_types.specs.declared.answers.TurnAnswer.{TurnAnswer}
use Rattle.ddm_types.specs.declared.sizes.Hold.{Hold}
use Rattle.ddm_types.specs.declared.turns.Turn.{Turn}
use Rattle.film_runs.specs.FilmModel.Directory.{dir_parts}
use Rattle.film_runs.specs.FilmModel.Part.{Part, key_of}
use Rattle.film_runs.specs.FilmModel.Still.{bus_parts, parts_or_none, place_part, place_text}
use Rattle.tree_model.specs.declared.CopyPlace.{CopyPlace}
use Rattle.tree_model.specs.Laws.{ReadAndChanged}
use Rattle.tree_model.specs.State.Child.{child_hold}
use Rattle.tree_model.specs.State.Directory.{parked_place}
use Rattle.tree_model.specs.State.Leaf.{leaf_hold}
use Rattle.tree_model.specs.State.Lists.{first_some}
use Rattle.tree_model.specs.State.Place.{Where, at_child, at_top, key_at_leaf, spot_in, where_path}
use Rattle.tree_model.specs.State.Shape.{Frame}
use Rattle.tree_model.specs.State.States.{is_held}
use Rattle.tree_model.specs.State.Values.{DirValue, LeafValue, MachineValue, Node, Nodes, children, dir_node, leaf_node, more_nodes, no_nodes, root_of}
use Rattle.tree_model.specs.Turns.Found.{down_place, found_place, place_among, place_found}
use Rattle.tree_model.specs.Turns.Machine.{answer_here, leaves_among, leaves_of, node_after, turn_answer, turn_of, turn_root}
use Rattle.tree_model.specs.Turns.Tree.{bus_of_number, has_among, has_node, leaf_of_number, of_dir, read_among, read_in}
use Rattle.tree_model.proofs.Changed.{changed-keeps}
use Rattle.tree_model.proofs.FrameKept.{turn-frame}
use Rattle.tree_model.proofs.NamedNode.{turned}
use Rattle.tree_model.proofs.TurnChanges.{turn-answered, turn-root, turn-unanswered}
use Rattle.film_runs.specs.HartAlone.{IsAlone, IsHartOf, hart_alone}
use Rattle.film_runs.proofs.OwnEffects.{leaf-alone}

abbrev told_of : Where → DirValue → List Node → List Part
told_of = λ w d ns. dir_parts (length ns) d

abbrev place_below : ℕ → Node → Option CopyPlace
place_below x (leaf_node v) = None
place_below x (dir_node d ns) = place_among x ns

-- what isn't of a hart
record Stays (n k : Node) : Type 0 where
  has : (bus : ℕ) → has_node (bus_of_number bus) k ≡ has_node (bus_of_number bus) n
  reads : (bus : ℕ) (w : Where) → read_in (bus_of_number bus) (of_dir told_of []) w k ≡ read_in (bus_of_number bus) (of_dir told_of []) w n
  held : (x : ℕ) → child_hold x k ≡ child_hold x n
  place : (x : ℕ) → place_found x k ≡ place_found x n
  place_in : (x : ℕ) → place_below x k ≡ place_below x n

record StayAmong (ns ms : Nodes) : Type 0 where
  has : (bus : ℕ) → has_among (bus_of_number bus) ms ≡ has_among (bus_of_number bus) ns
  reads : (bus : ℕ) (path : List ℕ) (d : DirValue) (i : ℕ) → read_among (bus_of_number bus) (of_dir told_of []) path d i ms ≡ read_among (bus_of_number bus) (of_dir told_of []) path d i ns
  many : length (children ms) ≡ length (children ns)
  place : (x : ℕ) → place_among x ms ≡ place_among x ns

-- the leaf before and after, and the leaves to its left and right
record OneHart (number : ℕ) (n k : Node) : Type 0 where
  first : List LeafValue
  leaf : LeafValue
  now : LeafValue
  last : List LeafValue
  numbered : nat_eq leaf.number number ≡ true
  hart : IsHartOf leaf now
  before : (rest : List LeafValue) → leaves_of n rest ≡ first ++ leaf ∷ (last ++ rest)
  after : (rest : List LeafValue) → leaves_of k rest ≡ first ++ now ∷ (last ++ rest)
  stays : Stays n k

record OneHartAmong (number : ℕ) (ns ms : Nodes) : Type 0 where
  first : List LeafValue
  leaf : LeafValue
  now : LeafValue
  last : List LeafValue
  numbered : nat_eq leaf.number number ≡ true
  hart : IsHartOf leaf now
  before : (rest : List LeafValue) → leaves_among ns rest ≡ first ++ leaf ∷ (last ++ rest)
  after : (rest : List LeafValue) → leaves_among ms rest ≡ first ++ now ∷ (last ++ rest)
  stays : StayAmong ns ms

-- ---- leaves before others

mutual
  leaves_of-more : (n : Node) (rest : List LeafValue) → leaves_of n rest ≡ leaves_of n [] ++ rest
  leaves_of-more (leaf_node v) rest = refl
  leaves_of-more (dir_node d ns) rest = leaves_among-more ns rest

  leaves_among-more : (ns : Nodes) (rest : List LeafValue) → leaves_among ns rest ≡ leaves_among ns [] ++ rest
  leaves_among-more no_nodes rest = refl
  leaves_among-more (more_nodes n ns) rest =
      leaves_of-more n (leaves_among ns rest) ∙ ap (λ (vs : List LeafValue). leaves_of n [] ++ vs) (leaves_among-more ns rest) ∙ sym (append_assoc (leaves_of n []) (leaves_among ns []) rest)
      ∙ ap (λ (vs : List LeafValue). vs ++ rest) (sym (leaves_of-more n (leaves_among ns [])))

-- ---- the changed leaf, and all above it

leaf_stays : (v w : LeafValue) → IsHartOf v w → Stays (leaf_node v) (leaf_node w)
unfolding leaf_hold
leaf_stays v w alone = subst (λ (u : LeafValue). Stays (leaf_node v) (leaf_node u)) (sym alone) (record { has = λ bus. refl; reads = λ bus wh. refl; held = λ x. refl; place = λ x. refl; place_in = λ x. refl })

below : (number : ℕ) (d : DirValue) (ns ms : Nodes) → OneHartAmong number ns ms → OneHart number (dir_node d ns) (dir_node d ms)
below number d ns ms one = record {
  first = one.first;
  leaf = one.leaf;
  now = one.now;
  last = one.last;
  numbered = one.numbered;
  hart = one.hart;
  before = one.before;
  after = one.after;
  stays = record {
    has = λ bus. ap (λ b. nat_eq d.bus bus || b) (one.stays.has bus);
    reads = λ bus w. ap₂ (λ (count : ℕ) (o : Option (List Part)). if nat_eq d.bus bus then Some (dir_parts count d) else o) one.stays.many (one.stays.reads bus (where_path w) d 0);
    held = λ x. refl;
    place = λ x. ap (λ (p : Option CopyPlace). first_some (option_map (λ k. CopyPlace.DownList d.bus k) (down_place x 0 d.down)) (first_some (option_map (λ k. CopyPlace.Parking d.bus k) (parked_place x d)) p)) (one.stays.place x);
    place_in = one.stays.place;
  };
}

first_of_some : (number : ℕ) (n k : Node) (ns : Nodes) → OneHart number n k → OneHartAmong number (more_nodes n ns) (more_nodes k ns)
first_of_some number n k ns one = record {
  first = one.first;
  leaf = one.leaf;
  now = one.now;
  last = one.last ++ leaves_among ns [];
  numbered = one.numbered;
  hart = one.hart;
  before = λ rest. one.before (leaves_among ns rest) ∙ ap (λ (vs : List LeafValue). one.first ++ one.leaf ∷ vs) (ap (λ (vs : List LeafValue). one.last ++ vs) (leaves_among-more ns rest) ∙ sym (append_assoc one.last (leaves_among ns []) rest));
  after = λ rest. one.after (leaves_among ns rest) ∙ ap (λ (vs : List LeafValue). one.first ++ one.now ∷ vs) (ap (λ (vs : List LeafValue). one.last ++ vs) (leaves_among-more ns rest) ∙ sym (append_assoc one.last (leaves_among ns []) rest));
  stays = record {
    has = λ bus. ap (λ b. b || has_among (bus_of_number bus) ns) (one.stays.has bus);
    reads = λ bus path d i. ap₂ (λ (b : Bool) (o : Option (List Part)). if b then o else read_among (bus_of_number bus) (of_dir told_of []) path d (i + 1) ns) (one.stays.has bus) (one.stays.reads bus (at_child (spot_in path d i)));
    many = refl;
    place = λ x. ap₂ (λ (h : Hold) (p : Option CopyPlace). if is_held h then p else place_among x ns) (one.stays.held x) (one.stays.place x);
  };
}

later : (number : ℕ) (n : Node) (ns ms : Nodes) → OneHartAmong number ns ms → OneHartAmong number (more_nodes n ns) (more_nodes n ms)
later number n ns ms one = record {
  first = leaves_of n [] ++ one.first;
  leaf = one.leaf;
  now = one.now;
  last = one.last;
  numbered = one.numbered;
  hart = one.hart;
  before = λ rest. leaves_of-more n (leaves_among ns rest) ∙ ap (λ (vs : List LeafValue). leaves_of n [] ++ vs) (one.before rest) ∙ sym (append_assoc (leaves_of n []) one.first (one.leaf ∷ (one.last ++ rest)));
  after = λ rest. leaves_of-more n (leaves_among ms rest) ∙ ap (λ (vs : List LeafValue). leaves_of n [] ++ vs) (one.after rest) ∙ sym (append_assoc (leaves_of n []) one.first (one.now ∷ (one.last ++ rest)));
  stays = record {
    has = λ bus. ap (λ b. has_node (bus_of_number bus) n || b) (one.stays.has bus);
    reads = λ bus path d i. ap (λ (o : Option (List Part)). if has_node (bus_of_number bus) n then read_in (bus_of_number bus) (of_dir told_of []) (at_child (spot_in path d i)) n else o) (one.stays.reads bus path d (i + 1));
    many = ap suc one.stays.many;
    place = λ x. ap (λ (p : Option CopyPlace). if is_held (child_hold x n) then place_found x n else p) (one.stays.place x);
  };
}

-- ---- the machine

module _ (number victim : ℕ) (m : MachineValue) (a : TurnAnswer) (alone : hart_alone a ≡ true) where
  abbrev turn : Turn
  turn = Turn.Hart number victim

  abbrev Changed : Where → Node → Node → Type 0
  Changed = ReadAndChanged (leaf_of_number number) (answer_here m.code m.items turn) (node_after m.code m.items turn) a

  here : (w : Where) (n k : Node) → Changed w n k → OneHart number n k
  here w (leaf_node v) k r =
      let hart = leaf-alone m.code m.items victim (key_at_leaf w v.done) v (ap hart_alone r.reads ∙ alone) in
      subst (OneHart number (leaf_node v)) (sym r.becomes) (record { first = []; leaf = v; now = _; last = []; numbered = r.named; hart = hart; before = λ rest. refl; after = λ rest. refl; stays = leaf_stays v _ hart })
  here w (dir_node d ns) k r = absurd (let wrong : false ≡ true = r.named in cc)

  answered : turn_answer turn m ≡ Some a → OneHart number (root_of m) (turn_root turn m)
  answered some =
      let at = turned (leaf_of_number number) (answer_here m.code m.items turn) (node_after m.code m.items turn) a at_top (root_of m) some in
      changed-keeps Changed (OneHart number) (OneHartAmong number) here (below number) (first_of_some number) (later number) at_top at.0 (root_of m) (turn_root turn m) at.1

  pub alone_answered : turn_answer turn m ≡ Some a → IsAlone number m (turn_of turn m).machine
  unfolding bus_parts place_part found_place
  alone_answered some =
      let one : OneHart number (root_of m) (root_of (turn_of turn m).machine) = subst (OneHart number (root_of m)) (sym (turn-root turn m a some)) (answered some) in
      record {
        first = one.first;
        leaf = one.leaf;
        now = one.now;
        last = one.last ++ [];
        numbered = eqb-true one.leaf.number number one.numbered;
        before = one.before [];
        after = one.after [];
        hart = one.hart;
        buses = λ bus. ap parts_or_none (one.stays.reads bus at_top);
        traffic = ap (λ (f : Frame). f.counted) (turn-frame turn m);
        items = ap (λ (f : Frame). f.items) (turn-frame turn m);
        places = λ x. ap (λ (p : Option CopyPlace). (let part : Part = record { key = key_of (codes "copy") x; value = place_text p } in part)) (one.stays.place_in x);
      }

pub harts-alone : (hart victim : ℕ) (m : MachineValue) → hart_alone (turn_of (Turn.Hart hart victim) m).answer ≡ true → IsAlone hart m (turn_of (Turn.Hart hart victim) m).machine
harts-alone hart victim m own = go (turn_answer (Turn.Hart hart victim) m) refl where
  go : (o : Option TurnAnswer) → turn_answer (Turn.Hart hart victim) m ≡ o → IsAlone hart m (turn_of (Turn.Hart hart victim) m).machine
  go None none = absurd (let wrong : false ≡ true = ap (λ o. hart_alone o.answer) (sym (turn-unanswered (Turn.Hart hart victim) m none)) ∙ own in cc)
  go (Some a) some = alone_answered hart victim m a (ap (λ o. hart_alone o.answer) (sym (turn-answered (Turn.Hart hart victim) m a some)) ∙ own) some
