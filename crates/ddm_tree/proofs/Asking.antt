-- What a bus would do is asked along a path.
use Rattle.std.proofs.Common.{◌≡◌, ◌<◌, ◌≤◌, ℕ, zero, suc, Bool, true, List, [], ◌∷◌, length, map, get_or, Some, refl, sym, ap, subst, ◌∙◌, arith, true≢false}
use Rattle.std.specs.Prelude.{is_some}
use Rattle.std.proofs.lemmas.Bool.{eqb-true}
use Rattle.std.proofs.lemmas.List.{get_or-map, length-map}
use Rattle.ddm_tree.specs.DdmTypes.declared.keys.Stamp.{Stamp}
use Rattle.ddm_tree.specs.DdmTypes.declared.turns.Turn.{Turn}
use Rattle.ddm_tree.specs.DdmTypes.Keys.{stamp_zero}
use Rattle.ddm_tree.specs.TreeModel.declared.BusTurn.{BusTurn}
use Rattle.ddm_tree.specs.TreeModel.State.Values.{DirValue, Node, leaf_node, dir_node, nodes, children, MachineValue, root_of}
use Rattle.ddm_tree.specs.TreeModel.State.Blank.{no_node}
use Rattle.ddm_tree.specs.TreeModel.State.Rooms.{dir_within, all_within, all_within_among}
use Rattle.ddm_tree.specs.TreeModel.Turns.Bus.{bus_step}
use Rattle.ddm_tree.specs.TreeModel.Turns.Children.{child_at}
use Rattle.ddm_tree.specs.TreeModel.Turns.Machine.{named_by, names_part, bus_turn_of, turn_of}
use Rattle.ddm_tree.specs.TreeModel.Turns.Tree.{Name, bus_of_number, is_named, has_node}
use Rattle.ddm_tree.proofs.TreeModel.Children.{children-nodes}
use Rattle.ddm_tree.proofs.TreeModel.DirRooms.{dir_within-facts}
use Rattle.ddm_tree.proofs.TreeModel.Tests.{and-first, and-second}
use Rattle.ddm_tree.specs.ItemStates.Parts.{node_items}
use Rattle.split_bus.specs.Outcomes.{AreSized, NamesOneOf, goes_on_with, is_granted}
use Rattle.ddm_tree.specs.Machine.{is_part}
use Rattle.ddm_tree.specs.Path.{node_at, present_at, node_answer}
use Rattle.ddm_tree.specs.Reads.{node_grants, is_down_request_or_reply}
use Rattle.ddm_tree.specs.Ready.{IsAskable, Leads, HasChild}
use Rattle.ddm_tree.proofs.Along.{turn-along, path_to-there}
use Rattle.ddm_tree.proofs.Descend.{within-child}
use Rattle.ddm_tree.proofs.Names.{part-leads}
use Rattle.ddm_tree.proofs.Reading.{named-there}
use Rattle.ddm_tree.proofs.Steps.{own-few, step-fits, step-inside}

-- how many items each child keeps something of
items-of : (items : ℕ) (n : Node) → all_within items n ≡ true → node_items n ≡ items
items-of items (leaf_node v) e = eqb-true _ _ (and-first _ _ e)
items-of items (dir_node d ns) e = (dir_within-facts items d (and-first _ (all_within_among items ns) e)).items

get_or-same : {X : Type 0} (xs : List X) (k : ℕ) (d e : X) → k < length xs → get_or xs k d ≡ get_or xs k e
get_or-same [] k d e h = absurd (omega arith)
get_or-same (x ∷ xs) zero d e h = refl
get_or-same (x ∷ xs) (suc k) d e h = get_or-same xs k d e (omega arith)

module _ {A : Type 0} (f : A → Node) (d : DirValue) (xs : List A) (width : ℕ) (askable : IsAskable width (dir_node d (nodes (map f xs)))) where
  -- each child of it
  kid-within : (i : ℕ) → i < length (map f xs) → all_within askable.items (child_at i (map f xs)) ≡ true
  kid-within i l =
      let below = and-second (dir_within askable.items d) _ askable.rooms in
      let there : i < length (children (nodes (map f xs))) = rw (children-nodes (map f xs)) l in
      rw (children-nodes (map f xs)) at (within-child askable.items (nodes (map f xs)) i below there)

  pub asked-sized : AreSized d (map f xs)
  asked-sized k e within =
      let own = (dir_within-facts askable.items d (and-first _ (all_within_among askable.items (nodes (map f xs))) askable.rooms)).items in
      ap node_items (get_or-same (map f xs) k e no_node within) ∙ items-of askable.items (child_at k (map f xs)) (kid-within k within) ∙ sym own

  pub asked-few : length xs ≤ 16
  asked-few = own-few f d xs [] refl askable.buses

  module _ (name : Name) (path : List ℕ) (i : ℕ) (rest : List ℕ) (on : path ≡ i ∷ rest) (leads : Leads name path (dir_node d (nodes (map f xs)))) (x : A) (is : x ≡ get_or xs i x) where
    pub step-askable : IsAskable width (f x)
    step-askable =
        let there : i < length xs = step-inside f d xs name path i rest on leads in
        let at : child_at i (map f xs) ≡ f x = get_or-map f xs i x no_node there ∙ ap f (sym is) in
        record {
          fits = askable.fits;
          items = askable.items;
          rooms = rw at at (kid-within i (omega (arith, there, length-map xs f)));
          buses = step-fits f d xs name path i rest on leads x is askable.buses;
        }

-- ---- the directory's own bus

module _ {A : Type 0} (f : A → Node) (d : DirValue) (xs : List A) (path : List ℕ) (own : path ≡ []) (t : BusTurn) where
  pub own-grants : (above : Stamp) → is_granted (bus_step above t d (map f xs)).answer ≡ node_grants above t (node_at path (dir_node d (nodes (map f xs))))
  own-grants above = rw own (ap (λ ns. is_granted (bus_step above t d ns).answer) (sym (children-nodes (map f xs))))

  pub own-child : HasChild t (node_at path (dir_node d (nodes (map f xs)))) → NamesOneOf (length xs) t
  own-child has =
      let here : HasChild t (dir_node d (nodes (map f xs))) = rw own at has in
      let named : NamesOneOf (length (map f xs)) t = rw (children-nodes (map f xs)) at here in
      rw (length-map xs f) at named

-- ---- a machine

module _ (t : Turn) (m : MachineValue) (named : names_part t m ≡ true) (bus : ℕ) (same : named_by t ≡ bus_of_number bus) where
  pub asked-part : is_part (bus_of_number bus) m ≡ true
  asked-part =
      let found = part-leads m t named in
      subst (λ name. has_node name (root_of m) ≡ true) same (sym (path_to-there (named_by t) (root_of m)) ∙ ap is_some found.1.leads)

  module _ (path : List ℕ) (leads : Leads (bus_of_number bus) path (root_of m)) where
    some-same : {X : Type 0} {x y : X} → Some x ≡ Some y → x ≡ y
    some-same e = cc

    turn-leads : Leads (named_by t) path (root_of m)
    turn-leads = rw same leads

    pub asked-child : HasChild (bus_turn_of t) (node_at path (root_of m))
    asked-child =
        let found = part-leads m t named in
        let one : found.0 ≡ path = some-same (sym found.1.leads ∙ turn-leads) in
        subst (λ p. HasChild (bus_turn_of t) (node_at p (root_of m))) one found.1.child

    pub asked-turn : (b : Bool) → ((above : Stamp) → b ≡ node_grants above (bus_turn_of t) (node_at path (root_of m))) → b ≡ is_granted (turn_of t m).answer
    asked-turn b asked =
        let present : Stamp = present_at path stamp_zero (root_of m) in
        asked present ∙ at-node (node_at path (root_of m)) (named-there m (bus_of_number bus) path leads) ∙ ap (λ r. is_granted r.answer) (sym (turn-along t path m turn-leads)) where
          at-node : (n : Node) → is_named (bus_of_number bus) n ≡ true → node_grants (present_at path stamp_zero (root_of m)) (bus_turn_of t) n ≡ is_granted (node_answer m.code m.items t path (present_at path stamp_zero (root_of m)) n)
          at-node (leaf_node v) is = absurd (true≢false (sym is))
          at-node (dir_node d ns) is = refl

pub asked-kind : (t : Turn) → is_down_request_or_reply t ≡ true → goes_on_with (bus_turn_of t) ≡ true
asked-kind (Turn.Down bus) e = refl
asked-kind (Turn.Request bus child) e = refl
asked-kind (Turn.Reply bus child) e = refl
asked-kind (Turn.Hart hart victim) e = absurd (true≢false (sym e))
asked-kind (Turn.Leave bus child choice) e = absurd (true≢false (sym e))
