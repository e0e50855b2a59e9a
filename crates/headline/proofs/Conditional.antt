-- An SC that completes: by the leaf's reservation, which where it has one is the flat machine's.
use Rattle.std.proofs.Common.{◌≡◌, ℕ, ◌+◌, Bool, true, false, List, [], ◌++◌, filter, Option, Some, None, Result, Ok, refl, sym, ap, subst, ◌∙◌}
use Rattle.std.specs.Prelude.{option_and_then, ⊤}
use Rattle.std.specs.List.{AllByRecursion}
use Rattle.headline.specs.DdmTypes.declared.answers.TurnAnswer.{TurnAnswer}
use Rattle.headline.specs.DdmTypes.declared.operations.Effect.{Effect}
use Rattle.headline.specs.DdmTypes.declared.operations.Effect.TheVariants.{Plain, Put, Load, Store, Lr, ScOk, ScFail, Amo}
use Rattle.headline.specs.DdmTypes.declared.operations.HaltCause.{HaltCause}
use Rattle.headline.specs.DdmTypes.declared.operations.Op.{Op}
use Rattle.headline.specs.DdmTypes.declared.turns.Turn.{Turn}
use Rattle.headline.specs.DdmTypes.Keys.{key_less}
use Rattle.headline.specs.DdmTypes.CodeMap.{CodeWord}
use Rattle.headline.specs.DdmTypes.ItemTable.{ItemTable, item_at}
use Rattle.headline.specs.FlatModel.Hart.{HartValue, Action, Halts, Computes, Puts, Loads, Stores, Reserves, StoresIfReserved, Changes, action_of, ask_by, ask_of, finish_by, finish_of}
use Rattle.headline.specs.FlatModel.Flat.{FlatMachine, Change, flat_hart, has_reserved, conditional, change_by}
use Rattle.headline.specs.FlatModel.Legal.{HasWholeWords, reservation, legal_run}
use Rattle.headline.proofs.FlatModel.Actions.{IsActionOf, action_is}
use Rattle.headline.proofs.FlatModel.Items.{item_at_word}
use Rattle.headline.proofs.FlatModel.Runs.{legal_run_append}
use Rattle.headline.proofs.FlatModel.Steps.{same_change}
use Rattle.headline.proofs.FlatModel.Reserving.{run_reserves}
use Rattle.headline.specs.TreeModel.State.Values.{LeafValue, DirValue, Node, Nodes, leaf_node, dir_node, no_nodes, more_nodes, MachineValue, root_of}
use Rattle.headline.specs.TreeModel.State.Place.{Spot, spot_path, spot_in}
use Rattle.headline.specs.TreeModel.State.Shape.{depth_of, IsShaped}
use Rattle.headline.specs.TreeModel.Turns.HartTurn.{change_here, words_here}
use Rattle.headline.specs.TreeModel.Turns.Tree.{leaf_of_number, has_node}
use Rattle.headline.specs.TreeModel.Turns.Witness.{sorted_ops}
use Rattle.headline.proofs.TreeModel.TurnChanges.{turn-changes_nothing}
use Rattle.headline.specs.TreeRules.Statements.{Holds, if_there}
use Rattle.headline.specs.TreeRules.Order.Moments.{less}
use Rattle.headline.specs.TreeRules.Order.Ops.{op_key}
use Rattle.headline.specs.TreeRules.Order.Places.{LeafAt, leaf_now, leaves_in, placed_leaves, leaves_at}
use Rattle.headline.specs.TreeRules.Order.Core as core
use Rattle.headline.proofs.OrderLists.Filters.{each-weaker, each-both, each-append}
use Rattle.headline.proofs.OrderLists.Sorted.{lesser, greater}
use Rattle.order_laws.proofs.Hart.HartMachine.{Tip, hart_turned}
use Rattle.order_laws.proofs.Hart.LeafPlaces.{IsOnlyOf}
use Rattle.order_laws.proofs.Hart.FromRules.{facts_from_rules}
use Rattle.order_laws.proofs.Hart.Completed.{whole_words}
use Rattle.order_laws.proofs.Hart.ReservedKept.{is_split, before_now}
use Rattle.order_laws.proofs.Grant.ReservedKept.{reserved-is}
use Rattle.order_laws.proofs.Hart.Seen.{Before, flat, OpSeen, ops_seen, differ, new, now_is, done, flat_run}
use Rattle.headline.specs.Conditional.{reservation_of, IsJudged, ConditionalStoresJudged}
use Rattle.headline.proofs.Standing.{StandsIn, in_here, in_below, StandsAmong, in_first, in_later}
use Rattle.headline.proofs.Numbered.{asked-leaf}

-- ---- the instruction

-- what an effect of an SC says of the reservation that was there
abbrev SaysReserved : ItemTable → Option ℕ → Effect → Type 0
SaysReserved items r Plain = ⊤
SaysReserved items r (Put byte) = ⊤
SaysReserved items r (Load address word) = ⊤
SaysReserved items r (Store address before after) = ⊤
SaysReserved items r (Lr address word) = ⊤
SaysReserved items r (ScOk address before after) = (x : ℕ) × (item_at items address ≡ Some x) × (has_reserved r x ≡ true)
SaysReserved items r (ScFail address) = (x : ℕ) × (item_at items address ≡ Some x) × (has_reserved r x ≡ false)
SaysReserved items r (Amo address before after) = ⊤

module _ (items : ItemTable) (whole : HasWholeWords items) (h : HartValue) (r : Option ℕ) where
  -- a change that was made says it
  says : (known c : Change) → SaysReserved items r known.effect → (let o : Result Change HaltCause = Ok known in o ≡ Ok c) → SaysReserved items r c.effect
  says known c s e = subst (λ (k : Change). SaysReserved items r k.effect) (same_change known c e) s

  by_action : (act : Action) → IsActionOf items h act → (words : ℕ → List ℕ) (c : Change) → change_by (ask_by act) r (finish_by act h) words true ≡ Ok c → SaysReserved items r c.effect
  by_action (Halts cause) is words c e = absurd (let wrong : ⊥ = cc in wrong)
  by_action (Computes after) is words c e = says _ c tt e
  by_action (Puts byte after) is words c e = says _ c tt e
  by_action (Loads op rd a) is words c e = says _ c tt e
  by_action (Stores op v a) is words c e = says _ c tt e
  by_action (Reserves rd a) is words c e = says _ c tt e
  by_action (StoresIfReserved rd v a) is words c e = by_reserved (has_reserved r a.item) refl e where
    by_reserved : (b : Bool) → has_reserved r a.item ≡ b → (let o : Result Change HaltCause = Ok (conditional b a.item (finish_by (StoresIfReserved rd v a) h (words a.item))) in o ≡ Ok c) → SaysReserved items r c.effect
    by_reserved true has e = says _ c (a.item, item_at_word items a.address whole ∙ is.item, has) e
    by_reserved false has e = says _ c (a.item, item_at_word items a.address whole ∙ is.item, has) e
  by_action (Changes op rd v a) is words c e = says _ c tt e

change-says : (code : List CodeWord) (items : ItemTable) (v : LeafValue) (c : Change) → HasWholeWords items → change_here code items v ≡ Ok c → SaysReserved items v.reservation c.effect
unfolding change_here ask_of finish_of
change-says code items v c whole e = by_action items whole v.hart v.reservation (action_of code items v.hart) (action_is code items v.hart) (words_here v) c e

-- ---- the leaves of a machine stand in its tree

mutual
  leaves-stand : (c : Spot) (n : Node) → AllByRecursion (λ (a : LeafAt). StandsIn (leaf_node a.leaf) n) (leaves_in c n)
  leaves-stand c (leaf_node v) = (in_here, tt)
  leaves-stand c (dir_node d ns) = each-weaker _ _ (λ a i. in_below i) _ (placed-stand (spot_path c) d 0 ns)

  placed-stand : (path : List ℕ) (d : DirValue) (i : ℕ) (ns : Nodes) → AllByRecursion (λ (a : LeafAt). StandsAmong (leaf_node a.leaf) ns) (placed_leaves path d i ns)
  placed-stand path d i no_nodes = tt
  placed-stand path d i (more_nodes n ns) = each-append _ (leaves_in (spot_in path d i) n) (placed_leaves path d (i + 1) ns) (each-weaker _ _ (λ a s. in_first s) _ (leaves-stand (spot_in path d i) n)) (each-weaker _ _ (λ a s. in_later s) _ (placed-stand path d (i + 1) ns))

abbrev TellsReservation : MachineValue → LeafAt → Type 0
TellsReservation m a = reservation_of a.leaf.number m ≡ Some a.leaf.reservation

all_tell : (m : MachineValue) → IsShaped m → AllByRecursion (TellsReservation m) (leaves_at m)
unfolding leaves_at
all_tell m shaped = each-weaker _ _ (λ a i. asked-leaf m shaped a.leaf (in_below i) (λ v. v.reservation) None) _ (placed-stand [] m.top 0 m.kids)

-- ---- lists

legal-first : (code : List CodeWord) (items : ItemTable) (s z : FlatMachine) (first rest : List Op) → legal_run code items s (first ++ rest) ≡ Some z → (y : FlatMachine) × (legal_run code items s first ≡ Some y)
legal-first code items s z first rest e = go (legal_run code items s first) refl where
  go : (o : Option FlatMachine) → legal_run code items s first ≡ o → (y : FlatMachine) × (legal_run code items s first ≡ Some y)
  go None i = absurd (let none : None ≡ Some z = sym (ap (option_and_then (λ n. legal_run code items n rest)) i) ∙ sym (legal_run_append code items s first rest) ∙ e in let wrong : ⊥ = cc in wrong)
  go (Some y) i = (y, i)

-- ---- a turn that completes

module _ (s : FlatMachine) (hart victim : ℕ) (m : MachineValue) (op : Op) (was : Before s hart victim m op) where
  abbrev place : LeafAt
  place = (done s hart victim m op was).place

  number_is : op.hart ≡ place.leaf.number
  number_is = (done s hart victim m op was).new.hart

  told : reservation_of op.hart m ≡ Some place.leaf.reservation
  told = ap (λ n. reservation_of n m) number_is ∙ by_tip (was.turned.tip (λ a. TellsReservation m a × IsOnlyOf place a) (each-both _ _ (λ a. TellsReservation m a × IsOnlyOf place a) (λ a h k. (h, k)) (leaves_at m) (all_tell m was.shaped) (done s hart victim m op was).new.only)) where
    by_tip : Tip hart victim m (λ a. TellsReservation m a × IsOnlyOf place a) was.turned.at → TellsReservation m place
    by_tip t = subst (TellsReservation m) (t.fact.1 (t.takes.number ∙ sym (done s hart victim m op was).takes.number)) t.fact.0

  -- the lesser operations are legal, and leave the reservation that the leaf has
  lesser_run : (z : FlatMachine) × (legal_run m.code m.items s (lesser op (sorted_ops m.ops)) ≡ Some z)
  lesser_run =
      legal-first m.code m.items s (flat s hart victim m op was) (lesser op (sorted_ops m.ops)) (greater op (sorted_ops m.ops))
      (ap (legal_run m.code m.items s) (is_split m.code m.items m.ops op (differ s hart victim m op was) (new s hart victim m op was)) ∙ flat_run s hart victim m op was)

  earlier : filter (λ (o : Op). less (op_key (depth_of m) o) (leaf_now place)) (sorted_ops m.ops) ≡ lesser op (sorted_ops m.ops)
  earlier =
      before_now m.code m.items m.ops op (differ s hart victim m op was) (new s hart victim m op was) (λ o. less (op_key (depth_of m) o) (leaf_now place))
      (each-weaker (OpSeen s hart victim m op was) (λ (o : Op). less (op_key (depth_of m) o) (leaf_now place) ≡ key_less o.key op.key) (λ o i. sym (i.same ∙ ap (less (op_key (depth_of m) o)) (now_is s hart victim m op was))) m.ops (ops_seen s hart victim m op was))

  flat_reserved : (x : ℕ) → place.leaf.reservation ≡ Some x → (flat_hart lesser_run.0 op.hart).reserved ≡ Some x
  flat_reserved x e =
      let kept : Holds (if_there (core.keeps_reserved s (depth_of m) m.items m.ops place) (Some x)) = subst (λ o. Holds (if_there (core.keeps_reserved s (depth_of m) m.items m.ops place) o)) e (done s hart victim m op was).fact.reserved in
      run_reserves m.code m.items s (lesser op (sorted_ops m.ops)) lesser_run.0 op.hart (whole_words m was.shaped) lesser_run.1
      ∙ ap (λ n. reservation m.items n (flat_hart s n).reserved (lesser op (sorted_ops m.ops))) number_is
      ∙ ap (reservation m.items place.leaf.number (flat_hart s place.leaf.number).reserved) (sym earlier)
      ∙ reserved-is (core.reserved_until s (depth_of m) m.items m.ops place.leaf.number (leaf_now place)) x kept.1

  judged_by : (e : Effect) → SaysReserved m.items place.leaf.reservation e → IsJudged s m op e
  judged_by Plain h = tt
  judged_by (Put byte) h = tt
  judged_by (Load address word) h = tt
  judged_by (Store address before after) h = tt
  judged_by (Lr address word) h = tt
  judged_by (ScOk address before after) h =
      let is : place.leaf.reservation ≡ Some h.0 = reserved-is place.leaf.reservation h.0 h.2 in
      record { item = h.0; at = h.1; leaf = told ∙ ap (λ r. Some r) is; before = lesser_run.0; run = lesser_run.1; flat = flat_reserved h.0 is }
  judged_by (ScFail address) h = record { item = h.0; at = h.1; reserved = place.leaf.reservation; leaf = told; other = h.2 }
  judged_by (Amo address before after) h = tt

  pub judged : IsJudged s m op op.effect
  judged =
      let r = (done s hart victim m op was).retires in
      judged_by op.effect (subst (SaysReserved m.items place.leaf.reservation) (sym (ap (λ (o : Op). o.effect) r.op_is)) (change-says m.code m.items place.leaf r.change (whole_words m was.shaped) r.made))

pub stores-judged : ConditionalStoresJudged
stores-judged s m hart victim op shaped ok timed order retired = go (has_node (leaf_of_number hart) (root_of m)) refl where
  go : (t : Bool) → has_node (leaf_of_number hart) (root_of m) ≡ t → IsJudged s m op op.effect
  go true there = judged s hart victim m op (record { shaped = shaped; ok = ok; timed = timed; order = order; facts = λ x l. facts_from_rules s m shaped ok timed order x l; turned = hart_turned hart victim m ok there; retired = retired })
  go false absent = absurd (let none : TurnAnswer.Empty ≡ TurnAnswer.Retired op = sym (ap (λ o. o.answer) (turn-changes_nothing (Turn.Hart hart victim) m absent)) ∙ retired in let wrong : ⊥ = cc in wrong)
