-- Where a directory is without an item none of its children holds it, and a leaf that doesn't hold an item has an entry of it only if
-- it waits for it.
-- Letters: n is a node, v a leaf, d a directory over the nodes ns, x an item.
use Rattle.std.proofs.Common.{◌≡◌, ℕ, ◌<◌, ◌≤◌, Bool, true, false, not, List, [], ◌∷◌, length, map, replicate, Option, Some, None, is_none, refl, sym, ap, ◌∙◌, arith, true≢false, All}
use Rattle.std.specs.List.{list_any}
use Rattle.std.specs.Bool.{beq}
use Rattle.std.proofs.lemmas.Bool.{and_parts, or_parts}
use Rattle.std.proofs.lemmas.List.Elements.{All-nil, All-cons}
use Rattle.ddm_tree.specs.DdmTypes.declared.answers.PendingWhy.{PendingWhy}
use Rattle.ddm_tree.specs.DdmTypes.declared.answers.TxKind.{TxKind}
use Rattle.ddm_tree.specs.DdmTypes.declared.sizes.LeafState.{LeafState}
use Rattle.ddm_tree.specs.TreeModel.State.Lists.{has_some}
use Rattle.ddm_tree.specs.TreeModel.State.States.{entry_hold, is_held}
use Rattle.ddm_tree.specs.TreeModel.State.Values.{LeafValue, DirValue, Node, Nodes, leaf_node, dir_node, no_nodes, more_nodes, nodes, children}
use Rattle.ddm_tree.specs.TreeModel.State.Leaf.{leaf_hold, state_at, waiting_item}
use Rattle.ddm_tree.specs.TreeModel.State.Directory.{dir_hold, dir_note, in_down, is_answering, note_why, pending, pending_by, queue_kinds}
use Rattle.ddm_tree.specs.TreeModel.State.Child.{child_holds}
use Rattle.ddm_tree.specs.TreeModel.Turns.Machine.{leaves_of, leaves_among}
use Rattle.ddm_tree.proofs.TreeModel.Children.{children-nodes}
use Rattle.ddm_tree.proofs.TreeModel.DirRooms.{dir_within-facts}
use Rattle.ddm_tree.specs.TreeRules.Bus.Faces.{parent_face, faces_of}
use Rattle.ddm_tree.specs.TreeRules.Bus.Item.{ItemRules, bits_of, copies_in, held_after, holds_it, hold_follows}
use Rattle.ddm_tree.specs.TreeRules.Bus.Own.{IsLeafOk, dir_lists, state_waits}
use Rattle.ddm_tree.specs.TreeRules.Bus.Rules.{AreTreesOk, IsTreeOk}
use Rattle.ddm_tree.proofs.BusLaws.HartFacts.{entries-from_rules, state-known}
use Rattle.ddm_tree.proofs.OrderLists.NoHold.{none_counted}
use Rattle.ddm_tree.specs.Ready.{IsRuled}
use Rattle.ddm_tree.specs.Reads.{is_without}
use Rattle.ddm_tree.proofs.WaitsOn.{waits-for}

-- ---- what is under a directory

not-queued : (o : Option PendingWhy) (answering queued : Bool) → is_none (pending_by o answering queued) ≡ true → queued ≡ false
not-queued (Some why) answering queued none = absurd (true≢false (sym none))
not-queued None true queued none = absurd (true≢false (sym none))
not-queued None false true none = absurd (true≢false (sym none))
not-queued None false false none = refl

pending-none : (x : ℕ) (d : DirValue) → is_none (pending x d) ≡ true → in_down x d ≡ false
unfolding pending
pending-none x d none = not-queued (note_why (dir_note x d)) (is_answering x d) (in_down x d) none

no-kinds : (ks : List TxKind) → has_some ks ≡ false → ks ≡ []
no-kinds [] none = refl
no-kinds (k ∷ ks) none = absurd (true≢false none)

same-test : (a b : Bool) → beq a b ≡ true → not a ≡ true → b ≡ false
same-test true b same lacks = absurd (true≢false (sym lacks))
same-test false true same lacks = absurd (true≢false (sym same))
same-test false false same lacks = refl

none-counted : (x : ℕ) (d : DirValue) (ns : List Node) → ItemRules (parent_face x d) (faces_of x ns) → is_without x d ≡ true → list_any holds_it (faces_of x ns) ≡ false
none-counted x d ns rules without =
    let parts = and_parts (not (is_held (dir_hold x d))) (is_none (pending x d)) without in
    let k = bits_of (parent_face x d) (faces_of x ns) in
    let follows : held_after k.held (copies_in (queue_kinds x d.down)) ≡ false = same-test _ _ (rules.each hold_follows) parts.0 in
    let queue : queue_kinds x d.down ≡ [] = no-kinds _ (pending-none x d parts.1) in
    let held : k.held ≡ false = ap (λ q. held_after k.held (copies_in q)) (sym queue) ∙ follows in
    (or_parts _ _ held).1

each-unheld : (x : ℕ) (ns : List Node) → list_any holds_it (faces_of x ns) ≡ false → All (λ n. child_holds x n ≡ false) ns
each-unheld x [] none = All-nil (λ n. child_holds x n ≡ false)
each-unheld x (n ∷ ns) none =
    let parts = none_counted x n ns none in
    All-cons (λ n. child_holds x n ≡ false) n ns parts.0 (each-unheld x ns parts.1)

pub unheld-under : (x : ℕ) (d : DirValue) (ns : List Node) → IsRuled x (dir_node d (nodes ns)) → is_without x d ≡ true → All (λ n. child_holds x n ≡ false) ns
unheld-under x d ns ruled without = each-unheld x ns (none-counted x d ns (rw (children-nodes ns) at (ruled.rules.0.rules x ruled.below)) without)

-- ---- the rules hold below, and a directory keeps something of each item

ruled-among : (items x : ℕ) (ns : Nodes) → AreTreesOk items ns → x < items → All (IsRuled x) (children ns)
ruled-among items x no_nodes ok below = All-nil (IsRuled x)
ruled-among items x (more_nodes n ns) ok below = All-cons (IsRuled x) n (children ns) (record { items = items; rules = ok.0; below = below }) (ruled-among items x ns ok.1 below)

pub ruled-children : (items x : ℕ) (ns : List Node) → AreTreesOk items (nodes ns) → x < items → All (IsRuled x) ns
ruled-children items x ns ok below = rw (children-nodes ns) at (ruled-among items x (nodes ns) ok below)

pub ruled-under : (x : ℕ) (d : DirValue) (ns : List Node) → IsRuled x (dir_node d (nodes ns)) → All (IsRuled x) ns
ruled-under x d ns ruled = ruled-children ruled.items x ns ruled.rules.1 ruled.below

pub item-there : (x : ℕ) (d : DirValue) (ns : List Node) → IsRuled x (dir_node d (nodes ns)) → x < length d.items
item-there x d ns ruled =
    let items = (dir_within-facts ruled.items d (ruled.rules.0.own.each dir_lists)).items in
    omega (arith, items, ruled.below)

-- ---- a leaf

module _ (x : ℕ) (v : LeafValue) (ruled : IsRuled x (leaf_node v)) (unheld : child_holds x (leaf_node v) ≡ false) where
  -- an entry of what isn't held waits
  waits-unheld : (o : Option LeafState) → is_held (entry_hold o) ≡ false → state_waits o ≡ false → o ≡ None
  waits-unheld None lacks idle = refl
  waits-unheld (Some LeafState.Shared) lacks idle = absurd (true≢false lacks)
  waits-unheld (Some LeafState.Exclusive) lacks idle = absurd (true≢false lacks)
  waits-unheld (Some LeafState.Waiting) lacks idle = absurd (true≢false lacks)
  waits-unheld (Some LeafState.Reading) lacks idle = absurd (true≢false idle)
  waits-unheld (Some LeafState.ReadingWaiting) lacks idle = absurd (true≢false idle)

  no-state : (waiting_item v.ways v.buffer ≡ Some x → ⊥) → state_at x v ≡ None
  unfolding leaf_hold
  no-state other =
      elim (state_waits (state_at x v)) as (λ b. state_waits (state_at x v) ≡ b → state_at x v ≡ None) [
        | true ↦ λ waits. absurd (other (waits-for ruled.items x v ruled.rules waits))
        | false ↦ λ idle. waits-unheld (state_at x v) unheld idle
      ] refl

  pub no-state-idle : None ≡ waiting_item v.ways v.buffer → None ≡ state_at x v
  no-state-idle none = sym (no-state (λ is. let no : ⊥ = cc in no))

  pub no-state-other : (y : ℕ) → Some y ≡ waiting_item v.ways v.buffer → (y ≡ x → ⊥) → None ≡ state_at x v
  no-state-other y is other = sym (no-state (λ waits. other (let same : y ≡ x = cc in same)))

-- ---- an item that isn't one of the table's has no entry

module _ (items x : ℕ) (past : items ≤ x) where
  no-entry : (v : LeafValue) → IsLeafOk items v → state_at x v ≡ None
  no-entry v ok =
      elim (state_at x v) as (λ o. state_at x v ≡ o → state_at x v ≡ None) [
        | Some s ↦ λ is.
            let below = state-known items v.sizes v.ways v.buffer (entries-from_rules items v ok) x s is in
            absurd (omega (arith, below, past))
        | None ↦ λ none. none
      ] refl

  mutual
    no-entries-in : (n : Node) (rest : List LeafValue) → IsTreeOk items n → map (state_at x) rest ≡ replicate (length rest) None → map (state_at x) (leaves_of n rest) ≡ replicate (length (leaves_of n rest)) None
    no-entries-in (leaf_node v) rest ok none = rw (no-entry v ok) (ap (λ os. None ∷ os) none)
    no-entries-in (dir_node d ns) rest ok none = no-entries-among ns rest ok.1 none

    no-entries-among : (ns : Nodes) (rest : List LeafValue) → AreTreesOk items ns → map (state_at x) rest ≡ replicate (length rest) None → map (state_at x) (leaves_among ns rest) ≡ replicate (length (leaves_among ns rest)) None
    no-entries-among no_nodes rest ok none = none
    no-entries-among (more_nodes n ns) rest ok none = no-entries-in n (leaves_among ns rest) ok.0 (no-entries-among ns rest ok.1 none)

  pub no-entries : (ns : Nodes) → AreTreesOk items ns → map (state_at x) (leaves_among ns []) ≡ replicate (length (leaves_among ns [])) None
  no-entries ns ok = no-entries-among ns [] ok refl

-- what no `Some` meets is None
pub cleared-none : {A : Type 0} (P : Option A → Type 0) → ((a : A) → P (Some a) → ⊥) → (o : Option A) → P o → o ≡ None
cleared-none P never None is = refl
cleared-none P never (Some a) is = absurd (never a is)
