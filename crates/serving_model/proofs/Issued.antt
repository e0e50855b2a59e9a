-- A hart's turn in a machine at rest that issues a request: then all is at rest but for its leaf, which asks.
-- Letters: n is how many items there are, x the item, h the hart and its leaf, m a part or a machine, d a directory
-- over the children ns, w a place, c the child that is over the leaf.
use Rattle.std.proofs.Common.{◌≡◌, ◌≢◌, ℕ, zero, suc, ◌+◌, ◌<◌, Bool, true, false, List, [], ◌∷◌, length, Option, Some, None, refl, sym, ap, subst, ◌∙◌, arith, get_or-set_same, get_or-set_other}
use Rattle.std.specs.Prelude.{◌-◌, ◌||◌, nat_eq, slice_set, if◌then◌else◌}
use Rattle.std.proofs.lemmas.List.{length-set}
use Rattle.serving_model.specs.DdmTypes.CodeMap.{CodeWord}
use Rattle.serving_model.specs.DdmTypes.ItemTable.{ItemTable, item_count}
use Rattle.serving_model.specs.DdmTypes.declared.answers.TurnAnswer.{TurnAnswer}
use Rattle.serving_model.specs.DdmTypes.declared.answers.TxKind.{TxKind}
use Rattle.serving_model.specs.DdmTypes.declared.answers.TxKind.TheVariants.{ReadTx, EraseTx}
use Rattle.serving_model.specs.DdmTypes.declared.sizes.LeafState.{LeafState}
use Rattle.serving_model.specs.DdmTypes.declared.turns.Turn.{Turn}
use Rattle.bus_laws.specs.FlatModel.Flat.{FlatHart, no_flat_hart}
use Rattle.serving_model.specs.TreeModel.State.Lists.{find_from}
use Rattle.serving_model.specs.TreeModel.State.States.{is_reading}
use Rattle.serving_model.specs.TreeModel.State.Values.{LeafValue, DirValue, Node, Nodes, leaf_node, dir_node, no_nodes, more_nodes, nodes, children}
use Rattle.serving_model.specs.TreeModel.State.Blank.{no_node}
use Rattle.serving_model.specs.TreeModel.State.Place.{Where, at_child, key_at_leaf, where_path, spot_in}
use Rattle.serving_model.specs.TreeModel.Turns.Children.{child_at}
use Rattle.serving_model.specs.TreeModel.Turns.Tree.{Name, leaf_of_number, has_node, has_among, read_in, read_among, changed_in, changed_among, of_leaf}
use Rattle.serving_model.specs.TreeModel.Turns.HartTurn.{LeafOutcome, leaf_step}
use Rattle.serving_model.specs.TreeModel.Turns.Machine.{answer_here, node_after}
use Rattle.serving_model.specs.Parts.{FlatView, Settled, Calm}
use Rattle.serving_model.specs.OneLeaf.{leaf_hart, LeafIs, Spine, at_leaf, over}
use Rattle.serving_model.specs.Walk.{is_over, child_over}
use Rattle.serving_model.proofs.TreeModel.Children.{nodes-children, children-nodes, found-passes, found-within}
use Rattle.serving_model.proofs.Settled.{calm-dir}
use Rattle.serving_model.proofs.Steps.{read-child, change-child}
use Rattle.serving_model.proofs.Lists.{part-induction}
use Rattle.serving_model.proofs.TreeModel.HartKeeps.{leaf_step-keeps}
use Rattle.serving_model.proofs.TreeModel.NamedNode.{read_among-absent}
use Rattle.serving_model.proofs.Wants.{Wants, finally}
use Rattle.serving_model.proofs.Hart.{Issue, reads_it, erases_it, leaf-issues}

-- the children before the one that is found don't pass
pub lower-fail : (t : ℕ → Node → Bool) (i k : ℕ) (ns : List Node) → find_from t i ns ≡ Some (i + k) → (j : ℕ) → j < k → t (i + j) (child_at j ns) ≡ false
lower-fail t i k [] found j l = cc
lower-fail t i k (m ∷ ns) found j l = at (t i m) refl found j l (λ rest j lj. lower-fail t (i + 1) (k - 1) ns (rest ∙ ap Some (let same : i + k ≡ (i + 1) + (k - 1) = omega (arith, lj, l) in same)) j (omega (arith, lj))) where
  at : (b : Bool) → t i m ≡ b → (if b then Some i else find_from t (i + 1) ns) ≡ Some (i + k) → (j : ℕ) → j < k → (find_from t (i + 1) ns ≡ Some (i + k) → (j : ℕ) → j < k - 1 → t ((i + 1) + j) (child_at j ns) ≡ false) → t (i + j) (child_at j (m ∷ ns)) ≡ false
  at true is e j l rest =
      let same : i ≡ i + k = cc in
      absurd (omega (arith, same, l))
  at false is e zero l rest =
      let same : i ≡ i + 0 = omega arith in
      subst (λ a. t a m ≡ false) same is
  at false is e (suc j) l rest =
      let same : (i + 1) + j ≡ i + suc j = omega arith in
      subst (λ a. t a (child_at j ns) ≡ false) same (rest e j (omega (arith, l)))

module _ (h : ℕ) where
  abbrev name : Name
  name = leaf_of_number h

  pub none-among : (i : ℕ) (ns : Nodes) → find_from (is_over h) i (children ns) ≡ None → has_among name ns ≡ false
  none-among i no_nodes none = refl
  none-among i (more_nodes m ns) none = at (has_node name m) refl none (λ rest. none-among (i + 1) ns rest) where
    at : (b : Bool) → has_node name m ≡ b → (if b then Some i else find_from (is_over h) (i + 1) (children ns)) ≡ None → (find_from (is_over h) (i + 1) (children ns) ≡ None → has_among name ns ≡ false) → has_among name (more_nodes m ns) ≡ false
    at true is e rest = cc
    at false is e rest = rw is (rest e)

  pub has-child : (c : ℕ) (ns : Nodes) → c < length (children ns) → has_node name (child_at c (children ns)) ≡ true → has_among name ns ≡ true
  has-child c no_nodes l has = absurd (omega (arith, l))
  has-child zero (more_nodes m ns) l has = rw has refl
  has-child (suc c) (more_nodes m ns) l has = or-second (has_node name m) _ (has-child c ns (omega (arith, l)) has) where
    or-second : (a b : Bool) → b ≡ true → (a || b) ≡ true
    or-second true b e = refl
    or-second false b e = e

  find-set : (new : Node) → has_node name new ≡ true → (i c : ℕ) (ks : List Node) → c < length ks → ((j : ℕ) → j < c → has_node name (child_at j ks) ≡ false) → find_from (is_over h) i (slice_set ks c new) ≡ Some (i + c)
  find-set new has i c [] l lower = absurd (omega (arith, l))
  find-set new has i zero (k ∷ ks) l lower =
      let same : i ≡ i + 0 = omega arith in
      rw has (ap Some same)
  find-set new has i (suc c) (k ∷ ks) l lower =
      let none : has_node name k ≡ false = lower 0 (omega arith) in
      let same : (i + 1) + c ≡ i + suc c = omega arith in
      rw none (find-set new has (i + 1) c ks (omega (arith, l)) (λ j lj. lower (suc j) (omega (arith, lj))) ∙ ap Some same)

  pub spine-has : (n : ℕ) (flat : FlatView) (Q : LeafValue → Type 0) (m : Node) → Spine n flat h Q m → has_node name m ≡ true
  spine-has n flat Q (leaf_node v) (at_leaf number is) = number
  spine-has n flat Q (dir_node d ns) (over c is there rests room others deeper) = has-child c ns there (spine-has n flat Q (child_at c (children ns)) deeper)

  module _ (code : List CodeWord) (items : ItemTable) (flat : FlatView) (victim : ℕ) (kind : TxKind) (x : ℕ) where
    abbrev n : ℕ
    n = item_count items

    abbrev t : Turn
    t = Turn.Hart h victim

    abbrev changed : Where → Node → Node
    changed w m = changed_in name (node_after code items t) w m

    -- all of the part is at rest but for the leaf, which asks
    pub data IssuedIn (F : FlatHart → Type 0) (S : (LeafValue → Type 0) → Type 0) : Type 0 where
      reads_in : (g : FlatHart) (state : LeafState) → is_reading state ≡ true → kind ≡ ReadTx → x < n → F g → Wants code items g x (finally state) → S (LeafIs n flat g x state (Some (record { kind = ReadTx; item = x }))) → IssuedIn F S
      erases_in : (g : FlatHart) → kind ≡ EraseTx → x < n → F g → Wants code items g x LeafState.Exclusive → S (LeafIs n flat g x LeafState.Waiting (Some (record { kind = EraseTx; item = x }))) → IssuedIn F S

    pub onto : {F G : FlatHart → Type 0} {S T : (LeafValue → Type 0) → Type 0} → ((g : FlatHart) → F g → G g) → ((Q : LeafValue → Type 0) → S Q → T Q) → IssuedIn F S → IssuedIn G T
    onto k f (reads_in g state reads is known own wants s) = reads_in g state reads is known (k g own) wants (f _ s)
    onto k f (erases_in g is known own wants s) = erases_in g is known (k g own) wants (f _ s)

    -- the leaf's hart
    abbrev pub hart_in : Where → Node → FlatHart
    hart_in = of_leaf (λ w v. leaf_hart v) no_flat_hart

    abbrev Part : Node → Type 0
    Part m = (w : Where) → Calm n flat m → read_in name (answer_here code items t) w m ≡ Some (TurnAnswer.Issued kind x) → IssuedIn (λ g. read_in name hart_in w m ≡ Some g) (λ Q. Spine n flat h Q (changed w m))

    module _ (v : LeafValue) (w : Where) where
      abbrev step : LeafOutcome
      step = leaf_step code items (key_at_leaf w v.done) victim v

      number : nat_eq v.number h ≡ true → nat_eq step.leaf.number h ≡ true
      number is = ap (λ k. nat_eq k h) (leaf_step-keeps code items (key_at_leaf w v.done) victim v).number ∙ is

      issued-by : nat_eq v.number h ≡ true → Issue code items n flat (leaf_hart v) step.leaf kind x → IssuedIn (λ g. Some (leaf_hart v) ≡ Some g) (λ Q. Spine n flat h Q (leaf_node step.leaf))
      issued-by is (reads_it state reads k known wants q) = reads_in (leaf_hart v) state reads k known refl wants (at_leaf (number is) q)
      issued-by is (erases_it k known wants q) = erases_in (leaf_hart v) k known refl wants (at_leaf (number is) q)

    issued-leaf : (v : LeafValue) → Part (leaf_node v)
    issued-leaf v w calm e = at (nat_eq v.number h) refl e where
      at : (b : Bool) → nat_eq v.number h ≡ b → (if b then Some (answer_here code items t w (leaf_node v)) else None) ≡ Some (TurnAnswer.Issued kind x) → IssuedIn (λ g. (if b then Some (leaf_hart v) else None) ≡ Some g) (λ Q. Spine n flat h Q (changed w (leaf_node v)))
      at true is e =
          let answer : (step v w).answer ≡ TurnAnswer.Issued kind x = cc in
          rw is (issued-by v w is (leaf-issues code items flat v calm.rules calm.settled (key_at_leaf w v.done) victim kind x answer))
      at false is e = cc

    -- the child over the leaf, and what becomes of it
    pub record KidIssued (d : DirValue) (ns : Nodes) (w : Where) : Type 0 where
      pub child : ℕ
      pub there : child < length (children ns)
      pub lower : (j : ℕ) → j < child → has_node name (child_at j (children ns)) ≡ false
      pub new : Node
      pub becomes : changed_among name (node_after code items t) (where_path w) d 0 ns ≡ nodes (slice_set (children ns) child new)
      pub issued : IssuedIn (λ g. read_among name hart_in (where_path w) d 0 ns ≡ Some g) (λ Q. Spine n flat h Q new)

    pub kid-issued : (d : DirValue) (ns : Nodes) (w : Where) → ((k : ℕ) → k < length (children ns) → Part (child_at k (children ns))) → ((k : ℕ) → k < length (children ns) → Calm n flat (child_at k (children ns))) → read_among name (answer_here code items t) (where_path w) d 0 ns ≡ Some (TurnAnswer.Issued kind x) → KidIssued d ns w
    kid-issued d ns w deeper calm e = at (child_over h ns) refl where
      at : (o : Option ℕ) → child_over h ns ≡ o → KidIssued d ns w
      at None none =
          let absent : read_among name (answer_here code items t) (where_path w) d 0 ns ≡ None = read_among-absent name (answer_here code items t) (where_path w) d 0 ns (none-among 0 ns none) in
          cc
      at (Some k) found =
          let there = found-within (is_over h) k (children ns) no_node found in
          let has : has_node name (child_at k (children ns)) ≡ true = found-passes (is_over h) k (children ns) no_node found in
          let same : Some k ≡ Some (0 + k) = ap Some (let z : k ≡ 0 + k = omega arith in z) in
          let lower : (j : ℕ) → j < k → has_node name (child_at j (children ns)) ≡ false = λ j l. lower-fail (is_over h) 0 k (children ns) (found ∙ same) j l in
          let spot = at_child (spot_in (where_path w) d k) in
          let zero_more : 0 + k ≡ k = omega arith in
          let reading : read_among name (answer_here code items t) (where_path w) d 0 ns ≡ read_in name (answer_here code items t) spot (child_at k (children ns)) =
          ap (read_among name (answer_here code items t) (where_path w) d 0) (sym (nodes-children ns)) ∙ (read-child code items name (answer_here code items t) (where_path w) d 0 k (children ns) there has lower ∙ ap (λ i. read_in name (answer_here code items t) (at_child (spot_in (where_path w) d i)) (child_at k (children ns))) zero_more) in
          let owned : read_among name hart_in (where_path w) d 0 ns ≡ read_in name hart_in spot (child_at k (children ns)) =
          ap (read_among name hart_in (where_path w) d 0) (sym (nodes-children ns)) ∙ (read-child code items name hart_in (where_path w) d 0 k (children ns) there has lower ∙ ap (λ i. read_in name hart_in (at_child (spot_in (where_path w) d i)) (child_at k (children ns))) zero_more) in
          let becomes : changed_among name (node_after code items t) (where_path w) d 0 ns ≡ nodes (slice_set (children ns) k (changed spot (child_at k (children ns)))) =
          ap (changed_among name (node_after code items t) (where_path w) d 0) (sym (nodes-children ns)) ∙ (change-child code items name (node_after code items t) (where_path w) d 0 k (children ns) there has lower ∙ ap (λ i. nodes (slice_set (children ns) k (changed (at_child (spot_in (where_path w) d i)) (child_at k (children ns))))) zero_more) in
          record { child = k; there = there; lower = lower; new = changed spot (child_at k (children ns)); becomes = becomes; issued = onto (λ g own. owned ∙ own) (λ Q spine. spine) (deeper k there spot (calm k there) (sym reading ∙ e)) }

    -- the children when that child is set
    pub record SetKids (Q : LeafValue → Type 0) (k : ℕ) (ns : Nodes) : Type 0 where
      pub is : child_over h ns ≡ Some k
      pub there : k < length (children ns)
      pub others : (j : ℕ) → j < length (children ns) → j ≢ k → Settled n flat (child_at j (children ns))
      pub spine : Spine n flat h Q (child_at k (children ns))

    pub set-kids : (ns : Nodes) (k : ℕ) → ((j : ℕ) → j < length (children ns) → Calm n flat (child_at j (children ns))) → k < length (children ns) → ((j : ℕ) → j < k → has_node name (child_at j (children ns)) ≡ false) → (new : Node) (Q : LeafValue → Type 0) → Spine n flat h Q new → SetKids Q k (nodes (slice_set (children ns) k new))
    set-kids ns k calm there lower new Q spine =
        let ks = slice_set (children ns) k new in
        let same = children-nodes ks in
        let many = length-set (children ns) k new in
        let zero_more : 0 + k ≡ k = omega arith in
        let found : find_from (is_over h) 0 ks ≡ Some k = find-set new (spine-has n flat Q new spine) 0 k (children ns) there lower ∙ ap Some zero_more in
        record {
          is = ap (find_from (is_over h) 0) same ∙ found;
          there = subst (λ l. k < length l) (sym same) (subst (λ i. k < i) (sym many) there);
          others = subst (λ l. (j : ℕ) → j < length l → j ≢ k → Settled n flat (child_at j l)) (sym same) (λ j l ne. subst (Settled n flat) (sym (get_or-set_other (children ns) k j new no_node ne)) (calm j (subst (λ i. j < i) many l)).settled);
          spine = subst (λ l. Spine n flat h Q (child_at k l)) (sym same) (subst (Spine n flat h Q) (sym (get_or-set_same (children ns) k new no_node there)) spine);
        }

    issued-dir : (d : DirValue) (ns : Nodes) → ((k : ℕ) → k < length (children ns) → Part (child_at k (children ns))) → Part (dir_node d ns)
    issued-dir d ns deeper w calm e =
        let c = calm-dir n flat d ns calm in
        let kid = kid-issued d ns w deeper c.kids e in
        onto (λ g own. own) (λ Q spine. subst (λ ms. Spine n flat h Q (dir_node d ms)) (sym kid.becomes) (let s = set-kids ns kid.child c.kids kid.there kid.lower kid.new Q spine in over kid.child s.is s.there c.rests c.room s.others s.spine)) kid.issued

    pub issued-part : (m : Node) → Part m
    issued-part = part-induction Part issued-leaf issued-dir
