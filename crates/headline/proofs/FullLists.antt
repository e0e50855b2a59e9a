-- Lists that are full, as a busy turn names them: what their directories and leaves say when they are asked.
use Rattle.std.proofs.Common.{◌≡◌, ℕ, zero, suc, ◌+◌, ◌<◌, ◌≤◌, Bool, true, false, ◌&&◌, nat_eq, List, [], ◌∷◌, length, Option, Some, None, refl, ap, subst, ◌∙◌, arith}
use Rattle.std.specs.Prelude.{IfSome, nat_le}
use Rattle.std.specs.List.{AllByRecursion}
use Rattle.std.proofs.lemmas.Bool.{and_parts, eq-eqb, leb-true}
use Rattle.headline.specs.DdmTypes.declared.answers.TxKind.{TxKind}
use Rattle.headline.specs.DdmTypes.declared.answers.TxKind.TheVariants.{ReadTx, DataTx, EraseTx, ExclusiveTx, InjectTx, OutTx}
use Rattle.headline.specs.DdmTypes.declared.answers.PendingWhy.{PendingWhy}
use Rattle.headline.specs.DdmTypes.declared.answers.QueueName.{QueueName}
use Rattle.headline.specs.TreeModel.State.Lists.{some_if, first_some, first_given}
use Rattle.headline.specs.TreeModel.State.States.{is_held}
use Rattle.headline.specs.TreeModel.State.Values.{LeafValue, Note, no_note, local, up_read, up_erase, DirValue, Node, Nodes, leaf_node, dir_node, no_nodes, more_nodes, children, MachineValue, root_of}
use Rattle.headline.specs.TreeModel.State.Blank.{no_node}
use Rattle.headline.specs.TreeModel.State.Leaf.{leaf_replies_full}
use Rattle.headline.specs.TreeModel.State.Directory.{dir_hold, dir_note, is_answering, in_down, down_full, requests_full, replies_full, pending, note_why, pending_by}
use Rattle.headline.specs.TreeModel.State.Child.{child_full_for}
use Rattle.headline.specs.TreeModel.State.Shape.{IsShaped}
use Rattle.headline.specs.TreeModel.Turns.Children.{child_at}
use Rattle.headline.proofs.TreeModel.DirRooms.{DirWithin, dir_within-facts}
use Rattle.headline.proofs.TreeModel.LeafRooms.{leaf_within-facts}
use Rattle.headline.specs.TreeRules.Bus.Own.{leaf_lists, dir_lists}
use Rattle.headline.specs.TreeRules.Bus.Rules.{items_of_machine, IsMachineOk}
use Rattle.headline.specs.TreeRules.Witness.{is_note_of, pends_by, is_full}
use Rattle.headline.proofs.Standing.{StandsIn, in_here, StandsAmong, in_first, in_later, stands-ok}
use Rattle.headline.proofs.Numbered.{told-dir, told-leaf}

-- ---- small facts

pub full-is : (n room : ℕ) → n ≤ room → nat_le room n ≡ true → nat_eq n room ≡ true
full-is n room l h = let k : room ≤ n = leb-true room n h in eq-eqb n room (omega (arith, l, k))

-- why an item is pending is so
pub pends : (x : ℕ) (d : DirValue) (why : PendingWhy) → pending x d ≡ Some why → pends_by why x d ≡ true
unfolding pending
pends x d why h = by_note (dir_note x d) refl h where
  by_entry : dir_note x d ≡ no_note → (a b : Bool) → is_answering x d ≡ a → in_down x d ≡ b → pending_by None a b ≡ Some why → pends_by why x d ≡ true
  by_entry e true b i j k = let is : PendingWhy.Answering ≡ why = cc in subst (λ w. pends_by w x d ≡ true) is i
  by_entry e false true i j k = let is : PendingWhy.InDown ≡ why = cc in subst (λ w. pends_by w x d ≡ true) is j
  by_entry e false false i j k = absurd (let wrong : ⊥ = cc in wrong)

  by_note : (n : Note) → dir_note x d ≡ n → pending_by (note_why (dir_note x d)) (is_answering x d) (in_down x d) ≡ Some why → pends_by why x d ≡ true
  by_note no_note e k = by_entry e (is_answering x d) (in_down x d) refl refl (rw e at k)
  by_note (local first joined) e k =
      let some : Some (PendingWhy.Local first) ≡ Some why = rw e at k in
      let is : PendingWhy.Local first ≡ why = cc in
      subst (λ w. pends_by w x d ≡ true) is (ap (is_note_of (PendingWhy.Local first)) e ∙ eq-eqb first first refl)
  by_note (up_read first joined) e k =
      let some : Some (PendingWhy.UpRead first) ≡ Some why = rw e at k in
      let is : PendingWhy.UpRead first ≡ why = cc in
      subst (λ w. pends_by w x d ≡ true) is (ap (is_note_of (PendingWhy.UpRead first)) e ∙ eq-eqb first first refl)
  by_note (up_erase c) e k =
      let some : Some (PendingWhy.UpErase c) ≡ Some why = rw e at k in
      let is : PendingWhy.UpErase c ≡ why = cc in
      subst (λ w. pends_by w x d ≡ true) is (ap (is_note_of (PendingWhy.UpErase c)) e ∙ eq-eqb c c refl)

-- ---- the children of a directory stand in the tree

pub among-at : (ns : Nodes) (k : ℕ) → k < length (children ns) → StandsAmong (child_at k (children ns)) ns
among-at no_nodes k l = absurd (omega (arith, l))
among-at (more_nodes n ns) zero l = in_first in_here
among-at (more_nodes n ns) (suc k) l = in_later (among-at ns k (omega (arith, l)))

pub among-each : (P : Node → Type 0) (ns : Nodes) → ((n : Node) → StandsAmong n ns → P n) → AllByRecursion P (children ns)
among-each P no_nodes f = tt
among-each P (more_nodes n ns) f = (f n (in_first in_here), among-each P ns (λ k i. f k (in_later i)))

pub past-end : (ns : List Node) (k : ℕ) → length ns ≤ k → child_at k ns ≡ no_node
past-end [] k l = refl
past-end (n ∷ ns) zero l = absurd (omega (arith, l))
past-end (n ∷ ns) (suc k) l = past-end ns k (omega (arith, l))

module _ (m : MachineValue) (shaped : IsShaped m) (ok : IsMachineOk m) where
  abbrev pub InTree : Node → Type 0
  InTree n = StandsIn n (root_of m)

  -- ---- lists that are full

  abbrev pub FullHolds : Option QueueName → Type 0
  FullHolds o = IfSome o (λ list. is_full list m ≡ true)

  pub first-full : (a b : Option QueueName) → FullHolds a → FullHolds b → FullHolds (first_some a b)
  first-full None b h k = k
  first-full (Some list) b h k = h

  pub some-full : (b : Bool) (list : QueueName) → (b ≡ true → is_full list m ≡ true) → FullHolds (some_if b list)
  some-full true list h = h refl
  some-full false list h = tt

  pub given-full : (g : ℕ → Node → Option QueueName) → ((i : ℕ) (n : Node) → InTree n → FullHolds (g i n)) → (i : ℕ) (ns : List Node) → AllByRecursion InTree ns → FullHolds (first_given g i ns)
  given-full g f i [] h = tt
  given-full g f i (n ∷ ns) h = first-full (g i n) (first_given g (i + 1) ns) (f i n h.0) (given-full g f (i + 1) ns h.1)

  -- a directory's
  module _ (d : DirValue) (ns : Nodes) (there : InTree (dir_node d ns)) where
    pub within : DirWithin (items_of_machine m) d
    within = dir_within-facts (items_of_machine m) d ((stands-ok (items_of_machine m) (dir_node d ns) (root_of m) there ok.tree).0.own.each dir_lists)

    pub down-is_full : down_full d ≡ true → is_full (QueueName.Down d.bus) m ≡ true
    down-is_full h = told-dir m shaped d ns there (λ e ks. nat_eq (length e.down) e.sizes.down_room) ∙ full-is (length d.down) d.sizes.down_room within.down h

    pub requests-are_full : requests_full d ≡ true → is_full (QueueName.Requests d.bus) m ≡ true
    requests-are_full h = told-dir m shaped d ns there (λ e ks. nat_eq (length e.requests) e.sizes.request_room) ∙ full-is (length d.requests) d.sizes.request_room within.requests h

    pub replies-are_full : replies_full d ≡ true → is_full (QueueName.Replies d.bus) m ≡ true
    replies-are_full h = told-dir m shaped d ns there (λ e ks. nat_eq (length e.replies) e.sizes.reply_room) ∙ full-is (length d.replies) d.sizes.reply_room within.replies h

  leaf-replies_full : (v : LeafValue) → InTree (leaf_node v) → leaf_replies_full v ≡ true → is_full (QueueName.LeafReplies v.number) m ≡ true
  leaf-replies_full v there h =
      told-leaf m shaped v there (λ u. nat_eq (length u.replies) u.sizes.reply_room) ∙ full-is (length v.replies) v.sizes.reply_room (leaf_within-facts (items_of_machine m) v ((stands-ok (items_of_machine m) (leaf_node v) (root_of m) there ok.tree).each leaf_lists)).replies h

  -- a child's, whatever it is told
  pub child-full : (kind : TxKind) (x : ℕ) (n : Node) → InTree n → FullHolds (child_full_for kind x n)
  child-full ReadTx x (leaf_node v) there = some-full (leaf_replies_full v) (QueueName.LeafReplies v.number) (leaf-replies_full v there)
  child-full DataTx x (leaf_node v) there = tt
  child-full EraseTx x (leaf_node v) there = tt
  child-full ExclusiveTx x (leaf_node v) there = tt
  child-full InjectTx x (leaf_node v) there = tt
  child-full OutTx x (leaf_node v) there = tt
  child-full ReadTx x (dir_node d ns) there = some-full (down_full d) (QueueName.Down d.bus) (down-is_full d ns there)
  child-full DataTx x (dir_node d ns) there = some-full (down_full d) (QueueName.Down d.bus) (down-is_full d ns there)
  child-full EraseTx x (dir_node d ns) there = some-full (is_held (dir_hold x d) && down_full d) (QueueName.Down d.bus) (λ h. down-is_full d ns there (and_parts (is_held (dir_hold x d)) (down_full d) h).1)
  child-full ExclusiveTx x (dir_node d ns) there = some-full (down_full d) (QueueName.Down d.bus) (down-is_full d ns there)
  child-full InjectTx x (dir_node d ns) there = some-full (down_full d) (QueueName.Down d.bus) (down-is_full d ns there)
  child-full OutTx x (dir_node d ns) there = tt
