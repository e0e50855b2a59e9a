-- The core rules of order over their parts, so that what a turn leaves of each part is put in its place.
use Rattle.std.proofs.Common.{◌≡◌, ℕ, ◌<◌, List, is_some, refl, sym, ap, subst, ◌∙◌}
use Rattle.order_laws.specs.DdmTypes.declared.operations.Op.{Op}
use Rattle.order_laws.specs.DdmTypes.CodeMap.{CodeWord}
use Rattle.order_laws.specs.DdmTypes.ItemTable.{ItemTable, item_count}
use Rattle.order_laws.specs.FlatModel.Flat.{FlatMachine}
use Rattle.order_laws.specs.FlatModel.Legal.{legal_run, flat_after}
use Rattle.order_laws.specs.TreeModel.State.Values.{MachineValue}
use Rattle.order_laws.specs.TreeModel.State.Shape.{depth_of}
use Rattle.order_laws.specs.TreeModel.Turns.Witness.{sorted_ops}
use Rattle.order_laws.specs.TreeRules.Statements.{Statement, Holds, is_so, each, each_pair}
use Rattle.order_laws.specs.TreeRules.Bus.Rules.{items_of_machine}
use Rattle.order_laws.specs.TreeRules.Order.Places.{LeafAt, leaves_at, DirAt, dirs_at}
use Rattle.order_laws.specs.TreeRules.Order.Copies.{CopyAt, copies_of}
use Rattle.order_laws.specs.TreeRules.Order.Claims.{ClaimAt, claims_of}
use Rattle.order_laws.specs.TreeRules.Order.Core as core
use Rattle.order_laws.specs.TreeRules.Order.Rules.{CoreRule, commands_past_taken, reservations_kept, legal, harts_follow, counts_follow, halts_follow, own_order, core_rule, CopyRule, words_right, claims_after_ops, claims_after_copies, clocks_know, copy_rule, IsCore}

module _ (s : FlatMachine) (code : List CodeWord) (items : ItemTable) (depth : ℕ) where
  abbrev pub core_of : CoreRule → List LeafAt → List DirAt → List Op → Statement
  core_of commands_past_taken leaves dirs ops = each (λ c. each (core.is_past_taken c) c.dir.down) dirs
  core_of reservations_kept leaves dirs ops = each (core.keeps_reservation s depth items ops) leaves
  core_of legal leaves dirs ops = is_so (is_some (legal_run code items s (sorted_ops ops)))
  core_of harts_follow leaves dirs ops = each (core.has_flat_hart (flat_after code items s (sorted_ops ops))) leaves
  core_of counts_follow leaves dirs ops = each (core.has_counted ops) leaves
  core_of halts_follow leaves dirs ops = each (core.halts_as_flat code items (flat_after code items s (sorted_ops ops))) leaves
  core_of own_order leaves dirs ops = each_pair core.is_in_own_order ops

  abbrev pub copy_of : CopyRule → ℕ → List CopyAt → List ClaimAt → List Op → Statement
  copy_of words_right x copies claims ops = each (core.has_right_words s depth items ops x) copies
  copy_of claims_after_ops x copies claims ops = each (λ t. each (core.claim_is_after_op depth items x t) ops) claims
  copy_of claims_after_copies x copies claims ops = each (λ t. each (core.claim_is_after_copy t) copies) claims
  copy_of clocks_know x copies claims ops = each (λ k. each (core.knows_change depth items x k) ops) copies

core_is : (r : CoreRule) (s : FlatMachine) (m : MachineValue) → core_rule r s m ≡ core_of s m.code m.items (depth_of m) r (leaves_at m) (dirs_at m) m.ops
core_is commands_past_taken s m = refl
core_is reservations_kept s m = refl
core_is legal s m = refl
core_is harts_follow s m = refl
core_is counts_follow s m = refl
core_is halts_follow s m = refl
core_is own_order s m = refl

copy_is : (r : CopyRule) (s : FlatMachine) (m : MachineValue) (x : ℕ) → copy_rule r s m x ≡ copy_of s m.code m.items (depth_of m) r x (copies_of x m) (claims_of x m) m.ops
copy_is words_right s m x = refl
copy_is claims_after_ops s m x = refl
copy_is claims_after_copies s m x = refl
copy_is clocks_know s m x = refl

module _ (s : FlatMachine) (m : MachineValue) where
  pub core_holds : IsCore s m → (r : CoreRule) → Holds (core_of s m.code m.items (depth_of m) r (leaves_at m) (dirs_at m) m.ops)
  core_holds c r = subst Holds (core_is r s m) (c.each r)

  pub copy_holds : IsCore s m → (x : ℕ) → x < items_of_machine m → (r : CopyRule) → Holds (copy_of s m.code m.items (depth_of m) r x (copies_of x m) (claims_of x m) m.ops)
  copy_holds c x l r = subst Holds (copy_is r s m x) (c.copies x l r)

  -- the core of another machine with the same code, items and depth, from its parts
  pub core_from : (n : MachineValue) → n.code ≡ m.code → n.items ≡ m.items → depth_of n ≡ depth_of m → (dirs : List DirAt) → dirs_at n ≡ dirs → (ops : List Op) → n.ops ≡ ops → ((r : CoreRule) → Holds (core_of s m.code m.items (depth_of m) r (leaves_at n) dirs ops)) → ((x : ℕ) → x < items_of_machine m → (r : CopyRule) → Holds (copy_of s m.code m.items (depth_of m) r x (copies_of x n) (claims_of x n) ops)) → IsCore s n
  core_from n code items depth dirs same_dirs ops same_ops rules copies = record { each = one; copies = λ x l r. of_item x (subst (λ t. x < item_count t) items l) r } where
    one : (r : CoreRule) → Holds (core_rule r s n)
    one r = subst Holds (sym (core_is r s n ∙ ap (λ c. core_of s c n.items (depth_of n) r (leaves_at n) (dirs_at n) n.ops) code ∙ ap (λ t. core_of s m.code t (depth_of n) r (leaves_at n) (dirs_at n) n.ops) items ∙ ap (λ d. core_of s m.code m.items d r (leaves_at n) (dirs_at n) n.ops) depth ∙ ap (λ cs. core_of s m.code m.items (depth_of m) r (leaves_at n) cs n.ops) same_dirs ∙ ap (core_of s m.code m.items (depth_of m) r (leaves_at n) dirs) same_ops)) (rules r)

    of_item : (x : ℕ) → x < items_of_machine m → (r : CopyRule) → Holds (copy_rule r s n x)
    of_item x l r = subst Holds (sym (copy_is r s n x ∙ ap (λ c. copy_of s c n.items (depth_of n) r x (copies_of x n) (claims_of x n) n.ops) code ∙ ap (λ t. copy_of s m.code t (depth_of n) r x (copies_of x n) (claims_of x n) n.ops) items ∙ ap (λ d. copy_of s m.code m.items d r x (copies_of x n) (claims_of x n) n.ops) depth ∙ ap (copy_of s m.code m.items (depth_of m) r x (copies_of x n) (claims_of x n)) same_ops)) (copies x l r)
