-- The first of the lists in which a turn needs a place that is full, as the tables find it.
-- Letters: n is a child, v a leaf, d a directory, x an item.
use Rattle.std.proofs.Common.{◌≡◌, ℕ, ◌+◌, Bool, true, false, ◌&&◌, List, [], ◌∷◌, ◌++◌, Option, Some, None, refl, sym, ap, ◌∙◌}
use Rattle.std.specs.Prelude.{option_map, if◌then◌else◌}
use Rattle.busy_laws.specs.DdmTypes.declared.answers.TxKind.{TxKind}
use Rattle.busy_laws.specs.DdmTypes.declared.answers.TxKind.TheVariants.{ReadTx, DataTx, EraseTx, ExclusiveTx, InjectTx, OutTx}
use Rattle.busy_laws.specs.DdmTypes.declared.answers.QueueName.{QueueName}
use Rattle.busy_laws.specs.DdmTypes.declared.answers.BusyCause.{BusyCause}
use Rattle.tree_model.specs.State.Lists.{first_given, first_some, some_if}
use Rattle.tree_model.specs.State.States.{is_held}
use Rattle.tree_model.specs.State.Values.{LeafValue, DirValue, Node, leaf_node, dir_node}
use Rattle.tree_model.specs.State.Leaf.{leaf_replies_full}
use Rattle.tree_model.specs.State.Directory.{dir_hold, down_full}
use Rattle.tree_model.specs.State.Child.{leaf_full_for, dir_full_for, child_full_for}
use Rattle.busy_laws.specs.Reasons.{Needed, first_full, leaf_told, dir_told, told, told_each}

-- a list of this name is full, as a cause
abbrev pub full_list : Option QueueName → Option BusyCause
full_list o = option_map (λ list. BusyCause.QueueFull list) o

pub full-first : (a b : Option QueueName) → full_list (first_some a b) ≡ first_some (full_list a) (full_list b)
full-first None b = refl
full-first (Some list) b = refl

-- ---- one list

pub one-list : (full : Bool) (list : QueueName) → first_full (record { list = list; full = full } ∷ []) ≡ full_list (some_if full list)
one-list true list = refl
one-list false list = refl

leaf-told : (kind : TxKind) (v : LeafValue) → first_full (leaf_told kind v) ≡ full_list (leaf_full_for kind v)
leaf-told ReadTx v = one-list (leaf_replies_full v) (QueueName.LeafReplies v.number)
leaf-told DataTx v = refl
leaf-told EraseTx v = refl
leaf-told ExclusiveTx v = refl
leaf-told InjectTx v = refl
leaf-told OutTx v = refl

dir-told : (kind : TxKind) (x : ℕ) (d : DirValue) → first_full (dir_told kind x d) ≡ full_list (dir_full_for kind x d)
dir-told ReadTx x d = one-list (down_full d) (QueueName.Down d.bus)
dir-told DataTx x d = one-list (down_full d) (QueueName.Down d.bus)
dir-told EraseTx x d = by_hold (is_held (dir_hold x d)) where
  by_hold : (b : Bool) → first_full (if b then record { list = QueueName.Down d.bus; full = down_full d } ∷ [] else []) ≡ full_list (some_if (b && down_full d) (QueueName.Down d.bus))
  by_hold true = one-list (down_full d) (QueueName.Down d.bus)
  by_hold false = refl
dir-told ExclusiveTx x d = one-list (down_full d) (QueueName.Down d.bus)
dir-told InjectTx x d = one-list (down_full d) (QueueName.Down d.bus)
dir-told OutTx x d = refl

pub told-is : (kind : TxKind) (x : ℕ) (n : Node) → first_full (told kind x n) ≡ full_list (child_full_for kind x n)
told-is kind x (leaf_node v) = leaf-told kind v
told-is kind x (dir_node d ns) = dir-told kind x d

-- ---- several

pub full-append : (ls ms : List Needed) → first_full (ls ++ ms) ≡ first_some (first_full ls) (first_full ms)
full-append [] ms = refl
full-append (l ∷ ls) ms = by_full l.full (full-append ls ms) where
  by_full : (b : Bool) → first_full (ls ++ ms) ≡ first_some (first_full ls) (first_full ms) → (if b then Some (BusyCause.QueueFull l.list) else first_full (ls ++ ms)) ≡ first_some (if b then Some (BusyCause.QueueFull l.list) else first_full ls) (first_full ms)
  by_full true rest = refl
  by_full false rest = rest

-- that of each child that passes
module _ (passes : ℕ → Bool) (kind : TxKind) (x : ℕ) (f : ℕ → Node → Option QueueName) (same : (i : ℕ) (n : Node) → f i n ≡ (if passes i then child_full_for kind x n else None)) where
  here-told : (i : ℕ) (n : Node) → first_full (if passes i then told kind x n else []) ≡ full_list (f i n)
  here-told i n = by_test (passes i) ∙ ap full_list (sym (same i n)) where
    by_test : (b : Bool) → first_full (if b then told kind x n else []) ≡ full_list (if b then child_full_for kind x n else None)
    by_test true = told-is kind x n
    by_test false = refl

  pub each-told : (i : ℕ) (ns : List Node) → first_full (told_each passes kind x i ns) ≡ full_list (first_given f i ns)
  each-told i [] = refl
  each-told i (n ∷ ns) =
      full-append (if passes i then told kind x n else []) (told_each passes kind x (i + 1) ns) ∙ ap (λ o. first_some o (first_full (told_each passes kind x (i + 1) ns))) (here-told i n) ∙ ap (first_some (full_list (f i n))) (each-told (i + 1) ns) ∙ sym (full-first (f i n) (first_given f (i + 1) ns))
