-- What is known of a child before it is told to lose an item.
-- Letters: n is the number of items, x the item, c where the child stands, m the child.
use Rattle.std.proofs.Common.{◌≡◌, ℕ, ◌<◌, Bool, true, false, List, [], ◌∷◌, ◌++◌, map, length, Option, IfSome, refl, ap, subst}
use Rattle.std.specs.Prelude.{not, ◌&&◌}
use Rattle.std.specs.List.{AllByRecursion}
use Rattle.std.specs.Cmp.Derive.{both_true}
use Rattle.std.proofs.lemmas.Bool.{or_parts, not-true}
use Rattle.order_laws.specs.DdmTypes.declared.answers.TxKind.TheVariants.{EraseTx}
use Rattle.order_laws.specs.DdmTypes.declared.keys.Stamp.{Stamp}
use Rattle.order_laws.specs.TreeModel.State.Kinds.{is_kind, has_kind}
use Rattle.order_laws.specs.TreeModel.State.States.{is_held, is_exclusive}
use Rattle.order_laws.specs.TreeModel.State.Values.{DownValue, Note, no_note, local, up_read, up_erase, Node, leaf_node, dir_node, children}
use Rattle.order_laws.specs.TreeModel.State.Leaf.{words_of_item, leaf_lose}
use Rattle.order_laws.specs.TreeModel.State.Directory.{dir_hold, queue_of, queue_kinds, entry_kind, dir_lose}
use Rattle.order_laws.specs.TreeModel.State.Child.{child_hold, child_lose, child_replies}
use Rattle.order_laws.specs.TreeModel.State.Place.{Spot}
use Rattle.order_laws.specs.TreeRules.Bus.Faces.{ParentFace, parent_face, child_face, faces_of}
use Rattle.order_laws.specs.TreeRules.Bus.Item.{implies, Bits}
use Rattle.order_laws.specs.TreeRules.Bus.Rules.{IsTreeOk}
use Rattle.order_laws.proofs.TreeRules.Implying.{implies-use}
use Rattle.order_laws.specs.TreeRules.Order.Copies.{inner}
use Rattle.order_laws.specs.TreeRules.Order.Directories.{IsOrdered}
use Rattle.order_laws.specs.TreeRules.Order.Moments.{moment_at, GoesOn}
use Rattle.order_laws.specs.TreeRules.Order.Places.{dirs_in}
use Rattle.bus_laws.proofs.States.{each_state, state-at}
use Rattle.order_laws.proofs.Moves.Below.{IsTimely, IsLate, IsPrepared, inner-timely, inner-late}
use Rattle.order_lists.proofs.Filters.{each-both, each-weaker}
use Rattle.order_lists.proofs.NoHold.{none_held}
use Rattle.order_lists.proofs.Paths.{under_child}
use Rattle.order_laws.proofs.Moves.Queues.{NoErase}
use Rattle.order_laws.proofs.Moves.Lose.{IsInside, IsNodeReady}

-- ---- no erase comes down to a directory that holds the item Shared

abbrev shared_free : ParentFace → Bits → Bool
shared_free p k = implies (is_held p.hold && not (is_exclusive p.hold)) (not (has_kind EraseTx p.queue))

each-shared_free : (note : Note) → each_state shared_free note ≡ true
unfolding implies
each-shared_free no_note = refl
each-shared_free (local first joined) = refl
each-shared_free (up_read first joined) = refl
each-shared_free (up_erase d) = refl

pub no-erase : (x : ℕ) (down : List DownValue) → has_kind EraseTx (queue_kinds x down) ≡ false → NoErase (queue_of x down)
no-erase x down h = by (queue_of x down) h where
  by : (q : List DownValue) → has_kind EraseTx (map entry_kind q) ≡ false → NoErase q
  by [] h = tt
  by (e ∷ q) h =
      let parts = or_parts (is_kind EraseTx e.kind) (has_kind EraseTx (map entry_kind q)) h in
      (parts.0, by q parts.1)

-- ---- a child

module _ (n x : ℕ) (within : x < n) (path old : List ℕ) (s : Stamp) (erased : Option (List ℕ)) (Has : ℕ → Type 0) (on : IfSome erased (GoesOn (moment_at path s))) where
  pub ready : (i : ℕ) (t : Stamp) (m : Node) → moment_at path t ≡ old → IsTreeOk n m → AllByRecursion IsOrdered (dirs_in (record { above = path; number = i; present = t }) m) → is_exclusive (child_hold x m) ≡ false → IsNodeReady x path old s erased Has on (record { above = path; number = i; present = t }) m
  ready i t (leaf_node v) at ok ordered shared = tt
  ready i t (dir_node d ns) at ok ordered shared =
      let c : Spot = record { above = path; number = i; present = t } in
      let timely : AllByRecursion (IsTimely (moment_at path t)) (inner x c (dir_node d ns)) = inner-timely x c (dir_node d ns) ordered in
      let late : AllByRecursion (IsLate 0 [] (path ++ i ∷ [])) (inner x c (dir_node d ns)) = inner-late 0 [] x c (dir_node d ns) (each-weaker IsOrdered (IsPrepared 0 []) (λ c o. record { ordered = o; known = tt }) (dirs_in c (dir_node d ns)) ordered) in
      record {
        inside = each-both (IsTimely (moment_at path t)) (IsLate 0 [] (path ++ i ∷ [])) (IsInside x path old s erased Has on) (λ k a b. record { under = under_child path k.place i b.place; clock = subst (GoesOn k.clock) at a.clock }) (inner x c (dir_node d ns)) timely late;
        held = λ h.
            let free = implies-use (is_held (dir_hold x d) && not (is_exclusive (dir_hold x d))) (not (has_kind EraseTx (queue_kinds x d.down))) (state-at shared_free each-shared_free (parent_face x d) (faces_of x (children ns)) (ok.0.rules x within)) (both_true h (ap not shared)) in
            no-erase x d.down (not-true _ free);
        free = λ h. none_held n x c (dir_node d ns) within ok h;
      }

-- who has no reply has none then
no-words : (ws : List (List ℕ)) → length ws ≡ 0 → ws ≡ []
no-words [] h = refl
no-words (w ∷ ws) h = cc

pub lose-replies : (x : ℕ) (s : Stamp) (m : Node) → (child_face x m).replies ≡ 0 → words_of_item x (child_replies (child_lose x s m)) ≡ []
unfolding leaf_lose dir_lose
lose-replies x s (leaf_node v) h = no-words (words_of_item x v.replies) h
lose-replies x s (dir_node d ns) h = no-words (words_of_item x d.replies) h
