-- The erases that stand below a bus: in each row of its turn they are those before, or of the new moment.
-- Letters: y is any item, p the parent, q after it, ns and ms its children before and after, g what was granted.
use Rattle.std.proofs.Common.{◌≡◌, ℕ, ◌<◌, Bool, true, false, List, length, Some, refl, sym, ap, subst, ◌∙◌, ◌⊎◌, inl, inr}
use Rattle.std.specs.Prelude.{nat_eq, if◌then◌else◌}
use native.Mathlib.Decide.{ℕ_discrete}
use Rattle.order_laws.specs.DdmTypes.declared.answers.TxKind.TheVariants.{EraseTx}
use Rattle.order_laws.specs.DdmTypes.declared.keys.Stamp.{Stamp}
use Rattle.order_laws.specs.TreeModel.declared.BusTurn.{BusTurn}
use Rattle.order_laws.specs.TreeModel.State.Lists.{map_from}
use Rattle.order_laws.specs.TreeModel.State.States.{is_exclusive}
use Rattle.order_laws.specs.TreeModel.State.Values.{Note, local, up_read, DirValue, Node}
use Rattle.order_laws.specs.TreeModel.State.Directory.{dir_hold, is_reader, stamp_of, counted, front_taken}
use Rattle.order_laws.specs.TreeModel.State.Child.{child_request, child_lose, child_take_data, child_take_exclusive, child_answer, child_take_inject, child_give_up, child_request_taken, child_reply_taken, child_given}
use Rattle.order_laws.proofs.TreeModel.Children.{child_at-map_from}
use Rattle.order_laws.specs.TreeRules.Order.Claims.{child_is_exclusive}
use Rattle.order_laws.specs.TreeRules.Order.Copies.{erases_in}
use Rattle.order_laws.specs.TreeRules.Order.Moments.{moment_at}
use Rattle.order_laws.specs.Moves.Moved.{In}
use Rattle.order_laws.proofs.Moves.BusFacts.{BusFacts}
use Rattle.order_laws.proofs.Moves.KidErases.{ErasesSame, same, again, request-same, reply-same, data-same, exclusive-same, answer-same, inject-same, gone-same, lose-same, spot, same-erases, lost-erases, lost-exclusive, request-exclusive}
use Rattle.bus_laws.proofs.Answering.{child-hold}
use Rattle.bus_laws.proofs.Calls.{child-erase-taken}
use Rattle.bus_laws.proofs.OneChild.{asks-there}
use Rattle.bus_laws.proofs.RowFrame.{all-kids_at}
use Rattle.order_laws.specs.TreeModel.State.Blank.{no_node}
use Rattle.order_laws.specs.TreeRules.Bus.Rules.{IsChildOk}
use Rattle.order_laws.specs.TreeModel.State.Place.{Where, stamp_above}
use Rattle.std.proofs.lemmas.Bool.{eqb-true}
use Rattle.order_laws.specs.TreeModel.Turns.Grant.{Grant}
use Rattle.order_laws.specs.TreeModel.Turns.Children.{child_at, only, read_from, erased_by, loses, reader_takes, replied_by, passed_on}
use Rattle.order_laws.specs.TreeModel.Turns.RequestRead.{joins, read_of_child, read_of_parked, read_of_parent}
use Rattle.order_laws.specs.TreeModel.Turns.RequestErase.{erase_of_all, erase_noted}
use Rattle.order_laws.specs.TreeModel.Turns.Reply.{reply_to_readers, reply_to_parent}
use Rattle.order_laws.specs.TreeModel.Turns.Down.{exclusive_to, erase_of_children, read_by_child, read_by_parked, data_to_readers, inject_to_reader, inject_to_readers, inject_to_child, inject_parked}
use Rattle.order_laws.specs.TreeModel.Turns.Leave.{out_gone, leave_parked, leave_to}
use Rattle.order_laws.proofs.TreeModel.Rows.{Row, row_joins, row_read_of_child, row_read_of_parked, row_read_of_parent, row_erase_of_all, row_reply_to_readers, row_reply_to_parent, row_exclusive_to, row_erase_of_children, row_read_by_child, row_read_by_parked, row_data_to_readers, row_inject_to_reader, row_inject_to_readers, row_inject_to_child, row_inject_parked, row_out_gone, row_out_parked, row_leave_to, row_inject_up}

-- all children as before, or no child holds the item Exclusive then
pub record RowErases (y : ℕ) (q : DirValue) (ns ms : List Node) : Type 0 where
  pub kids : (path : List ℕ) (s : Stamp) (i : ℕ) → i < length ns → (e : List ℕ) → In e (erases_in y (spot path i (stamp_of q)) (child_at i ms)) → In e (erases_in y (spot path i s) (child_at i ns)) ⊎ ((e ≡ moment_at path (stamp_of q)) × ((j : ℕ) → j < length ns → child_is_exclusive y (child_at j ms) ≡ false))

if-same : (y : ℕ) (b : Bool) (n m k : Node) → ErasesSame y n m → ErasesSame y n k → ErasesSame y n (if b then m else k)
if-same y true n m k f g = f
if-same y false n m k f g = g

only-same : (y : ℕ) (c : ℕ) (f : Node → Node) → ((n : Node) → ErasesSame y n (f n)) → (i : ℕ) (n : Node) → ErasesSame y n (only c f i n)
only-same y c f h i n = if-same y (nat_eq i c) n (f n) n (h n) (same y n)

readers-same : (y : ℕ) (s : Stamp) (u : Note) (x : ℕ) (words : List ℕ) (i : ℕ) (n : Node) → ErasesSame y n (reader_takes u x words s i n)
readers-same y s u x words i n = if-same y (is_reader u i) n (child_take_data x words s n) n (data-same x y words s n) (same y n)

module _ (w : Where) (p : DirValue) (ns : List Node) (y : ℕ) where
  -- all as before
  kept : (q : DirValue) (g : ℕ → Node → Node) → ((i : ℕ) (n : Node) → ErasesSame y n (g i n)) → RowErases y q ns (map_from g 0 ns)
  kept q g h = record { kids = λ path s i l e is. inl (subst (In e) (same-erases y path i s (stamp_of q) (child_at i ns) (child_at i (map_from g 0 ns)) (subst (λ m. ErasesSame y (child_at i ns) m) (sym (child_at-map_from g i ns l)) (h i (child_at i ns)))) is) }

  kept-none : (q : DirValue) → RowErases y q ns ns
  kept-none q = record { kids = λ path s i l e is. inl (subst (In e) (same-erases y path i s (stamp_of q) (child_at i ns) (child_at i ns) (same y (child_at i ns))) is) }

  -- nobody is exclusive then
  lost : (q : DirValue) (g : ℕ → Node → Node) → ((path : List ℕ) (s : Stamp) (i : ℕ) (n : Node) (e : List ℕ) → In e (erases_in y (spot path i (stamp_of q)) (g i n)) → In e (erases_in y (spot path i s) n) ⊎ (e ≡ moment_at path (stamp_of q))) → ((j : ℕ) → j < length ns → child_is_exclusive y (g j (child_at j ns)) ≡ false) → RowErases y q ns (map_from g 0 ns)
  lost q g h none = record {
    kids = λ path s i l e is.
        elim (h path s i (child_at i ns) e (subst (λ m. In e (erases_in y (spot path i (stamp_of q)) m)) (child_at-map_from g i ns l) is)) as (λ _. In e (erases_in y (spot path i s) (child_at i ns)) ⊎ ((e ≡ moment_at path (stamp_of q)) × ((j : ℕ) → j < length ns → child_is_exclusive y (child_at j (map_from g 0 ns)) ≡ false))) [
          | inl k ↦ inl k
          | inr k ↦ inr (k, λ j lj. subst (λ m. child_is_exclusive y m ≡ false) (sym (child_at-map_from g j ns lj)) (none j lj))
        ];
  }

  lose-row : (x : ℕ) (q : DirValue) → RowErases y q ns (map_from (loses x (stamp_of q)) 0 ns)
  lose-row x q = by (ℕ_discrete y x) where
    by : Dec (y ≡ x) → RowErases y q ns (map_from (loses x (stamp_of q)) 0 ns)
    by (no ne) = kept q (loses x (stamp_of q)) (λ i n. lose-same x y (stamp_of q) ne n)
    by (yes at) = subst (λ z. RowErases y q ns (map_from (loses z (stamp_of q)) 0 ns)) at (lost q (loses y (stamp_of q)) (λ path s i n e is. lost-erases y path i s (stamp_of q) n e is) (λ j lj. lost-exclusive y (stamp_of q) (child_at j ns)))

  erase-row : (k : ℕ) (f : BusFacts k w p ns) (c x : ℕ) → child_request (child_at c ns) ≡ Some (record { kind = EraseTx; item = x }) → (q : DirValue) → RowErases y q ns (map_from (erased_by c x (stamp_of q)) 0 ns)
  erase-row k f c x asks q = by (ℕ_discrete y x) where
    asked : child_is_exclusive x (child_at c ns) ≡ false
    asked =
        let g = child-erase-taken k x (child_at c ns) (all-kids_at (IsChildOk k) no_node ns c f.kids (asks-there c ns _ asks)) asks in
        ap is_exclusive (child-hold x (child_at c ns)) ∙ ap (λ h. is_exclusive h.hold) g.was

    step : (b : Bool) (path : List ℕ) (s : Stamp) (i : ℕ) (n : Node) (e : List ℕ) → In e (erases_in x (spot path i (stamp_of q)) (if b then child_request_taken n else child_lose x (stamp_of q) n)) → In e (erases_in x (spot path i s) n) ⊎ (e ≡ moment_at path (stamp_of q))
    step true path s i n e is = inl (subst (In e) (same-erases x path i s (stamp_of q) n (child_request_taken n) (request-same x x n)) is)
    step false path s i n e is = lost-erases x path i s (stamp_of q) n e is

    none : (j : ℕ) (b : Bool) → nat_eq j c ≡ b → child_is_exclusive x (if b then child_request_taken (child_at j ns) else child_lose x (stamp_of q) (child_at j ns)) ≡ false
    none j true is = request-exclusive x (child_at j ns) ∙ subst (λ a. child_is_exclusive x (child_at a ns) ≡ false) (sym (eqb-true j c is)) asked
    none j false is = lost-exclusive x (stamp_of q) (child_at j ns)

    by : Dec (y ≡ x) → RowErases y q ns (map_from (erased_by c x (stamp_of q)) 0 ns)
    by (no ne) = kept q (erased_by c x (stamp_of q)) (λ i n. if-same y (nat_eq i c) n (child_request_taken n) (child_lose x (stamp_of q) n) (request-same x y n) (lose-same x y (stamp_of q) ne n))
    by (yes at) = subst (λ z. RowErases z q ns (map_from (erased_by c x (stamp_of q)) 0 ns)) (sym at) own where
      own : RowErases x q ns (map_from (erased_by c x (stamp_of q)) 0 ns)
      own = record {
        kids = λ path s i l e is.
            elim (step (nat_eq i c) path s i (child_at i ns) e (subst (λ m. In e (erases_in x (spot path i (stamp_of q)) m)) (child_at-map_from (erased_by c x (stamp_of q)) i ns l) is)) as (λ _. In e (erases_in x (spot path i s) (child_at i ns)) ⊎ ((e ≡ moment_at path (stamp_of q)) × ((j : ℕ) → j < length ns → child_is_exclusive x (child_at j (map_from (erased_by c x (stamp_of q)) 0 ns)) ≡ false))) [
              | inl k ↦ inl k
              | inr k ↦ inr (k, λ j lj. subst (λ m. child_is_exclusive x m ≡ false) (sym (child_at-map_from (erased_by c x (stamp_of q)) j ns lj)) (none j (nat_eq j c) refl))
            ];
      }

  noted : (k : ℕ) (f : BusFacts k w p ns) (c x : ℕ) → child_request (child_at c ns) ≡ Some (record { kind = EraseTx; item = x }) → (b : Bool) → RowErases y (erase_noted (stamp_above w) c x p ns b) ns (map_from (erased_by c x (stamp_of (counted p))) 0 ns)
  noted k f c x asks true = erase-row k f c x asks (erase_noted (stamp_above w) c x p ns true)
  noted k f c x asks false = erase-row k f c x asks (erase_noted (stamp_above w) c x p ns false)

  pub row-erases : (k : ℕ) → BusFacts k w p ns → (t : BusTurn) (g : Grant) → Row (stamp_above w) p ns t g → RowErases y g.parent ns g.kids
  unfolding joins read_of_child read_of_parked read_of_parent erase_of_all reply_to_readers reply_to_parent exclusive_to erase_of_children read_by_child read_by_parked data_to_readers inject_to_reader inject_to_readers inject_to_child inject_parked out_gone leave_parked leave_to
  row-erases k f t g (row_joins c x _ _) = kept _ (only c child_request_taken) (only-same y c child_request_taken (request-same x y))
  row-erases k f t g (row_read_of_child c x d _ _ _ _ _) = kept _ (read_from c d x (stamp_of (counted p))) (λ i n. if-same y (nat_eq i c) n (child_request_taken n) _ (request-same x y n) (if-same y (nat_eq i d) n _ n (answer-same x y (stamp_of (counted p)) n) (same y n)))
  row-erases k f t g (row_read_of_parked c x words _ _ _ _ _ _) = kept _ (only c child_request_taken) (only-same y c child_request_taken (request-same x y))
  row-erases k f t g (row_read_of_parent c x _ _ _ _) = kept _ (only c child_request_taken) (only-same y c child_request_taken (request-same x y))
  row-erases k f t g (row_erase_of_all c x asks _ _ _) = noted k f c x asks (is_exclusive (dir_hold x p))
  row-erases k f t g (row_reply_to_readers c x words first joined _ _ _) = kept _ (replied_by c (local first joined) x words (stamp_of (counted p))) (λ i n. again y n (only c child_reply_taken i n) _ (only-same y c child_reply_taken (reply-same x y) i n) (readers-same y (stamp_of (counted p)) (local first joined) x words i (only c child_reply_taken i n)))
  row-erases k f t g (row_reply_to_parent c x words _ _ _ _) = kept _ (only c child_reply_taken) (only-same y c child_reply_taken (reply-same x y))
  row-erases k f t g (row_exclusive_to e rest d front _ _ _) = kept _ (only d (child_take_exclusive e.item (stamp_of (front_taken e.stamp rest p)))) (only-same y d _ (exclusive-same e.item y (stamp_of (front_taken e.stamp rest p))))
  row-erases k f t g (row_erase_of_children e rest front _ _ _) = lose-row e.item _
  row-erases k f t g (row_read_by_child e rest d front _ _ _ _) = kept _ (only d (child_answer e.item (stamp_of (front_taken e.stamp rest p)))) (only-same y d _ (answer-same e.item y (stamp_of (front_taken e.stamp rest p))))
  row-erases k f t g (row_read_by_parked e rest words front _ _ _ _ _) = kept-none _
  row-erases k f t g (row_data_to_readers e rest first joined front _ _ _) = kept _ (reader_takes (up_read first joined) e.item e.words (stamp_of (front_taken e.stamp rest p))) (readers-same y (stamp_of (front_taken e.stamp rest p)) (up_read first joined) e.item e.words)
  row-erases k f t g (row_inject_to_reader e rest d joined front _ _ _ _ _) = kept _ (only d (child_take_inject e.item e.words (stamp_of (front_taken e.stamp rest p)))) (only-same y d _ (inject-same e.item y e.words (stamp_of (front_taken e.stamp rest p))))
  row-erases k f t g (row_inject_to_readers e rest first joined front _ _ _ _) = kept _ (reader_takes (up_read first joined) e.item e.words (stamp_of (front_taken e.stamp rest p))) (readers-same y (stamp_of (front_taken e.stamp rest p)) (up_read first joined) e.item e.words)
  row-erases k f t g (row_inject_to_child e rest d front _ _ _ _) = kept _ (only d (child_take_inject e.item e.words (stamp_of (front_taken e.stamp rest p)))) (only-same y d _ (inject-same e.item y e.words (stamp_of (front_taken e.stamp rest p))))
  row-erases k f t g (row_inject_parked e rest front _ _ _ _ _ _) = kept-none _
  row-erases k f t g (row_out_gone c choice x _ _ _ _ _) = kept _ (only c (child_give_up x)) (only-same y c _ (gone-same x y))
  row-erases k f t g (row_out_parked c choice x _ _ _ _ _ _ _ _) = kept _ (only c (child_give_up x)) (only-same y c _ (gone-same x y))
  row-erases k f t g (row_leave_to c choice x d _ _ _ _ _) = kept _ (passed_on c d x (child_given x (child_at c ns)) (stamp_of (counted p))) (λ i n. if-same y (nat_eq i c) n (child_give_up x n) _ (gone-same x y n) (if-same y (nat_eq i d) n _ n (inject-same x y (child_given x (child_at c ns)) (stamp_of (counted p)) n) (same y n)))
  row-erases k f t g (row_inject_up c choice x _ _ _ _ _ _ _ _) = kept _ (only c (child_give_up x)) (only-same y c _ (gone-same x y))
