-- Where the copies of every item come from in every row of a bus's turn.
-- Letters: p is the parent, ns its children, w where the parent stands, g what was granted, y any item.
use Rattle.std.proofs.Common.{◌≡◌, ℕ, List, refl, sym, ap, subst, ◌∙◌, inl, inr}
use native.Mathlib.Decide.{ℕ_discrete}
use Rattle.order_laws.specs.DdmTypes.declared.answers.TxKind.TheVariants.{DataTx, InjectTx}
use Rattle.order_laws.specs.TreeModel.declared.BusTurn.{BusTurn}
use Rattle.order_laws.specs.TreeModel.State.States.{is_exclusive}
use Rattle.order_laws.specs.TreeModel.State.Values.{DirValue, Node, nodes}
use Rattle.order_laws.specs.TreeModel.State.Directory.{dir_hold, counted, stamp_of, front_taken}
use Rattle.order_laws.specs.TreeModel.State.Place.{Where, stamp_above}
use Rattle.order_laws.specs.TreeModel.Turns.Grant.{Grant}
use Rattle.order_laws.specs.TreeModel.Turns.RequestRead.{joins, read_of_child, read_of_parked, read_of_parent}
use Rattle.order_laws.specs.TreeModel.Turns.RequestErase.{erase_of_all}
use Rattle.order_laws.specs.TreeModel.Turns.Reply.{reply_to_readers, reply_to_parent}
use Rattle.order_laws.specs.TreeModel.Turns.Down.{exclusive_to, erase_of_children, read_by_child, read_by_parked, data_to_readers, inject_to_reader, inject_to_readers, inject_to_child, inject_parked}
use Rattle.order_laws.specs.TreeModel.Turns.Leave.{out_gone, leave_parked, leave_to}
use Rattle.order_laws.proofs.TreeModel.BusRooms.{inject_taker-room}
use Rattle.order_laws.proofs.TreeModel.Rows.{Row, row_joins, row_read_of_child, row_read_of_parked, row_read_of_parent, row_erase_of_all, row_reply_to_readers, row_reply_to_parent, row_exclusive_to, row_erase_of_children, row_read_by_child, row_read_by_parked, row_data_to_readers, row_inject_to_reader, row_inject_to_readers, row_inject_to_child, row_inject_parked, row_out_gone, row_out_parked, row_leave_to, row_inject_up}
use Rattle.bus_laws.proofs.Before.{entry-known, reader-at}
use Rattle.bus_laws.proofs.ItemLists.{nat_eq-same}
use Rattle.order_laws.specs.TreeModel.State.Directory.{is_reader}
use Rattle.order_laws.proofs.Moves.Beside.{row-beside}
use Rattle.order_laws.proofs.Moves.BusFacts.{BusFacts}
use Rattle.order_laws.proofs.Moves.DownRows.{exclusive-row, read_by_child-row, read_by_parked-row, readers-row, taker-row, inject_parked-row, erase-row}
use Rattle.order_laws.proofs.Moves.Facts.{up-readers}
use Rattle.order_laws.proofs.Moves.Hands.{Hands, beside-hands}
use Rattle.order_laws.proofs.Moves.LeaveRows.{out_gone-row, parked-row, leave_to-row}
use Rattle.order_laws.proofs.Moves.PlainRows.{request-hands}
use Rattle.order_laws.proofs.Moves.RequestRows.{joins-row, read_from-row, read_of_parked-row, erase_of_all-row, reply_to_readers-row, reply_to_parent-row}
use Rattle.order_laws.proofs.Moves.LeavesKept.{RowKept, row-kept}
use Rattle.order_laws.proofs.Moves.RowErases.{RowErases, row-erases}
use Rattle.order_laws.proofs.Moves.RowClaims.{RowClaim, row-claim}
use Rattle.order_laws.proofs.Moves.RowTime.{RowTime, row-time}

module _ (n : ℕ) (w : Where) (p : DirValue) (ns : List Node) (f : BusFacts n w p ns) where
  own-item : (t : BusTurn) (g : Grant) → Row (stamp_above w) p ns t g → RowTime w p g.parent → Hands g.item w p ns g.parent g.kids
  unfolding joins read_of_child read_of_parked read_of_parent erase_of_all reply_to_readers reply_to_parent exclusive_to erase_of_children read_by_child read_by_parked data_to_readers inject_to_reader inject_to_readers inject_to_child inject_parked out_gone leave_parked leave_to
  own-item t g (row_joins c x _ _) time = joins-row n w p ns f c x time
  own-item t g (row_read_of_child c x k _ _ _ _ _) time = read_from-row n w p ns f c k x _ refl refl refl time (stamp_of (counted p))
  own-item t g (row_read_of_parked c x words _ free _ _ parked _) time = read_of_parked-row n w p ns f c x words free parked time
  own-item t g (row_read_of_parent c x _ _ _ _) time = request-hands x w p _ ns refl refl refl time c
  own-item t g (row_erase_of_all c x asks free _ _) time = erase_of_all-row n w p ns f c x asks free (is_exclusive (dir_hold x p)) time
  own-item t g (row_reply_to_readers c x words first joined has note room) time = reply_to_readers-row n w p ns f c x words first joined has note room time
  own-item t g (row_reply_to_parent c x words has other answering _) time = reply_to_parent-row n w p ns f c x words has other answering time
  own-item t g (row_exclusive_to e rest d front kind _ _) time = exclusive-row n p ns e rest front w d kind time
  own-item t g (row_erase_of_children e rest front kind other _) time = erase-row n p ns e rest front kind other w f time
  own-item t g (row_read_by_child e rest k front kind _ _ _) time = read_by_child-row n p ns e rest front w k kind time
  own-item t g (row_read_by_parked e rest words front kind _ _ parked _) time = read_by_parked-row n p ns e rest front w f words kind parked time
  own-item t g (row_data_to_readers e rest first joined front kind note room) time = readers-row n p ns e rest front first joined note room DataTx kind refl refl refl refl w f time
  own-item t g (row_inject_to_reader e rest d joined front kind note _ _ _) time = taker-row n p ns e rest front d kind w f _ refl refl refl refl refl refl refl (λ l.
      let within = entry-known n e.item p ns f.bus e rest front in
      let readers = up-readers n e.item p ns f.bus f.kids within d joined note in
      inl (reader-at n e.item p ns f.bus f.kids within readers d l (ap (λ u. is_reader u d) note ∙ rw (nat_eq-same d) refl))) time
  own-item t g (row_inject_to_readers e rest first joined front kind note _ room) time = readers-row n p ns e rest front first joined note room InjectTx kind refl refl refl refl w f time
  own-item t g (row_inject_to_child e rest k front kind _ _ taker) time = taker-row n p ns e rest front k kind w f _ refl refl refl refl refl refl refl (λ l. inr (inject_taker-room e.item (front_taken e.stamp rest p) ns e.words k taker)) time
  own-item t g (row_inject_parked e rest front kind _ _ _ _ _) time = inject_parked-row n p ns e rest front kind w f time
  own-item t g (row_out_gone c choice x leaves _ free _ _) time = out_gone-row n w p ns f c choice x leaves free time
  own-item t g (row_out_parked c choice x leaves _ free _ _ _ _ _) time = parked-row n w p ns f c choice x leaves free time
  own-item t g (row_leave_to c choice x k leaves _ free _ taker) time = leave_to-row n w p ns f c choice x leaves free k taker time
  own-item t g (row_inject_up c choice x leaves _ free _ _ _ _ _) time = parked-row n w p ns f c choice x leaves free time

  -- the time of the bus, and the copies of each item
  pub record RowMoves (g : Grant) : Type 0 where
    pub time : RowTime w p g.parent
    pub hands : (y : ℕ) → Hands y w p ns g.parent g.kids
    pub claims : (y : ℕ) → RowClaim y (stamp_above w) p g.parent ns g.kids
    pub erases : (y : ℕ) → RowErases y g.parent ns g.kids
    pub leaves : RowKept ns g.kids

  pub row-moves : (t : BusTurn) (g : Grant) → Row (stamp_above w) p ns t g → RowMoves g
  row-moves t g row =
      let time : RowTime w p g.parent = row-time w p (nodes ns) f.ordered (stamp_above w) ns t g row in
      record { time = time; hands = λ y. by time y (ℕ_discrete y g.item); claims = λ y. row-claim (stamp_above w) p ns y t g row; erases = λ y. row-erases w p ns y n f t g row; leaves = row-kept ns (stamp_above w) p t g row } where
        by : RowTime w p g.parent → (y : ℕ) → Dec (y ≡ g.item) → Hands y w p ns g.parent g.kids
        by time y (yes same) = subst (λ z. Hands z w p ns g.parent g.kids) (sym same) (own-item t g row time)
        by time y (no other) = beside-hands y w p g.parent ns g.kids time (row-beside (stamp_above w) p ns y t g row other)
