-- Claims in each row of a bus's turn: those of the children, and the parent's exclusives and injects.
-- Letters: y is any item, p the parent, q after it, ns its children, g what was granted.
use Rattle.std.proofs.Common.{◌≡◌, ℕ, ◌<◌, Bool, true, false, List, [], ◌∷◌, ◌++◌, length, Option, Some, None, refl, sym, ap, subst, ◌∙◌}
use Rattle.std.specs.Prelude.{nat_eq, if◌then◌else◌}
use native.Mathlib.Decide.{ℕ_discrete}
use Rattle.order_laws.specs.DdmTypes.declared.answers.TxKind.TheVariants.{DataTx}
use Rattle.order_laws.specs.DdmTypes.declared.sizes.Hold.{Hold}
use Rattle.order_laws.specs.DdmTypes.declared.keys.Stamp.{Stamp}
use Rattle.order_laws.specs.TreeModel.declared.BusTurn.{BusTurn}
use Rattle.order_laws.specs.TreeModel.State.Lists.{map_from, first_some}
use Rattle.order_laws.specs.TreeModel.State.States.{is_exclusive}
use Rattle.order_laws.specs.TreeModel.State.Values.{DownValue, Note, no_note, up_erase, up_read, local, DirValue, Node}
use Rattle.order_laws.specs.TreeModel.State.Directory.{is_top, dir_item, dir_hold, dir_note, queue_of, is_reader, pending, stamp_of, counted, front_taken, with_note, with_hold, with_answering, joined_by}
use Rattle.order_laws.specs.TreeModel.State.Child.{child_take_data, child_take_exclusive, child_answer, child_take_inject, child_give_up, child_request_taken, child_reply_taken, child_given}
use Rattle.order_laws.proofs.TreeModel.Children.{map_from-length, child_at-map_from}
use Rattle.order_laws.specs.TreeRules.Order.Claims.{gives_exclusive, last_exclusive}
use Rattle.order_laws.specs.TreeRules.Order.Moments.{moment_at}
use Rattle.bus_laws.proofs.DirGives.{quiet-from_pending}
use Rattle.order_laws.proofs.Moves.Inside.{queue-pushed, queue-pushed_other, queue-front, queue-front_other}
use Rattle.order_laws.proofs.Moves.Giving.{no-queue}
use Rattle.order_laws.proofs.Moves.KidClaims.{last-behind, last-pushed, KidClaims, same-claims, request-claims, reply-claims, claims-again, answer-any, data-any, exclusive-any, inject-any, gone-any, lose-any, holds-by}
use Rattle.order_laws.specs.TreeModel.Turns.Grant.{Grant}
use Rattle.order_laws.specs.TreeModel.Turns.Children.{child_at, only, read_from, erased_by, loses, reader_takes, replied_by, passed_on}
use Rattle.order_laws.specs.TreeModel.Turns.RequestRead.{joins, read_of_child, read_of_parked, read_of_parent}
use Rattle.order_laws.specs.TreeModel.Turns.RequestErase.{erase_of_all, erase_noted}
use Rattle.order_laws.specs.TreeModel.Turns.Reply.{reply_to_readers, reply_to_parent}
use Rattle.order_laws.specs.TreeModel.Turns.Down.{without_up_erase, exclusive_to, erase_of_children, read_by_child, read_by_parked, data_to_readers, inject_to_reader, inject_to_readers, inject_to_child, inject_parked}
use Rattle.order_laws.specs.TreeModel.Turns.Leave.{out_gone, leave_parked, leave_to}
use Rattle.order_laws.proofs.TreeModel.Rows.{Row, row_joins, row_read_of_child, row_read_of_parked, row_read_of_parent, row_erase_of_all, row_reply_to_readers, row_reply_to_parent, row_exclusive_to, row_erase_of_children, row_read_by_child, row_read_by_parked, row_data_to_readers, row_inject_to_reader, row_inject_to_readers, row_inject_to_child, row_inject_parked, row_out_gone, row_out_parked, row_leave_to, row_inject_up}

-- what becomes of the exclusives and injects of the item in the parent's down list; `above` is the path of the bus above
pub data QueueClaim (y : ℕ) (above : List ℕ) (present : Stamp) (p q : DirValue) : Type 0 where
  queue_same : last_exclusive above (queue_of y q.down) ≡ last_exclusive above (queue_of y p.down) → QueueClaim y above present p q
  -- the last of them is taken, with this stamp
  queue_taken : (s : Stamp) → q.epoch ≡ (if is_top p then p.epoch else s) → last_exclusive above (queue_of y q.down) ≡ None → last_exclusive above (queue_of y p.down) ≡ Some (moment_at above s) → QueueClaim y above present p q
  -- one comes, at the present stamp above
  queue_pushed : q.epoch ≡ p.epoch → last_exclusive above (queue_of y p.down) ≡ None → last_exclusive above (queue_of y q.down) ≡ Some (moment_at above present) → QueueClaim y above present p q

pub record RowClaim (y : ℕ) (present : Stamp) (p q : DirValue) (ns ms : List Node) : Type 0 where
  pub many : length ms ≡ length ns
  pub kids : (i : ℕ) → i < length ns → KidClaims y (stamp_of q) (child_at i ns) (child_at i ms)
  pub hold : is_exclusive (dir_hold y q) ≡ true → is_exclusive (dir_hold y p) ≡ true
  pub queue : (above : List ℕ) → QueueClaim y above present p q

-- ---- children

if-claims : (y : ℕ) (s : Stamp) (b : Bool) (n m k : Node) → KidClaims y s n m → KidClaims y s n k → KidClaims y s n (if b then m else k)
if-claims y s true n m k f g = f
if-claims y s false n m k f g = g

only-claims : (y : ℕ) (s : Stamp) (c : ℕ) (f : Node → Node) → ((n : Node) → KidClaims y s n (f n)) → (i : ℕ) (n : Node) → KidClaims y s n (only c f i n)
only-claims y s c f h i n = if-claims y s (nat_eq i c) n (f n) n (h n) (same-claims y s n)

readers-claims : (y : ℕ) (s : Stamp) (u : Note) (x : ℕ) (words : List ℕ) (i : ℕ) (n : Node) → KidClaims y s n (reader_takes u x words s i n)
readers-claims y s u x words i n = if-claims y s (is_reader u i) n (child_take_data x words s n) n (data-any x y s words s n) (same-claims y s n)

-- ---- the parent's queue

front-claim : (y : ℕ) (above : List ℕ) (present : Stamp) (p q : DirValue) (e : DownValue) (rest : List DownValue) → p.down ≡ e ∷ rest → q.down ≡ rest → q.epoch ≡ (if is_top p then p.epoch else e.stamp) → QueueClaim y above present p q
front-claim y above present p q e rest front down epoch = by (ℕ_discrete y e.item) where
  own : queue_of y p.down ≡ e ∷ queue_of y q.down → (o : Option (List ℕ)) → last_exclusive above (queue_of y q.down) ≡ o → (b : Bool) → gives_exclusive e ≡ b → QueueClaim y above present p q
  own is (Some m) last b gives = queue_same (last ∙ sym (ap (last_exclusive above) is ∙ ap (λ o. first_some o (if gives_exclusive e then Some (moment_at above e.stamp) else None)) last))
  own is None last true gives = queue_taken e.stamp epoch last (ap (last_exclusive above) is ∙ (ap (λ o. first_some o (if gives_exclusive e then Some (moment_at above e.stamp) else None)) last ∙ ap (λ b. if b then Some (moment_at above e.stamp) else None) gives))
  own is None last false gives = queue_same (last ∙ sym (ap (last_exclusive above) is ∙ (ap (λ o. first_some o (if gives_exclusive e then Some (moment_at above e.stamp) else None)) last ∙ ap (λ b. if b then Some (moment_at above e.stamp) else None) gives)))

  by : Dec (y ≡ e.item) → QueueClaim y above present p q
  by (yes same) =
      let is : queue_of y p.down ≡ e ∷ queue_of y q.down = ap (queue_of y) front ∙ (subst (λ z. queue_of z (e ∷ rest) ≡ e ∷ queue_of z rest) (sym same) (queue-front e rest) ∙ ap (λ l. e ∷ queue_of y l) (sym down)) in
      own is (last_exclusive above (queue_of y q.down)) refl (gives_exclusive e) refl
  by (no ne) = queue_same (ap (last_exclusive above) (ap (queue_of y) down ∙ sym (ap (queue_of y) front ∙ queue-front_other y e rest ne)))

-- ---- by rows

module _ (present : Stamp) (p : DirValue) (ns : List Node) (y : ℕ) where
  row : (q : DirValue) (g : ℕ → Node → Node) → ((i : ℕ) (n : Node) → KidClaims y (stamp_of q) n (g i n)) → (is_exclusive (dir_hold y q) ≡ true → is_exclusive (dir_hold y p) ≡ true) → ((above : List ℕ) → QueueClaim y above present p q) → RowClaim y present p q ns (map_from g 0 ns)
  row q g h hold queue = record { many = map_from-length g 0 ns; kids = λ i l. subst (λ m. KidClaims y (stamp_of q) (child_at i ns) m) (sym (child_at-map_from g i ns l)) (h i (child_at i ns)); hold = hold; queue = queue }

  row-none : (q : DirValue) → (is_exclusive (dir_hold y q) ≡ true → is_exclusive (dir_hold y p) ≡ true) → ((above : List ℕ) → QueueClaim y above present p q) → RowClaim y present p q ns ns
  row-none q hold queue = record { many = refl; kids = λ i l. same-claims y (stamp_of q) (child_at i ns); hold = hold; queue = queue }

  same : (is_exclusive (dir_hold y p) ≡ true) → is_exclusive (dir_hold y p) ≡ true
  same is = is

  -- another note, or the hold Shared
  noted : (x : ℕ) (note : Note) → is_exclusive (dir_hold y (with_note x note p)) ≡ true → is_exclusive (dir_hold y p) ≡ true
  noted x note = holds-by x y (record (dir_item x p) { note = note }) p (λ is. is)

  shared : (x : ℕ) → is_exclusive (dir_hold y (with_answering x false (with_hold x Hold.Shared p))) ≡ true → is_exclusive (dir_hold y p) ≡ true
  shared x is = holds-by x y (record (dir_item x p) { hold = Hold.Shared }) p (λ wrong. absurd (let no : false ≡ true = wrong in cc)) (holds-by x y (record (dir_item x (with_hold x Hold.Shared p)) { answering = false }) (with_hold x Hold.Shared p) (λ is. is) is)

  erase-claim : (c x : ℕ) → pending x p ≡ None → (b : Bool) → RowClaim y present p (erase_noted present c x p ns b) ns (map_from (erased_by c x (stamp_of (counted p))) 0 ns)
  erase-claim c x free true = row (erase_noted present c x p ns true) (erased_by c x (stamp_of (counted p))) (λ i n. if-claims y (stamp_of (counted p)) (nat_eq i c) n _ _ (request-claims y (stamp_of (counted p)) n) (lose-any x y (stamp_of (counted p)) (stamp_of (counted p)) n)) (noted x (up_erase c)) (λ above. by above (ℕ_discrete y x)) where
    by : (above : List ℕ) → Dec (y ≡ x) → QueueClaim y above present p (erase_noted present c x p ns true)
    by above (yes is) =
        let empty : queue_of y p.down ≡ [] = subst (λ z. queue_of z p.down ≡ []) (sym is) (no-queue x p (quiet-from_pending x p free).queue) in
        queue_pushed refl (ap (last_exclusive above) empty) (ap (last_exclusive above) (queue-pushed y p.down _ (sym is)) ∙ last-pushed above (queue_of y p.down) _ refl)
    by above (no ne) = queue_same (ap (last_exclusive above) (queue-pushed_other y p.down _ ne))
  erase-claim c x free false = row (erase_noted present c x p ns false) (erased_by c x (stamp_of (counted p))) (λ i n. if-claims y (stamp_of (counted p)) (nat_eq i c) n _ _ (request-claims y (stamp_of (counted p)) n) (lose-any x y (stamp_of (counted p)) (stamp_of (counted p)) n)) (noted x (up_erase c)) (λ above. queue_same refl)

  parked-claim : (x : ℕ) (words : List ℕ) (above : List ℕ) (q : DirValue) → q.down ≡ p.down ++ record { kind = DataTx; item = x; words = words; stamp = present } ∷ [] → QueueClaim y above present p q
  parked-claim x words above q down = by (ℕ_discrete y x) where
    by : Dec (y ≡ x) → QueueClaim y above present p q
    by (yes is) = queue_same (ap (λ l. last_exclusive above (queue_of y l)) down ∙ (ap (last_exclusive above) (queue-pushed y p.down _ (sym is)) ∙ last-behind above (queue_of y p.down) _ refl))
    by (no ne) = queue_same (ap (λ l. last_exclusive above (queue_of y l)) down ∙ ap (last_exclusive above) (queue-pushed_other y p.down _ ne))

  pub row-claim : (t : BusTurn) (g : Grant) → Row present p ns t g → RowClaim y present p g.parent ns g.kids
  unfolding joins read_of_child read_of_parked read_of_parent erase_of_all reply_to_readers reply_to_parent exclusive_to erase_of_children read_by_child read_by_parked data_to_readers inject_to_reader inject_to_readers inject_to_child inject_parked out_gone leave_parked leave_to
  row-claim t g (row_joins c x _ _) = row _ (only c child_request_taken) (only-claims y (stamp_of (counted p)) c child_request_taken (request-claims y (stamp_of (counted p)))) (noted x (joined_by c (dir_note x p))) (λ above. queue_same refl)
  row-claim t g (row_read_of_child c x k _ _ _ _ _) = row _ (read_from c k x (stamp_of (counted p))) (λ i n. if-claims y (stamp_of (counted p)) (nat_eq i c) n (child_request_taken n) _ (request-claims y (stamp_of (counted p)) n) (if-claims y (stamp_of (counted p)) (nat_eq i k) n _ n (answer-any x y (stamp_of (counted p)) (stamp_of (counted p)) n) (same-claims y (stamp_of (counted p)) n))) (noted x (local c 0)) (λ above. queue_same refl)
  row-claim t g (row_read_of_parked c x words _ _ _ _ _ _) = row _ (only c child_request_taken) (only-claims y (stamp_of (counted p)) c child_request_taken (request-claims y (stamp_of (counted p)))) (noted x (up_read c 0)) (λ above. parked-claim x words above _ refl)
  row-claim t g (row_read_of_parent c x _ _ _ _) = row _ (only c child_request_taken) (only-claims y (stamp_of (counted p)) c child_request_taken (request-claims y (stamp_of (counted p)))) (noted x (up_read c 0)) (λ above. queue_same refl)
  row-claim t g (row_erase_of_all c x _ free _ _) = erase-claim c x free (is_exclusive (dir_hold x p))
  row-claim t g (row_reply_to_readers c x words first joined _ _ _) = row _ (replied_by c (local first joined) x words (stamp_of (counted p))) (λ i n. claims-again y (stamp_of (counted p)) n (only c child_reply_taken i n) _ (only-claims y (stamp_of (counted p)) c child_reply_taken (reply-claims y (stamp_of (counted p))) i n) (readers-claims y (stamp_of (counted p)) (local first joined) x words i (only c child_reply_taken i n))) (noted x no_note) (λ above. queue_same refl)
  row-claim t g (row_reply_to_parent c x words _ _ _ _) = row _ (only c child_reply_taken) (only-claims y (stamp_of (counted p)) c child_reply_taken (reply-claims y (stamp_of (counted p)))) (shared x) (λ above. queue_same refl)
  row-claim t g (row_exclusive_to e rest d front _ _ _) = row _ (only d (child_take_exclusive e.item (stamp_of (front_taken e.stamp rest p)))) (only-claims y (stamp_of (front_taken e.stamp rest p)) d _ (exclusive-any e.item y (stamp_of (front_taken e.stamp rest p)))) (noted e.item no_note) (λ above. front-claim y above present p _ e rest front refl refl)
  row-claim t g (row_erase_of_children e rest front _ _ _) = row _ (loses e.item (stamp_of (front_taken e.stamp rest p))) (λ i n. lose-any e.item y (stamp_of (front_taken e.stamp rest p)) (stamp_of (front_taken e.stamp rest p)) n) (noted e.item (without_up_erase (dir_note e.item p))) (λ above. front-claim y above present p _ e rest front refl refl)
  row-claim t g (row_read_by_child e rest k front _ _ _ _) = row _ (only k (child_answer e.item (stamp_of (front_taken e.stamp rest p)))) (only-claims y (stamp_of (front_taken e.stamp rest p)) k _ (answer-any e.item y (stamp_of (front_taken e.stamp rest p)) (stamp_of (front_taken e.stamp rest p)))) same (λ above. front-claim y above present p _ e rest front refl refl)
  row-claim t g (row_read_by_parked e rest words front _ _ _ _ _) = row-none _ (shared e.item) (λ above. front-claim y above present p _ e rest front refl refl)
  row-claim t g (row_data_to_readers e rest first joined front _ _ _) = row _ (reader_takes (up_read first joined) e.item e.words (stamp_of (front_taken e.stamp rest p))) (readers-claims y (stamp_of (front_taken e.stamp rest p)) (up_read first joined) e.item e.words) (noted e.item no_note) (λ above. front-claim y above present p _ e rest front refl refl)
  row-claim t g (row_inject_to_reader e rest d joined front _ _ _ _ _) = row _ (only d (child_take_inject e.item e.words (stamp_of (front_taken e.stamp rest p)))) (only-claims y (stamp_of (front_taken e.stamp rest p)) d _ (inject-any e.item y (stamp_of (front_taken e.stamp rest p)) e.words)) (noted e.item no_note) (λ above. front-claim y above present p _ e rest front refl refl)
  row-claim t g (row_inject_to_readers e rest first joined front _ _ _ _) = row _ (reader_takes (up_read first joined) e.item e.words (stamp_of (front_taken e.stamp rest p))) (readers-claims y (stamp_of (front_taken e.stamp rest p)) (up_read first joined) e.item e.words) (noted e.item no_note) (λ above. front-claim y above present p _ e rest front refl refl)
  row-claim t g (row_inject_to_child e rest k front _ _ _ _) = row _ (only k (child_take_inject e.item e.words (stamp_of (front_taken e.stamp rest p)))) (only-claims y (stamp_of (front_taken e.stamp rest p)) k _ (inject-any e.item y (stamp_of (front_taken e.stamp rest p)) e.words)) same (λ above. front-claim y above present p _ e rest front refl refl)
  row-claim t g (row_inject_parked e rest front _ _ _ _ _ _) = row-none _ same (λ above. front-claim y above present p _ e rest front refl refl)
  row-claim t g (row_out_gone c choice x _ _ _ _ _) = row _ (only c (child_give_up x)) (only-claims y (stamp_of (counted p)) c _ (gone-any x y (stamp_of (counted p)))) same (λ above. queue_same refl)
  row-claim t g (row_out_parked c choice x _ _ _ _ _ _ _ _) = row _ (only c (child_give_up x)) (only-claims y (stamp_of (counted p)) c _ (gone-any x y (stamp_of (counted p)))) same (λ above. queue_same refl)
  row-claim t g (row_leave_to c choice x k _ _ _ _ _) = row _ (passed_on c k x (child_given x (child_at c ns)) (stamp_of (counted p))) (λ i n. if-claims y (stamp_of (counted p)) (nat_eq i c) n (child_give_up x n) _ (gone-any x y (stamp_of (counted p)) n) (if-claims y (stamp_of (counted p)) (nat_eq i k) n _ n (inject-any x y (stamp_of (counted p)) (child_given x (child_at c ns)) n) (same-claims y (stamp_of (counted p)) n))) same (λ above. queue_same refl)
  row-claim t g (row_inject_up c choice x _ _ _ _ _ _ _ _) = row _ (only c (child_give_up x)) (only-claims y (stamp_of (counted p)) c _ (gone-any x y (stamp_of (counted p)))) same (λ above. queue_same refl)
