-- What a turn of a bus didn't touch stands as it was: each child that is neither where a grant came from nor where it went to.
-- Letters: i is the child, c and k other ones, ns the children of the bus, p the parent, x an item, g a grant, j what was judged.
use Rattle.std.proofs.Common.{◌≡◌, ℕ, Bool, true, false, true≢false, List, length, refl, sym, ap, ◌∙◌}
use Rattle.std.specs.Prelude.{◌||◌, nat_eq, nat_lt, if◌then◌else◌}
use Rattle.std.proofs.lemmas.Bool.{eqb-true, ltb-true, ltb-false}
use Rattle.std.proofs.lemmas.List.{get_or_past}
use Rattle.ddm_tree.specs.DdmTypes.declared.answers.Place.{Place}
use Rattle.ddm_tree.specs.DdmTypes.declared.keys.Stamp.{Stamp}
use Rattle.ddm_tree.specs.TreeModel.declared.BusTurn.{BusTurn}
use Rattle.ddm_tree.specs.TreeModel.State.Blank.{no_node}
use Rattle.ddm_tree.specs.TreeModel.State.Lists.{map_from}
use Rattle.ddm_tree.specs.TreeModel.State.Values.{DirValue, Node, local, up_read}
use Rattle.ddm_tree.specs.TreeModel.State.Child.{child_answer, child_give_up, child_given, child_reply_taken, child_request_taken, child_take_exclusive, child_take_inject}
use Rattle.ddm_tree.specs.TreeModel.State.Directory.{counted, front_taken, in_set, stamp_of}
use Rattle.ddm_tree.specs.TreeModel.Turns.Bus.{bus_judged, bus_step}
use Rattle.ddm_tree.specs.TreeModel.Turns.Children.{child_at, only, passed_on, read_from, reader_takes, replied_by}
use Rattle.ddm_tree.specs.TreeModel.Turns.Grant.{Grant, Judged, data_taker, granted, nothing_there, outcome_of, refused}
use Rattle.ddm_tree.specs.TreeModel.Turns.RequestRead.{joins, read_of_child, read_of_parked, read_of_parent}
use Rattle.ddm_tree.specs.TreeModel.Turns.RequestErase.{erase_of_all}
use Rattle.ddm_tree.specs.TreeModel.Turns.Reply.{reply_to_readers, reply_to_parent}
use Rattle.ddm_tree.specs.TreeModel.Turns.Down.{exclusive_to, erase_of_children, read_by_child, read_by_parked, data_to_readers, inject_to_reader, inject_to_readers, inject_to_child, inject_parked}
use Rattle.ddm_tree.specs.TreeModel.Turns.Leave.{out_gone, leave_parked, leave_to}
use Rattle.ddm_tree.proofs.TreeModel.Children.{child_at-map_from, map_from-past}
use Rattle.ddm_tree.proofs.TreeModel.Rows.{Row, row_joins, row_read_of_child, row_read_of_parked, row_read_of_parent, row_erase_of_all, row_reply_to_readers, row_reply_to_parent, row_exclusive_to, row_erase_of_children, row_read_by_child, row_read_by_parked, row_data_to_readers, row_inject_to_reader, row_inject_to_readers, row_inject_to_child, row_inject_parked, row_out_gone, row_out_parked, row_leave_to, row_inject_up, row-of}
use Rattle.ddm_tree.proofs.TreeModel.Sets.{in_set-empty}
use Rattle.ddm_tree.specs.Quiet.{may_be_child, touches_child}

pub not-true : (b : Bool) → (b ≡ true → ⊥) → b ≡ false
not-true true isnt = absurd (isnt refl)
not-true false isnt = refl

-- ---- one child of a bus

module _ (i : ℕ) (ns : List Node) where
  mapped-by : (g : ℕ → Node → Node) → g i (child_at i ns) ≡ child_at i ns → (b : Bool) → nat_lt i (length ns) ≡ b → child_at i (map_from g 0 ns) ≡ child_at i ns
  mapped-by g same true e = child_at-map_from g i ns (ltb-true _ _ e) ∙ same
  mapped-by g same false e = map_from-past g 0 i ns no_node (ltb-false _ _ e) ∙ sym (get_or_past ns i no_node (ltb-false _ _ e))

  mapped-same : (g : ℕ → Node → Node) → g i (child_at i ns) ≡ child_at i ns → child_at i (map_from g 0 ns) ≡ child_at i ns
  mapped-same g same = mapped-by g same (nat_lt i (length ns)) refl

  -- another child alone is changed
  one-same : (c : ℕ) (f : Node → Node) → nat_eq i c ≡ false → child_at i (map_from (only c f) 0 ns) ≡ child_at i ns
  one-same c f other = mapped-same (only c f) (rw other refl)

  -- it doesn't read, where it isn't the taker of data
  alone : (first joined : ℕ) (b : Bool) → nat_eq joined 0 ≡ b → may_be_child i (if b then Place.Child first else Place.Readers) ≡ false → (nat_eq i first || in_set i joined) ≡ false
  alone first joined true none other = ap (λ set. nat_eq i first || in_set i set) (eqb-true joined 0 none) ∙ rw (other, in_set-empty i) refl
  alone first joined false some other = absurd (true≢false other)

  no-reader : (first joined : ℕ) → may_be_child i (data_taker first joined) ≡ false → (nat_eq i first || in_set i joined) ≡ false
  no-reader first joined other = alone first joined (nat_eq joined 0) refl other

-- ---- each grant

or-none : (a b : Bool) → (a || b) ≡ false → (a ≡ false) × (b ≡ false)
or-none true b e = cc
or-none false b e = (refl, e)

module _ (above : Stamp) (p : DirValue) (ns : List Node) (i : ℕ) where
  abbrev Keeps : Grant → Type 0
  Keeps g = may_be_child i g.source ≡ false → may_be_child i g.taker ≡ false → child_at i g.kids ≡ child_at i ns

  row-same : (t : BusTurn) (g : Grant) → Row above p ns t g → Keeps g
  unfolding joins read_of_child read_of_parked read_of_parent erase_of_all reply_to_readers reply_to_parent exclusive_to erase_of_children read_by_child read_by_parked data_to_readers inject_to_reader inject_to_readers inject_to_child inject_parked out_gone leave_parked leave_to
  row-same t g (row_joins c x _ _) other taker = one-same i ns c child_request_taken other
  row-same t g (row_read_of_child c x k _ _ _ _ _) other taker = mapped-same i ns (read_from c k x (stamp_of (counted p))) (rw (other, taker) refl)
  row-same t g (row_read_of_parked c x words _ _ _ _ _ _) other taker = one-same i ns c child_request_taken other
  row-same t g (row_read_of_parent c x _ _ _ _) other taker = one-same i ns c child_request_taken other
  row-same t g (row_erase_of_all c x _ _ _ _) other all = absurd (true≢false all)
  row-same t g (row_reply_to_readers c x words first joined _ _ _) other taker = mapped-same i ns (replied_by c (local first joined) x words (stamp_of (counted p))) (rw (no-reader i ns first joined taker, other) refl)
  row-same t g (row_reply_to_parent c x words _ _ _ _) other taker = one-same i ns c child_reply_taken other
  row-same t g (row_exclusive_to e rest d _ _ _ _) source other = one-same i ns d (child_take_exclusive e.item (stamp_of (front_taken e.stamp rest p))) other
  row-same t g (row_erase_of_children e rest _ _ _ _) source all = absurd (true≢false all)
  row-same t g (row_read_by_child e rest k _ _ _ _ _) source other = one-same i ns k (child_answer e.item (stamp_of (front_taken e.stamp rest p))) other
  row-same t g (row_read_by_parked e rest words _ _ _ _ _ _) source taker = refl
  row-same t g (row_data_to_readers e rest first joined _ _ _ _) source taker = mapped-same i ns (reader_takes (up_read first joined) e.item e.words (stamp_of (front_taken e.stamp rest p))) (rw (no-reader i ns first joined taker) refl)
  row-same t g (row_inject_to_reader e rest d joined _ _ _ _ _ _) source other = one-same i ns d (child_take_inject e.item e.words (stamp_of (front_taken e.stamp rest p))) other
  row-same t g (row_inject_to_readers e rest first joined _ _ _ _ _) source all = absurd (true≢false all)
  row-same t g (row_inject_to_child e rest k _ _ _ _ _) source other = one-same i ns k (child_take_inject e.item e.words (stamp_of (front_taken e.stamp rest p))) other
  row-same t g (row_inject_parked e rest _ _ _ _ _ _ _) source taker = refl
  row-same t g (row_out_gone c choice x _ _ _ _ _) other taker = one-same i ns c (child_give_up x) other
  row-same t g (row_out_parked c choice x _ _ _ _ _ _ _ _) other taker = one-same i ns c (child_give_up x) other
  row-same t g (row_leave_to c choice x k _ _ _ _ _) other taker = mapped-same i ns (passed_on c k x (child_given x (child_at c ns)) (stamp_of (counted p))) (rw (other, taker) refl)
  row-same t g (row_inject_up c choice x _ _ _ _ _ _ _ _) other taker = one-same i ns c (child_give_up x) other

  -- ---- an outcome

  outcome-same : (j : Judged) → ((g : Grant) → j ≡ granted g → Keeps g) → touches_child i (outcome_of p ns j).answer ≡ false → child_at i (outcome_of p ns j).kids ≡ child_at i ns
  outcome-same nothing_there each untouched = refl
  outcome-same (refused cause) each untouched = refl
  outcome-same (granted g) each untouched =
      let neither = or-none (may_be_child i g.source) (may_be_child i g.taker) untouched in
      each g refl neither.0 neither.1

  -- a child that a turn didn't touch
  pub step-same : (t : BusTurn) → touches_child i (bus_step above t p ns).answer ≡ false → child_at i (bus_step above t p ns).kids ≡ child_at i ns
  unfolding bus_step
  step-same t untouched = outcome-same (bus_judged above p ns t) (λ g is. row-same t g (row-of above p ns t g is)) untouched
