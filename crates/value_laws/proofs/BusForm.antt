-- A turn of a bus keeps the form of its parent and of its children, whatever is granted.
use Rattle.std.proofs.Common.{◌≡◌, ℕ, ◌+◌, Bool, true, false, cond, List, ◌∷◌, Some, refl, subst}
use Rattle.std.specs.Prelude.{IfSome, nat_eq}
use Rattle.std.specs.List.{AllByRecursion}
use Rattle.value_laws.specs.DdmTypes.declared.answers.TxKind.{TxKind}
use Rattle.value_laws.specs.DdmTypes.declared.answers.TxKind.TheVariants.{ReadTx, DataTx, EraseTx, ExclusiveTx, InjectTx, OutTx}
use Rattle.value_laws.specs.DdmTypes.declared.sizes.Hold.{Hold}
use Rattle.value_laws.specs.DdmTypes.declared.keys.Stamp.{Stamp}
use Rattle.value_laws.specs.TreeModel.declared.BusTurn.{BusTurn}
use Rattle.value_laws.specs.TreeModel.State.Lists.{map_from}
use Rattle.value_laws.specs.TreeModel.State.States.{is_exclusive}
use Rattle.value_laws.specs.TreeModel.State.Values.{DownValue, Note, no_note, local, up_read, up_erase, DirItem, DirValue, Node}
use Rattle.value_laws.specs.TreeModel.State.Leaf.{blank}
use Rattle.value_laws.specs.TreeModel.State.Directory.{is_reader, dir_hold, dir_note, joined_by, parked_words, with_note, with_hold, with_answering, without_parked, place_released, stamp_of, counted, front_taken}
use Rattle.value_laws.specs.TreeModel.State.Child.{child_lose, child_take_data, child_take_exclusive, child_answer, child_take_inject, child_request_taken, child_reply_taken, child_given, child_give_up, child_leaving}
use Rattle.value_laws.specs.TreeModel.Turns.Children.{child_at, only, read_from, erased_by, loses, reader_takes, replied_by, passed_on}
use Rattle.value_laws.specs.TreeModel.Turns.Grant.{Grant, Judged, nothing_there, refused, granted, outcome_of}
use Rattle.value_laws.specs.TreeModel.Turns.RequestRead.{joins, read_of_child, read_of_parked, read_of_parent}
use Rattle.value_laws.specs.TreeModel.Turns.RequestErase.{erase_noted, erase_of_all}
use Rattle.value_laws.specs.TreeModel.Turns.Reply.{reply_to_readers, reply_to_parent}
use Rattle.value_laws.specs.TreeModel.Turns.Down.{without_up_erase, exclusive_to, erase_of_children, read_by_child, read_by_parked, data_to_readers, inject_to_reader, inject_to_readers, inject_to_child, inject_parked}
use Rattle.value_laws.specs.TreeModel.Turns.Leave.{out_gone, leave_parked, leave_to}
use Rattle.value_laws.specs.TreeModel.Turns.Bus.{bus_judged, bus_step}
use Rattle.value_laws.proofs.TreeModel.Rows.{Row, row_joins, row_read_of_child, row_read_of_parked, row_read_of_parent, row_erase_of_all, row_reply_to_readers, row_reply_to_parent, row_exclusive_to, row_erase_of_children, row_read_by_child, row_read_by_parked, row_data_to_readers, row_inject_to_reader, row_inject_to_readers, row_inject_to_child, row_inject_parked, row_out_gone, row_out_parked, row_leave_to, row_inject_up, row-of}
use Rattle.value_laws.specs.Values.{AreWords, StampHasForm, DirHasForm, PartsHaveForm}
use Rattle.value_laws.proofs.Lists.{all-map_from, all-more}
use Rattle.value_laws.proofs.LeafForm.{blank-here}
use Rattle.value_laws.proofs.DirForm.{stamp-more, stamp_of-form, dir-more, counted-form, front-entry, front_taken-form, pushed_down-form, pushed_request-form, pushed_reply-form, with_parked-form, without_parked-form, parked-form}
use Rattle.value_laws.proofs.ChildForm.{parts-more, child_lose-form, child_take_data-form, child_take_exclusive-form, child_answer-form, child_take_inject-form, child_request_taken-form, child_reply_taken-form, child_give_up-form, reply-words, given-words}

module _ (width most : ℕ) where
  -- ---- what is kept of items, and the places kept for injects, aren't in the form

  items-form : (d : DirValue) (items : List DirItem) → DirHasForm width most d → DirHasForm width most (record d { items = items })
  items-form d items has = record { sizes = has.sizes; count = has.count; epoch = has.epoch; down = has.down; requests = has.requests; replies = has.replies; parked = has.parked }

  noted : (x : ℕ) (note : Note) (d : DirValue) → DirHasForm width most d → DirHasForm width most (with_note x note d)
  noted x note d has = items-form d (with_note x note d).items has

  holding : (x : ℕ) (h : Hold) (d : DirValue) → DirHasForm width most d → DirHasForm width most (with_hold x h d)
  holding x h d has = items-form d (with_hold x h d).items has

  answered : (x : ℕ) (d : DirValue) → DirHasForm width most d → DirHasForm width most (with_answering x false (with_hold x Hold.Shared d))
  answered x d has = items-form (with_hold x Hold.Shared d) (with_answering x false (with_hold x Hold.Shared d)).items (holding x Hold.Shared d has)

  released : (d : DirValue) → DirHasForm width most d → DirHasForm width most (place_released d)
  released d has = record { sizes = has.sizes; count = has.count; epoch = has.epoch; down = has.down; requests = has.requests; replies = has.replies; parked = has.parked }

  -- ---- all children at once

  module _ (ns : List Node) (all : AllByRecursion (PartsHaveForm width most) ns) where
    abbrev Keeps : (Node → Node) → Type 0
    Keeps f = (n : Node) → PartsHaveForm width most n → PartsHaveForm width most (f n)

    each-kept : (g : ℕ → Node → Node) → ((i : ℕ) → Keeps (g i)) → AllByRecursion (PartsHaveForm width most) (map_from g 0 ns)
    each-kept g keeps = all-map_from (PartsHaveForm width most) (PartsHaveForm width most) g keeps 0 ns all

    one-kept : (b : Bool) (f g : Node → Node) → Keeps f → Keeps g → (n : Node) → PartsHaveForm width most n → PartsHaveForm width most (cond b (f n) (g n))
    one-kept true f g first second n has = first n has
    one-kept false f g first second n has = second n has

    only-kept : (c : ℕ) (f : Node → Node) → Keeps f → AllByRecursion (PartsHaveForm width most) (map_from (only c f) 0 ns)
    only-kept c f keeps = each-kept (only c f) (λ i. one-kept (nat_eq i c) f (λ n. n) keeps (λ n has. has))

    module _ (x : ℕ) (s : Stamp) (low : StampHasForm most s) where
      read-kept : (c k : ℕ) → AllByRecursion (PartsHaveForm width most) (map_from (read_from c k x s) 0 ns)
      read-kept c k = each-kept (read_from c k x s) (λ i. one-kept (nat_eq i c) child_request_taken (λ n. cond (nat_eq i k) (child_answer x s n) n) (child_request_taken-form width most) (one-kept (nat_eq i k) (child_answer x s) (λ n. n) (child_answer-form width most x s low) (λ n has. has)))

      erased-kept : (c : ℕ) → AllByRecursion (PartsHaveForm width most) (map_from (erased_by c x s) 0 ns)
      erased-kept c = each-kept (erased_by c x s) (λ i. one-kept (nat_eq i c) child_request_taken (child_lose x s) (child_request_taken-form width most) (child_lose-form width most x s low))

      loses-kept : AllByRecursion (PartsHaveForm width most) (map_from (loses x s) 0 ns)
      loses-kept = each-kept (loses x s) (λ i. child_lose-form width most x s low)

      module _ (words : List ℕ) (are : AreWords width words) where
        takes : (note : Note) (i : ℕ) → Keeps (reader_takes note x words s i)
        takes note i = one-kept (is_reader note i) (child_take_data x words s) (λ n. n) (child_take_data-form width most x words s are low) (λ n has. has)

        readers-kept : (note : Note) → AllByRecursion (PartsHaveForm width most) (map_from (reader_takes note x words s) 0 ns)
        readers-kept note = each-kept (reader_takes note x words s) (takes note)

        replied-kept : (c : ℕ) (note : Note) → AllByRecursion (PartsHaveForm width most) (map_from (replied_by c note x words s) 0 ns)
        replied-kept c note = each-kept (replied_by c note x words s) (λ i n has. takes note i (only c child_reply_taken i n) (one-kept (nat_eq i c) child_reply_taken (λ n. n) (child_reply_taken-form width most) (λ n has. has) n has))

        inject-kept : (k : ℕ) → AllByRecursion (PartsHaveForm width most) (map_from (only k (child_take_inject x words s)) 0 ns)
        inject-kept k = only-kept k (child_take_inject x words s) (child_take_inject-form width most x words s are low)

        passed-kept : (c k : ℕ) → AllByRecursion (PartsHaveForm width most) (map_from (passed_on c k x words s) 0 ns)
        passed-kept c k = each-kept (passed_on c k x words s) (λ i. one-kept (nat_eq i c) (child_give_up x) (λ n. cond (nat_eq i k) (child_take_inject x words s n) n) (child_give_up-form width most x) (one-kept (nat_eq i k) (child_take_inject x words s) (λ n. n) (child_take_inject-form width most x words s are low) (λ n has. has)))

-- ---- a turn, which counts one more

module _ (width most : ℕ) (above : Stamp) (above_low : StampHasForm most above) (p : DirValue) (p_has : DirHasForm width most p) (ns : List Node) (ns_have : AllByRecursion (PartsHaveForm width most) ns) where
  pub record BusHasForm (q : DirValue) (ks : List Node) : Type 0 where
    pub parent : DirHasForm width (most + 1) q
    pub kids : AllByRecursion (PartsHaveForm width (most + 1)) ks

  all : AllByRecursion (PartsHaveForm width (most + 1)) ns
  all = all-more (PartsHaveForm width most) (PartsHaveForm width (most + 1)) (parts-more width most) ns ns_have

  own : DirHasForm width (most + 1) p
  own = dir-more width most p p_has

  now : DirHasForm width (most + 1) (counted p)
  now = counted-form width most p p_has

  now-stamp : StampHasForm (most + 1) (stamp_of (counted p))
  now-stamp = stamp_of-form width (most + 1) (counted p) now

  above-stamp : StampHasForm (most + 1) above
  above-stamp = stamp-more most above above_low

  parked : (x : ℕ) (words : List ℕ) → parked_words x p ≡ Some words → AreWords width words
  parked x words is = subst (λ o. IfSome o (AreWords width)) is (parked-form width most x p p_has)

  asked-taken : (c : ℕ) → AllByRecursion (PartsHaveForm width (most + 1)) (map_from (only c child_request_taken) 0 ns)
  asked-taken c = only-kept width (most + 1) ns all c child_request_taken (child_request_taken-form width (most + 1))

  given-up : (c x : ℕ) → AllByRecursion (PartsHaveForm width (most + 1)) (map_from (only c (child_give_up x)) 0 ns)
  given-up c x = only-kept width (most + 1) ns all c (child_give_up x) (child_give_up-form width (most + 1) x)

  noted-now : (x : ℕ) (note : Note) → DirHasForm width (most + 1) (with_note x note (counted p))
  noted-now x note = noted width (most + 1) x note (counted p) now

  erase_noted-form : (c x : ℕ) (exclusive : Bool) → DirHasForm width (most + 1) (erase_noted above c x p ns exclusive)
  erase_noted-form c x true = pushed_down-form width (most + 1) ExclusiveTx x (blank p.sizes.width) above (with_note x (up_erase c) (counted p)) refl (blank-here width p.sizes.width p_has.sizes) above-stamp (noted-now x (up_erase c))
  erase_noted-form c x false = pushed_request-form width (most + 1) EraseTx x (with_note x (up_erase c) (counted p)) refl (noted-now x (up_erase c))

  leave_parked-form : (c choice x : ℕ) (kind : TxKind) → child_leaving choice (child_at c ns) ≡ Some x → BusHasForm (leave_parked c x p ns kind).parent (leave_parked c x p ns kind).kids
  unfolding leave_parked
  leave_parked-form c choice x kind leaves = record { parent = with_parked-form width (most + 1) x (child_given x (child_at c ns)) (counted p) (given-words width most c choice x ns ns_have leaves) now; kids = given-up c x }

  module _ (e : DownValue) (rest : List DownValue) (front : p.down ≡ e ∷ rest) where
    abbrev q : DirValue
    q = front_taken e.stamp rest p

    taken : DirHasForm width (most + 1) q
    taken = front_taken-form width most p e rest p_has front

    taken-stamp : StampHasForm (most + 1) (stamp_of q)
    taken-stamp = stamp_of-form width (most + 1) q taken

    entry-words : AreWords width e.words
    entry-words = (front-entry width most p e rest p_has front).words

    noted-taken : (note : Note) → DirHasForm width (most + 1) (with_note e.item note q)
    noted-taken note = noted width (most + 1) e.item note q taken

    readers-taken : (note : Note) → AllByRecursion (PartsHaveForm width (most + 1)) (map_from (reader_takes note e.item e.words (stamp_of q)) 0 ns)
    readers-taken note = readers-kept width (most + 1) ns all e.item (stamp_of q) taken-stamp e.words entry-words note

    injected : (k : ℕ) → AllByRecursion (PartsHaveForm width (most + 1)) (map_from (only k (child_take_inject e.item e.words (stamp_of q))) 0 ns)
    injected k = inject-kept width (most + 1) ns all e.item (stamp_of q) taken-stamp e.words entry-words k

    erase_of_children-form : BusHasForm (erase_of_children e.item q ns).parent (erase_of_children e.item q ns).kids
    unfolding erase_of_children
    erase_of_children-form = record {
      parent = noted width (most + 1) e.item (without_up_erase (dir_note e.item q)) (without_parked e.item q) (without_parked-form width (most + 1) e.item q taken);
      kids = loses-kept width (most + 1) ns all e.item (stamp_of q) taken-stamp;
    }

    exclusive_to-form : (d : ℕ) → BusHasForm (exclusive_to e.item q ns d).parent (exclusive_to e.item q ns d).kids
    unfolding exclusive_to
    exclusive_to-form d = record {
      parent = noted-taken no_note;
      kids = only-kept width (most + 1) ns all d (child_take_exclusive e.item (stamp_of q)) (child_take_exclusive-form width (most + 1) e.item (stamp_of q) taken-stamp);
    }

    read_by_child-form : (k : ℕ) → BusHasForm (read_by_child e.item q ns k).parent (read_by_child e.item q ns k).kids
    unfolding read_by_child
    read_by_child-form k = record { parent = taken; kids = only-kept width (most + 1) ns all k (child_answer e.item (stamp_of q)) (child_answer-form width (most + 1) e.item (stamp_of q) taken-stamp) }

    read_by_parked-form : (words : List ℕ) → parked_words e.item p ≡ Some words → BusHasForm (read_by_parked e.item q ns words).parent (read_by_parked e.item q ns words).kids
    unfolding read_by_parked
    read_by_parked-form words is = record { parent = pushed_reply-form width (most + 1) e.item words _ (parked e.item words is) (answered width (most + 1) e.item q taken); kids = all }

  row-form : (t : BusTurn) (g : Grant) → Row above p ns t g → BusHasForm g.parent g.kids
  unfolding joins read_of_child read_of_parked read_of_parent erase_of_all reply_to_readers reply_to_parent data_to_readers inject_to_reader inject_to_readers inject_to_child inject_parked out_gone leave_to
  row-form t g (row_joins c x _ _) = record { parent = noted-now x (joined_by c (dir_note x p)); kids = asked-taken c }
  row-form t g (row_read_of_child c x k _ _ _ _ _) = record { parent = noted-now x (local c 0); kids = read-kept width (most + 1) ns all x (stamp_of (counted p)) now-stamp c k }
  row-form t g (row_read_of_parked c x words _ _ _ _ there _) = record {
    parent = pushed_down-form width (most + 1) DataTx x words above _ refl (parked x words there) above-stamp (without_parked-form width (most + 1) x (with_note x (up_read c 0) (counted p)) (noted-now x (up_read c 0)));
    kids = asked-taken c;
  }
  row-form t g (row_read_of_parent c x _ _ _ _) = record { parent = pushed_request-form width (most + 1) ReadTx x _ refl (noted-now x (up_read c 0)); kids = asked-taken c }
  row-form t g (row_erase_of_all c x _ _ _ _) = record { parent = erase_noted-form c x (is_exclusive (dir_hold x p)); kids = erased-kept width (most + 1) ns all x (stamp_of (counted p)) now-stamp c }
  row-form t g (row_reply_to_readers c x words first joined has _ _) = record {
    parent = noted-now x no_note;
    kids = replied-kept width (most + 1) ns all x (stamp_of (counted p)) now-stamp words (reply-words width most c ns (record { item = x; words = words }) ns_have has) c (local first joined);
  }
  row-form t g (row_reply_to_parent c x words has _ _ _) = record {
    parent = pushed_reply-form width (most + 1) x words _ (reply-words width most c ns (record { item = x; words = words }) ns_have has) (answered width (most + 1) x (counted p) now);
    kids = only-kept width (most + 1) ns all c child_reply_taken (child_reply_taken-form width (most + 1));
  }
  row-form t g (row_exclusive_to e rest d front _ _ _) = exclusive_to-form e rest front d
  row-form t g (row_erase_of_children e rest front _ _ _) = erase_of_children-form e rest front
  row-form t g (row_read_by_child e rest k front _ _ _ _) = read_by_child-form e rest front k
  row-form t g (row_read_by_parked e rest words front _ _ _ there _) = read_by_parked-form e rest front words there
  row-form t g (row_data_to_readers e rest first joined front _ _ _) = record { parent = noted-taken e rest front no_note; kids = readers-taken e rest front (up_read first joined) }
  row-form t g (row_inject_to_reader e rest d joined front _ _ _ _ _) = record { parent = noted-taken e rest front no_note; kids = injected e rest front d }
  row-form t g (row_inject_to_readers e rest first joined front _ _ _ _) = record { parent = noted-taken e rest front no_note; kids = readers-taken e rest front (up_read first joined) }
  row-form t g (row_inject_to_child e rest k front _ _ _ _) = record { parent = released width (most + 1) _ (taken e rest front); kids = injected e rest front k }
  row-form t g (row_inject_parked e rest front _ _ _ _ _ _) = record { parent = with_parked-form width (most + 1) e.item e.words _ (entry-words e rest front) (released width (most + 1) _ (taken e rest front)); kids = all }
  row-form t g (row_out_gone c choice x _ _ _ _ _) = record { parent = now; kids = given-up c x }
  row-form t g (row_out_parked c choice x leaves _ _ _ _ _ _ _) = leave_parked-form c choice x OutTx leaves
  row-form t g (row_leave_to c choice x k leaves _ _ _ _) = record { parent = now; kids = passed-kept width (most + 1) ns all x (stamp_of (counted p)) now-stamp (child_given x (child_at c ns)) (given-words width most c choice x ns ns_have leaves) c k }
  row-form t g (row_inject_up c choice x leaves _ _ _ _ _ _ _) = leave_parked-form c choice x InjectTx leaves

  pub bus_step-form : (t : BusTurn) → BusHasForm (bus_step above t p ns).parent (bus_step above t p ns).kids
  unfolding bus_step
  bus_step-form t = by (bus_judged above p ns t) refl where
    by : (j : Judged) → bus_judged above p ns t ≡ j → BusHasForm (outcome_of p ns j).parent (outcome_of p ns j).kids
    by nothing_there is = record { parent = own; kids = all }
    by (refused cause) is = record { parent = own; kids = all }
    by (granted g) is = row-form t g (row-of above p ns t g is)
