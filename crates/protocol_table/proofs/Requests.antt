-- A child's request is judged as the table says.
-- Letters: p is the parent, ns are its children, c is a child number, x an item.
use Rattle.std.proofs.Common.{◌≡◌, ℕ, Bool, true, false, List, [], ◌∷◌, Option, Some, None, refl, ap}
use Rattle.std.specs.Prelude.{◌||◌}
use Rattle.protocol_table.specs.DdmTypes.declared.answers.TxKind.{TxKind}
use Rattle.protocol_table.specs.DdmTypes.declared.answers.TxKind.TheVariants.{ReadTx, DataTx, EraseTx, ExclusiveTx}
use Rattle.protocol_table.specs.DdmTypes.declared.answers.TxKind.TheVariants.{InjectTx, OutTx}
use Rattle.protocol_table.specs.DdmTypes.declared.answers.PendingWhy.{PendingWhy}
use Rattle.protocol_table.specs.DdmTypes.declared.keys.Stamp.{Stamp}
use Rattle.tree_model.specs.State.Lists.{find_from, first_given, first_some}
use Rattle.tree_model.specs.State.States.{is_held, is_exclusive}
use Rattle.tree_model.specs.State.Values.{RequestValue, Note, no_note, local, up_read, up_erase, DirValue, Node}
use Rattle.tree_model.specs.State.Leaf.{words_of_item}
use Rattle.tree_model.specs.State.Directory.{dir_hold, dir_note, is_local, is_up_read, pending}
use Rattle.tree_model.specs.State.Child.{child_full_for}
use Rattle.tree_model.specs.Turns.Grant.{own_down_full, own_requests_full}
use Rattle.tree_model.specs.Turns.Children.{child_at, other_holds, other_full}
use Rattle.tree_model.specs.Turns.RequestRead.{joins, read_of_child, read_of_parked, read_of_parent, read_granted}
use Rattle.tree_model.specs.Turns.RequestRead.{read_unless_pending, request_read}
use Rattle.tree_model.specs.Turns.RequestErase.{erase_of_all, request_erase}
use Rattle.tree_model.specs.Turns.Bus.{request_by_kind, request_turn}
use Rattle.protocol_table.specs.Situation.{Situation, request, of_child, of_request}
use Rattle.protocol_table.specs.Row.{says}
use Rattle.protocol_table.specs.Requests.{read_pending, read_from_child, read_from_parking, read_sent_up, erase_granted}
use Rattle.protocol_table.specs.Requests.{erase_sent_up}
use Rattle.protocol_table.specs.Table.{table, said_of}
use Rattle.protocol_table.proofs.Lists.{lists}

module _ (above : Stamp) (p : DirValue) (ns : List Node) (c x : ℕ) where
  abbrev reads : Situation
  reads = of_child above p ns (request ReadTx) c x []

  abbrev erases : Situation
  erases = of_child above p ns (request EraseTx) c x []

  -- ---- to read

  read-free : (held : Bool) (k : Option ℕ) (copies : List (List ℕ))
      → is_held (dir_hold x p) ≡ held → find_from (other_holds c x) 0 ns ≡ k → words_of_item x p.parked ≡ copies
      → read_granted c x p ns above (is_held (dir_hold x p))
      ≡ says (read_from_child ∷ read_from_parking ∷ read_sent_up ∷ []) reads
  unfolding read_of_child read_of_parked read_of_parent
  read-free true (Some k) copies held found parked =
      rw (held, found) (lists (child_full_for ReadTx x (child_at k ns)) (read_of_child c x p ns k))
  read-free true None [] held found parked = rw (held, found, parked) refl
  read-free true None (words ∷ rest) held found parked =
      rw (held, found, parked) (lists (own_down_full p) (read_of_parked c x p ns above words))
  read-free false k copies held found parked =
      rw held (lists (own_requests_full p) (read_of_parent c x p ns))

  read-idle : (o : Option PendingWhy) → pending x p ≡ o
      → read_unless_pending c x p ns above (pending x p)
      ≡ says (read_pending ∷ read_from_child ∷ read_from_parking ∷ read_sent_up ∷ []) reads
  read-idle (Some why) e = rw e refl
  read-idle None e =
      rw e (read-free (is_held (dir_hold x p)) (find_from (other_holds c x) 0 ns) (words_of_item x p.parked)
      refl refl refl)

  read-said : (note : Note) → dir_note x p ≡ note → request_read c x p ns above note ≡ says table reads
  unfolding joins
  read-said no_note e = rw (ap (λ n. is_local n || is_up_read n) e) (read-idle (pending x p) refl)
  read-said (local first joined) e = rw (ap (λ n. is_local n || is_up_read n) e) refl
  read-said (up_read first joined) e = rw (ap (λ n. is_local n || is_up_read n) e) refl
  read-said (up_erase d) e = rw (ap (λ n. is_local n || is_up_read n) e) (read-idle (pending x p) refl)

  -- ---- to erase

  erase-free : (here : Bool) → is_exclusive (dir_hold x p) ≡ here
      → request_erase above c x p ns None ≡ says (erase_granted ∷ erase_sent_up ∷ []) erases
  unfolding erase_of_all
  erase-free true here =
      rw here (lists (first_some (first_given (other_full c x) 0 ns) (own_down_full p)) _)
  erase-free false here =
      rw here (lists (first_some (first_given (other_full c x) 0 ns) (own_requests_full p)) _)

  erase-said :
      (o : Option PendingWhy) → pending x p ≡ o → request_erase above c x p ns (pending x p) ≡ says table erases
  erase-said (Some why) e = rw e refl
  erase-said None e = rw e (erase-free (is_exclusive (dir_hold x p)) refl)

module _ (above : Stamp) (p : DirValue) (ns : List Node) (c : ℕ) where
  kind-said : (x : ℕ) (kind : TxKind)
      → request_by_kind above p ns c x kind ≡ says table (of_child above p ns (request kind) c x [])
  kind-said x ReadTx = read-said above p ns c x (dir_note x p) refl
  kind-said x DataTx = refl
  kind-said x EraseTx = erase-said above p ns c x (pending x p) refl
  kind-said x ExclusiveTx = refl
  kind-said x InjectTx = refl
  kind-said x OutTx = refl

  pub request-said : (o : Option RequestValue) → request_turn above p ns c o ≡ said_of (of_request above p ns c o)
  request-said None = refl
  request-said (Some r) = kind-said r.item r.kind
