-- The lists of a directory stay within their rooms.
use Rattle.std.proofs.Common.{◌≡◌, ℕ, ◌+◌, ◌<◌, ◌≤◌, Bool, true, false, List, [], ◌∷◌, ◌++◌, length, refl, ◌∙◌, arith, length-append}
use Rattle.std.specs.Prelude.{not, ◌&&◌, nat_eq, nat_le, filter}
use Rattle.std.proofs.lemmas.Bool.{eqb-true, eq-eqb, leb-true, le-leb, leb-false}
use Rattle.std.proofs.lemmas.List.{length-set}
use Rattle.tree_model.specs.DdmTypes.declared.answers.TxKind.{TxKind}
use Rattle.tree_model.specs.DdmTypes.declared.answers.TxKind.TheVariants.{ReadTx, EraseTx}
use Rattle.tree_model.specs.DdmTypes.declared.keys.Stamp.{Stamp}
use Rattle.tree_model.specs.State.Lists.{without_first, rest_of}
use Rattle.tree_model.specs.State.States.{is_held}
use Rattle.tree_model.specs.State.Values.{RequestValue, CopyValue, DirValue}
use Rattle.tree_model.specs.State.Leaf.{is_request, is_copy}
use Rattle.tree_model.specs.State.Directory.{dir_hold, down_full, requests_full, replies_full, parking_full, open_read, struck, inject_has_place, dir_lose, dir_take_data, dir_take_exclusive, dir_answer, dir_take_inject, dir_give_up}
use Rattle.tree_model.specs.State.Rooms.{dir_within}
use Rattle.tree_model.proofs.Tests.{and-first, and-second, and-both, not-true}
use Rattle.tree_model.proofs.LeafRooms.{filter-length, rest_of-length}

-- the same as facts
pub record DirWithin (n : ℕ) (d : DirValue) : Type 0 where
  pub items : length d.items ≡ n
  pub down : length d.down ≤ d.sizes.down_room
  pub requests : length d.requests ≤ d.sizes.request_room
  pub replies : length d.replies ≤ d.sizes.reply_room
  pub parked : length d.parked + d.reserved ≤ d.sizes.parking_room

pub dir_within-facts : (n : ℕ) (d : DirValue) → dir_within n d ≡ true → DirWithin n d
dir_within-facts n d e =
    let down = and-second (nat_eq (length d.items) n) _ e in
    let requests = and-second (nat_le (length d.down) d.sizes.down_room) _ down in
    let replies = and-second (nat_le (length d.requests) d.sizes.request_room) _ requests in
    record {
      items = eqb-true _ _ (and-first _ _ e);
      down = leb-true _ _ (and-first _ _ down);
      requests = leb-true _ _ (and-first _ _ requests);
      replies = leb-true _ _ (and-first _ _ replies);
      parked = leb-true _ _ (and-second _ _ replies);
    }

pub dir_within-test : (n : ℕ) (d : DirValue) → DirWithin n d → dir_within n d ≡ true
dir_within-test n d w = and-both _ _ (eq-eqb _ _ w.items) (and-both _ _ (le-leb _ _ w.down) (and-both _ _ (le-leb _ _ w.requests) (and-both _ _ (le-leb _ _ w.replies) (le-leb _ _ w.parked))))

-- ---- lists

pub pushed-fits : {X : Type 0} (xs : List X) (x : X) (room : ℕ) → length xs < room → length (xs ++ x ∷ []) ≤ room
pushed-fits xs x room place = omega (arith, length-append xs (x ∷ []))

without_first-length : {X : Type 0} (t : X → Bool) (xs : List X) → length (without_first t xs) ≤ length xs
without_first-length t [] = omega arith
without_first-length t (x ∷ xs) =
    let rest = without_first-length t xs in
    elim (t x) as (λ b. t x ≡ b → length (without_first t (x ∷ xs)) ≤ length (x ∷ xs)) [ true ↦ λ e. rw e (omega arith) | false ↦ λ e. rw e (omega arith) ] refl

struck-length : (kind : TxKind) (x : ℕ) (requests : List RequestValue) → length (struck kind x requests) ≤ length requests
unfolding struck
struck-length kind x requests = without_first-length (is_request kind x) requests

pub without_copy-length : (x : ℕ) (parked : List CopyValue) → length (filter (λ c. not (is_copy x c)) parked) ≤ length parked
without_copy-length x parked = filter-length (λ c. not (is_copy x c)) parked

-- a list that isn't full has a place
pub down-place : (d : DirValue) → down_full d ≡ false → length d.down < d.sizes.down_room
down-place d room = leb-false _ _ room

pub requests-place : (d : DirValue) → requests_full d ≡ false → length d.requests < d.sizes.request_room
requests-place d room = leb-false _ _ room

pub replies-place : (d : DirValue) → replies_full d ≡ false → length d.replies < d.sizes.reply_room
replies-place d room = leb-false _ _ room

pub parking-place : (d : DirValue) → parking_full d ≡ false → length d.parked + d.reserved < d.sizes.parking_room
parking-place d room = leb-false _ _ room

-- ---- what the bus above tells it

-- told to lose an item that it holds, where its down list has a place
pub dir_lose-within : (n x : ℕ) (s : Stamp) (d : DirValue) → (is_held (dir_hold x d) && down_full d) ≡ false → DirWithin n d → DirWithin n (dir_lose x s d)
unfolding dir_lose
dir_lose-within n x s d room w =
    elim (is_held (dir_hold x d)) as (λ b. is_held (dir_hold x d) ≡ b → DirWithin n (dir_lose x s d)) [
      | true ↦ λ held.
          let free : down_full d ≡ false = rw held at room in
          let place = down-place d free in
          record {
            items = rw held (length-set d.items x _ ∙ w.items);
            down = rw held (pushed-fits d.down _ _ place);
            requests = rw held (omega (arith, struck-length EraseTx x d.requests, w.requests));
            replies = w.replies;
            parked = w.parked;
          }
      | false ↦ λ other. record { items = rw other w.items; down = rw other w.down; requests = rw other w.requests; replies = w.replies; parked = w.parked }
    ] refl

pub dir_take_data-within : (n x : ℕ) (words : List ℕ) (s : Stamp) (d : DirValue) → down_full d ≡ false → DirWithin n d → DirWithin n (dir_take_data x words s d)
unfolding dir_take_data
dir_take_data-within n x words s d room w =
    let place = down-place d room in
    record { items = length-set d.items x _ ∙ w.items; down = pushed-fits d.down _ _ place; requests = w.requests; replies = w.replies; parked = w.parked }

pub dir_take_exclusive-within : (n x : ℕ) (s : Stamp) (d : DirValue) → down_full d ≡ false → DirWithin n d → DirWithin n (dir_take_exclusive x s d)
unfolding dir_take_exclusive
dir_take_exclusive-within n x s d room w =
    let place = down-place d room in
    record { items = length-set d.items x _ ∙ w.items; down = pushed-fits d.down _ _ place; requests = w.requests; replies = w.replies; parked = w.parked }

pub dir_answer-within : (n x : ℕ) (s : Stamp) (d : DirValue) → down_full d ≡ false → DirWithin n d → DirWithin n (dir_answer x s d)
unfolding dir_answer
dir_answer-within n x s d room w =
    let place = down-place d room in
    record { items = length-set d.items x _ ∙ w.items; down = pushed-fits d.down _ _ place; requests = w.requests; replies = w.replies; parked = w.parked }

pub dir_take_inject-within : (n x : ℕ) (words : List ℕ) (s : Stamp) (d : DirValue) → down_full d ≡ false → inject_has_place x d ≡ true → DirWithin n d → DirWithin n (dir_take_inject x words s d)
unfolding dir_take_inject
dir_take_inject-within n x words s d room kept w =
    let place = down-place d room in
    elim (open_read x d) as (λ b. open_read x d ≡ b → DirWithin n (dir_take_inject x words s d)) [
      | true ↦ λ read. record {
        items = length-set d.items x _ ∙ w.items;
        down = pushed-fits d.down _ _ place;
        requests = omega (arith, struck-length ReadTx x d.requests, w.requests);
        replies = w.replies;
        parked = rw read w.parked;
      }
      | false ↦ λ read.
          let free : not (parking_full d) ≡ true = rw read at kept in
          let parking = parking-place d (not-true _ free) in
          record {
            items = length-set d.items x _ ∙ w.items;
            down = pushed-fits d.down _ _ place;
            requests = omega (arith, struck-length ReadTx x d.requests, w.requests);
            replies = w.replies;
            parked = rw read (omega arith);
          }
    ] refl

pub dir_give_up-within : (n x : ℕ) (d : DirValue) → DirWithin n d → DirWithin n (dir_give_up x d)
dir_give_up-within n x d w = record { items = length-set d.items x _ ∙ w.items; down = w.down; requests = w.requests; replies = w.replies; parked = omega (arith, without_copy-length x d.parked, w.parked) }

-- ---- what the bus above takes from it

pub dir_request_taken-within : (n : ℕ) (d : DirValue) → DirWithin n d → DirWithin n (record d { requests = rest_of d.requests })
dir_request_taken-within n d w = record { items = w.items; down = w.down; requests = omega (arith, rest_of-length d.requests, w.requests); replies = w.replies; parked = w.parked }

pub dir_reply_taken-within : (n : ℕ) (d : DirValue) → DirWithin n d → DirWithin n (record d { replies = rest_of d.replies })
dir_reply_taken-within n d w = record { items = w.items; down = w.down; requests = w.requests; replies = omega (arith, rest_of-length d.replies, w.replies); parked = w.parked }
