-- The table of counts after one write, as the code makes it: v is what the table has at n.
use Rattle.std.proofs.Common.{◌≡◌, ◌∙◌, ap, sym, refl, ℕ, zero, suc, ◌<◌, ◌≤◌, ◌+◌, ◌-◌, ◌^◌, Bool, true, false, ◌&&◌, ◌||◌, nat_eq, nat_lt, List, [], ◌∷◌, ◌++◌, length, get_or, drop, map, Some, arith}
use Rattle.std.proofs.Math.ListN.{set}
use Rattle.std.specs.List.{slice_get, list_any}
use Rattle.std.proofs.lemmas.Bool.{eqb-true}
use Rattle.std.proofs.lemmas.List.Sums.{count_by-le-length}
use Rattle.tx_queue.specs.DdmTypes.declared.answers.TxKind.{TxKind}
use Rattle.tx_queue.specs.TreeModel.State.Kinds.{is_kind}
use Rattle.tx_queue.specs.TreeModel.State.Lists.{names_item}
use Rattle.tx_queue.specs.QueueList.{count_naming, IsCounted}
use Rattle.tx_queue.specs.TreeModel.State.Lists.{without_first}
use Rattle.tx_queue.specs.Requests.{is_request}
use Rattle.tx_queue.proofs.Counts.{counted_push, counted_first, counted_pop, counted_some, counted_without, any_of_count}

-- inside the list the default makes no difference
any_default : (xs : List ℕ) (i v w : ℕ) → i < length xs → get_or xs i v ≡ get_or xs i w
any_default [] i v w h = absurd (omega arith)
any_default (x ∷ xs) zero v w h = refl
any_default (x ∷ xs) (suc i) v w h = any_default xs i v w (omega arith)

module _ {X : Type 0} (named : X → ℕ) (counts : List ℕ) (list : List X) (capacity : ℕ) where
  pub push_fits : (e : X) (n v : ℕ) → IsCounted named counts list capacity → n ≡ named e → named e < length counts → v ≡ get_or counts n v → length list < capacity → v + 1 < 2 ^ 32
  push_fits e n v was same below is room =
      let lt : n < length counts = omega arith in
      let read : v ≡ count_naming named n list = is ∙ any_default counts n v 0 lt ∙ was.counted n lt in
      let few : count_naming named n list ≤ length list = count_by-le-length (names_item named n) list in
      let small : capacity < 2 ^ 32 = was.small in
      omega arith

  pub push_counted : (e : X) (n v : ℕ) → IsCounted named counts list capacity → n ≡ named e → named e < length counts → v ≡ get_or counts n v → length list < capacity → IsCounted named (set counts n (v + 1)) (list ++ e ∷ []) capacity
  push_counted e n v was same below is room =
      let lt : n < length counts = omega arith in
      let read : v ≡ get_or counts (named e) 0 = is ∙ any_default counts n v 0 lt ∙ ap (λ k. get_or counts k 0) same in
      rw (read, same) (counted_push named counts list capacity e was room below)

  pub pop_some : (e : X) (n v : ℕ) → IsCounted named counts list capacity → n ≡ named e → slice_get list 0 ≡ Some e → v ≡ get_or counts n v → 1 ≤ v
  pop_some e n v was same first is =
      let some = counted_first named counts list capacity e was first in
      let lt : n < length counts = omega (arith, some.0) in
      let read : v ≡ get_or counts (named e) 0 = is ∙ any_default counts n v 0 lt ∙ ap (λ k. get_or counts k 0) same in
      omega (arith, some.1, read)

  pub pop_counted : (e : X) (n v : ℕ) → IsCounted named counts list capacity → n ≡ named e → slice_get list 0 ≡ Some e → v ≡ get_or counts n v → IsCounted named (set counts n (v - 1)) (drop 1 list) capacity
  pop_counted e n v was same first is =
      let some = counted_first named counts list capacity e was first in
      let lt : n < length counts = omega (arith, some.0) in
      let read : v ≡ get_or counts (named e) 0 = is ∙ any_default counts n v 0 lt ∙ ap (λ k. get_or counts k 0) same in
      rw (read, same) (counted_pop named counts list capacity e was first)

  pub some_named : (item n v : ℕ) → IsCounted named counts list capacity → n ≡ item → n < length counts → v ≡ get_or counts n v → nat_lt 0 v ≡ list_any (names_item named item) list
  some_named item n v was same lt is =
      let read : v ≡ count_naming named item list = is ∙ any_default counts n v 0 lt ∙ was.counted n lt ∙ ap (λ k. count_naming named k list) same in
      ap (λ k. nat_lt 0 k) read ∙ any_of_count (names_item named item) list

both : (a b : Bool) → (a && b) ≡ true → b ≡ true
both true b e = e
both false b e = cc

-- a request of an item names it
pub request_item : (kind : TxKind) (item : ℕ) (e : TxKind × ℕ) → is_request kind item e ≡ true → e.1 ≡ item
request_item kind item e is = sym (eqb-true item e.1 (both (is_kind kind e.0) _ is))

abbrev named_by : (TxKind × ℕ) → ℕ
named_by e = e.1

none_of : (k b any less : Bool) → (b || any) ≡ false → (any ≡ false → less ≡ false) → ((k && b) || less) ≡ false
none_of k true any less h rest = cc
none_of true false any less h rest = rest h
none_of false false any less h rest = rest h

-- no entry names the item, so none is a request for it
pub none_requested : (kind : TxKind) (item : ℕ) (list : List (TxKind × ℕ)) → list_any (names_item named_by item) list ≡ false → list_any (is_request kind item) list ≡ false
none_requested kind item [] none = refl
none_requested kind item (e ∷ es) none =
    none_of (is_kind kind e.0) (nat_eq item e.1) (list_any (names_item named_by item) es) (list_any (is_request kind item) es) none (λ h. none_requested kind item es h)

pub remove_some : (counts : List ℕ) (list : List (TxKind × ℕ)) (capacity : ℕ) (kind : TxKind) (item n v : ℕ) → IsCounted named_by counts list capacity → n ≡ item → n < length counts → v ≡ get_or counts n v → list_any (is_request kind item) list ≡ true → 1 ≤ v
remove_some counts list capacity kind item n v was same lt is some =
    let below : item < length counts = omega arith in
    let more = counted_some named_by counts list capacity (is_request kind item) item (request_item kind item) was below some in
    let read : v ≡ get_or counts item 0 = is ∙ any_default counts n v 0 lt ∙ ap (λ k. get_or counts k 0) same in
    omega (arith, more, read)

pub remove_counted : (counts : List ℕ) (list : List (TxKind × ℕ)) (capacity : ℕ) (kind : TxKind) (item n v : ℕ) → IsCounted named_by counts list capacity → n ≡ item → n < length counts → v ≡ get_or counts n v → list_any (is_request kind item) list ≡ true → IsCounted named_by (set counts n (v - 1)) (without_first (is_request kind item) list) capacity
remove_counted counts list capacity kind item n v was same lt is some =
    let below : item < length counts = omega arith in
    let read : v ≡ get_or counts item 0 = is ∙ any_default counts n v 0 lt ∙ ap (λ k. get_or counts k 0) same in
    rw (read, same) (counted_without named_by counts list capacity (is_request kind item) item (request_item kind item) was below some)

-- one more at the end of a list that is seen another way
pub map_more : {X Y : Type 0} (f : X → Y) (xs : List X) (x : X) → map f (xs ++ x ∷ []) ≡ map f xs ++ f x ∷ []
map_more f [] x = refl
map_more f (y ∷ xs) x = ap (λ l. f y ∷ l) (map_more f xs x)
