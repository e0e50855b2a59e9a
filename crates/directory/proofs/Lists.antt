-- The lists of a directory as its parts keep them, and as its value has them.
use Rattle.std.proofs.Common.{◌≡◌, ap, refl, ℕ, Bool, true, false, cond, ◌&&◌, ◌||◌, nat_eq, List, [], ◌∷◌, map, filter, Some, None, option_map}
use Rattle.std.specs.List.{find, list_any, slice_get}
use Rattle.directory.specs.DdmTypes.declared.answers.TxKind.{TxKind}
use Rattle.directory.specs.TreeModel.State.Lists.{first_of, has_some, without_first, names_item}
use Rattle.directory.specs.TreeModel.State.Kinds.{is_kind, has_kind}
use Rattle.directory.specs.TreeModel.State.Values.{CopyValue, DownValue}
use Rattle.directory.specs.TreeModel.State.Leaf.{is_request, is_copy, copy_words, words_of_item}
use Rattle.directory.specs.TreeModel.State.Directory.{entry_item, entry_kind, queue_of, queue_kinds, request_item, request_kind, request_kinds, struck}
use Rattle.tx_queue.specs.Requests.{is_request as is_pair_of}
use Rattle.directory.specs.ItemStates.Parts.{request_pair, copy_pair}
use Rattle.directory.specs.DirParts.{request_of, copy_of}

module _ {X Y : Type 0} (f : X → Y) where
  -- one passes where one is left of the others
  pub has_some-passing : (p : X → Bool) (xs : List X) → has_some (map f (filter p xs)) ≡ list_any p xs
  has_some-passing p [] = refl
  has_some-passing p (x ∷ xs) = by_test (p x) (has_some-passing p xs)
    where
      by_test : (b : Bool) → has_some (map f (filter p xs)) ≡ list_any p xs → has_some (map f (cond b (x ∷ filter p xs) (filter p xs))) ≡ (b || list_any p xs)
      by_test true e = refl
      by_test false e = e

  -- what the first one that passes gives
  pub first_of-passing : (p : X → Bool) (xs : List X) → first_of (map f (filter p xs)) ≡ option_map f (find p xs)
  first_of-passing p [] = refl
  first_of-passing p (x ∷ xs) = by_test (p x) (first_of-passing p xs)
    where
      by_test : (b : Bool) → first_of (map f (filter p xs)) ≡ option_map f (find p xs) → first_of (map f (cond b (x ∷ filter p xs) (filter p xs))) ≡ option_map f (cond b (Some x) (find p xs))
      by_test true e = refl
      by_test false e = e

  pub find-none : (p : X → Bool) (xs : List X) → has_some (map f (filter p xs)) ≡ false → find p xs ≡ None
  find-none p [] none = refl
  find-none p (x ∷ xs) none = by_test (p x) none (find-none p xs)
    where
      by_test : (b : Bool) → has_some (map f (cond b (x ∷ filter p xs) (filter p xs))) ≡ false → (has_some (map f (filter p xs)) ≡ false → find p xs ≡ None) → cond b (Some x) (find p xs) ≡ None
      by_test true h rest = cc
      by_test false h rest = rest h

  -- the first one that passes is taken out, whether before or after
  pub without_first-map : (p : Y → Bool) (xs : List X) → without_first p (map f xs) ≡ map f (without_first (λ x. p (f x)) xs)
  without_first-map p [] = refl
  without_first-map p (x ∷ xs) = by_test (p (f x)) (without_first-map p xs)
    where
      by_test : (b : Bool) → without_first p (map f xs) ≡ map f (without_first (λ y. p (f y)) xs) → cond b (map f xs) (f x ∷ without_first p (map f xs)) ≡ map f (cond b xs (x ∷ without_first (λ y. p (f y)) xs))
      by_test true e = refl
      by_test false e = ap (λ ys. f x ∷ ys) e

-- ---- requests and replies

pub requests-first : (l : List (TxKind × ℕ)) → slice_get l 0 ≡ option_map request_pair (first_of (map request_of l))
requests-first [] = refl
requests-first (r ∷ rs) = refl

pub replies-first : (l : List (ℕ × List ℕ)) → slice_get l 0 ≡ option_map copy_pair (first_of (map copy_of l))
replies-first [] = refl
replies-first (r ∷ rs) = refl

-- one more request, which is of the item, or isn't
kind_here : (k any rest : Bool) → any ≡ rest → (k || any) ≡ ((k && true) || rest)
kind_here true any rest e = refl
kind_here false any rest e = e

kind_elsewhere : (k any rest : Bool) → any ≡ rest → any ≡ ((k && false) || rest)
kind_elsewhere true any rest e = e
kind_elsewhere false any rest e = e

-- a request of this kind is among the item's
pub has_kind-requests : (kind : TxKind) (x : ℕ) (l : List (TxKind × ℕ)) → has_kind kind (request_kinds x (map request_of l)) ≡ list_any (is_pair_of kind x) l
unfolding request_kinds
has_kind-requests kind x [] = refl
has_kind-requests kind x (r ∷ rs) = by_test (nat_eq x r.1) (has_kind-requests kind x rs)
  where
    by_test : (b : Bool) → has_kind kind (map request_kind (filter (names_item request_item x) (map request_of rs))) ≡ list_any (is_pair_of kind x) rs → has_kind kind (map request_kind (cond b (request_of r ∷ filter (names_item request_item x) (map request_of rs)) (filter (names_item request_item x) (map request_of rs)))) ≡ ((is_kind kind r.0 && b) || list_any (is_pair_of kind x) rs)
    by_test true e = kind_here (is_kind kind r.0) _ _ e
    by_test false e = kind_elsewhere (is_kind kind r.0) _ _ e

-- a request that is struck, whether as a pair or as the table has it
pub struck-requests : (kind : TxKind) (x : ℕ) (l : List (TxKind × ℕ)) → struck kind x (map request_of l) ≡ map request_of (without_first (is_pair_of kind x) l)
unfolding struck
struck-requests kind x l = without_first-map request_of (is_request kind x) l

-- ---- the down list

pub in_down-any : (x : ℕ) (down : List DownValue) → has_some (queue_kinds x down) ≡ list_any (names_item entry_item x) down
unfolding queue_of
in_down-any x down = has_some-passing entry_kind (names_item entry_item x) down

-- ---- parked copies

pub parked-words : (x : ℕ) (parked : List CopyValue) → first_of (words_of_item x parked) ≡ option_map copy_words (find (is_copy x) parked)
unfolding words_of_item
parked-words x parked = first_of-passing copy_words (is_copy x) parked

pub parked-none : (x : ℕ) (parked : List CopyValue) → has_some (words_of_item x parked) ≡ false → find (is_copy x) parked ≡ None
unfolding words_of_item
parked-none x parked none = find-none copy_words (is_copy x) parked none
