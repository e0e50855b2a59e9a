-- What is put behind a queue, and what is taken from its front, as equations on lists of copies.
use Rattle.std.proofs.Common.{◌≡◌, ℕ, Bool, true, false, List, [], ◌∷◌, ◌++◌, map, Option, Some, None, refl, arith}
use Rattle.std.proofs.lemmas.List.{map-append}
use Rattle.order_laws.specs.DdmTypes.declared.answers.TxKind.{TxKind}
use Rattle.order_laws.specs.DdmTypes.declared.answers.TxKind.TheVariants.{ReadTx, DataTx, EraseTx, ExclusiveTx, InjectTx, OutTx}
use Rattle.order_laws.specs.TreeModel.State.Values.{DownValue}
use Rattle.order_laws.specs.TreeModel.State.Kinds.{is_kind, brings_copy}
use Rattle.order_laws.specs.TreeRules.Order.Moments.{moment_at}
use Rattle.order_laws.specs.TreeRules.Order.Copies.{CopyAt, cut, first_erase, downs}
use Rattle.std.specs.List.{AllByRecursion}
use Rattle.order_laws.proofs.Moves.Cuts.{cuts-twice}

-- no erase stands in the queue
abbrev pub NoErase : List DownValue → Type 0
NoErase q = AllByRecursion (λ (e : DownValue). is_kind EraseTx e.kind ≡ false) q

abbrev pub is_erase_kind : TxKind → Bool
is_erase_kind k = is_kind EraseTx k

pub erase-brings : (k : TxKind) → is_kind EraseTx k ≡ true → brings_copy k ≡ false
erase-brings ReadTx h = refl
erase-brings DataTx h = grind arith
erase-brings EraseTx h = refl
erase-brings ExclusiveTx h = refl
erase-brings InjectTx h = grind arith
erase-brings OutTx h = refl

pub first_erase-none : (above : List ℕ) (q : List DownValue) → NoErase q → first_erase above q ≡ None
first_erase-none above [] h = refl
first_erase-none above (e ∷ q) h = rw h.0 (first_erase-none above q h.1)

pub first_erase-pushed : (above : List ℕ) (q : List DownValue) (e : DownValue) → NoErase q → is_kind EraseTx e.kind ≡ true → first_erase above (q ++ e ∷ []) ≡ Some (moment_at above e.stamp)
first_erase-pushed above [] e h is = rw is refl
first_erase-pushed above (f ∷ q) e h is = rw h.0 (first_erase-pushed above q e h.1 is)

-- an erase behind a queue without one ends what the queue brings
pub downs-pushed : (place above : List ℕ) (q : List DownValue) (e : DownValue) → NoErase q → is_kind EraseTx e.kind ≡ true → downs place above (q ++ e ∷ []) ≡ map (cut (Some (moment_at above e.stamp))) (downs place above q)
downs-pushed place above [] e h is = rw (erase-brings e.kind is) refl
downs-pushed place above (f ∷ q) e h is = go (brings_copy f.kind) refl (downs-pushed place above q e h.1 is) where
  go : (t : Bool) → brings_copy f.kind ≡ t → downs place above (q ++ e ∷ []) ≡ map (cut (Some (moment_at above e.stamp))) (downs place above q) → downs place above (f ∷ q ++ e ∷ []) ≡ map (cut (Some (moment_at above e.stamp))) (downs place above (f ∷ q))
  go true i rest = rw (i, first_erase-pushed above q e h.1 is, first_erase-none above q h.1, rest) refl
  go false i rest = rw i rest

-- what an erase behind the queue of a directory does to the copies inside it: each without an end gets that of the erase
pub pushed_erase : (place above : List ℕ) (q : List DownValue) (e : DownValue) (ks : List CopyAt) → NoErase q → is_kind EraseTx e.kind ≡ true → map (cut (first_erase above (q ++ e ∷ []))) ks ++ downs place above (q ++ e ∷ []) ≡ map (cut (Some (moment_at above e.stamp))) (map (cut (first_erase above q)) ks ++ downs place above q)
pushed_erase place above q e ks h is =
    let m : Option (List ℕ) = Some (moment_at above e.stamp) in
    let twice : map (cut m) (map (cut None) ks) ≡ map (cut m) ks = cuts-twice None m ks in
    rw (first_erase-pushed above q e h is, first_erase-none above q h, downs-pushed place above q e h is, map-append (cut m) (map (cut None) ks) (downs place above q), twice) refl

-- ---- what is no erase changes no end

pub first_erase-behind : (above : List ℕ) (q : List DownValue) (e : DownValue) → is_kind EraseTx e.kind ≡ false → first_erase above (q ++ e ∷ []) ≡ first_erase above q
first_erase-behind above [] e other = rw other refl
first_erase-behind above (f ∷ q) e other = rw (first_erase-behind above q e other) refl

abbrev pub brought : List ℕ → List ℕ → DownValue → CopyAt
brought place above e = record { place = place; clock = moment_at above e.stamp; end = None; words = e.words }

-- data or inject behind a queue is one more copy, without an end
pub downs-behind : (place above : List ℕ) (q : List DownValue) (e : DownValue) → is_kind EraseTx e.kind ≡ false → brings_copy e.kind ≡ true → downs place above (q ++ e ∷ []) ≡ downs place above q ++ brought place above e ∷ []
downs-behind place above [] e other is = rw is refl
downs-behind place above (f ∷ q) e other is = go (brings_copy f.kind) refl (downs-behind place above q e other is) where
  go : (t : Bool) → brings_copy f.kind ≡ t → downs place above (q ++ e ∷ []) ≡ downs place above q ++ brought place above e ∷ [] → downs place above (f ∷ q ++ e ∷ []) ≡ downs place above (f ∷ q) ++ brought place above e ∷ []
  go true i rest = rw (i, first_erase-behind above q e other, rest) refl
  go false i rest = rw (i, rest) refl

-- what brings no copy and is no erase, behind a queue: the same
pub downs-plain : (place above : List ℕ) (q : List DownValue) (e : DownValue) → is_kind EraseTx e.kind ≡ false → brings_copy e.kind ≡ false → downs place above (q ++ e ∷ []) ≡ downs place above q
downs-plain place above [] e other is = rw is refl
downs-plain place above (f ∷ q) e other is = go (brings_copy f.kind) refl (downs-plain place above q e other is) where
  go : (t : Bool) → brings_copy f.kind ≡ t → downs place above (q ++ e ∷ []) ≡ downs place above q → downs place above (f ∷ q ++ e ∷ []) ≡ downs place above (f ∷ q)
  go true i rest = rw (i, first_erase-behind above q e other, rest) refl
  go false i rest = rw i rest
