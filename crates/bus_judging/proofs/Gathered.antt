-- What is gathered of a list of kinds, one entry more at a time.
-- Letters: q is such a list, k a kind.
use Rattle.std.proofs.Common.{◌≡◌, ◌∙◌, ap, sym, refl, Bool, true, false, cond, not, ◌&&◌, ◌||◌, List, [], ◌∷◌, ◌++◌, filter, Option, Some}
use Rattle.std.specs.List.{list_all, list_any}
use Rattle.bus_judging.specs.DdmTypes.declared.answers.TxKind.{TxKind}
use Rattle.bus_judging.specs.DdmTypes.declared.answers.TxKind.TheVariants.{ReadTx, DataTx, EraseTx, ExclusiveTx, InjectTx, OutTx}
use Rattle.bus_judging.specs.TreeModel.State.Kinds.{is_kind}
use Rattle.bus_judging.specs.TreeModel.State.Lists.{first_some}
use Rattle.tree_rules.specs.Bus.Item.{may_follow, moves_copies, queue_fits, copies_in}
use Rattle.bus_judging.specs.Queue.{QueueFacts, facts_of, first_kind, last_kind, fits_behind, with_kind}

first-more : (q : List TxKind) (k : TxKind) → first_kind (q ++ k ∷ []) ≡ first_some (first_kind q) (Some k)
first-more [] k = refl
first-more (l ∷ q) k = refl

last-more : (q : List TxKind) (k : TxKind) → last_kind (q ++ k ∷ []) ≡ Some k
last-more [] k = refl
last-more (l ∷ []) k = refl
last-more (l ∷ m ∷ q) k = last-more (m ∷ q) k

-- no kind may follow an out, and an out follows none
out-never : (l k : TxKind) → (may_follow l k && not (is_kind OutTx k)) ≡ (not (is_kind OutTx l) && may_follow l k)
out-never ReadTx k = refl
out-never DataTx ReadTx = refl
out-never DataTx DataTx = refl
out-never DataTx EraseTx = refl
out-never DataTx ExclusiveTx = refl
out-never DataTx InjectTx = refl
out-never DataTx OutTx = refl
out-never EraseTx ReadTx = refl
out-never EraseTx DataTx = refl
out-never EraseTx EraseTx = refl
out-never EraseTx ExclusiveTx = refl
out-never EraseTx InjectTx = refl
out-never EraseTx OutTx = refl
out-never ExclusiveTx ReadTx = refl
out-never ExclusiveTx DataTx = refl
out-never ExclusiveTx EraseTx = refl
out-never ExclusiveTx ExclusiveTx = refl
out-never ExclusiveTx InjectTx = refl
out-never ExclusiveTx OutTx = refl
out-never InjectTx ReadTx = refl
out-never InjectTx DataTx = refl
out-never InjectTx EraseTx = refl
out-never InjectTx ExclusiveTx = refl
out-never InjectTx InjectTx = refl
out-never InjectTx OutTx = refl
out-never OutTx k = refl

pub and-assoc : (a b c : Bool) → (a && (b && c)) ≡ ((a && b) && c)
and-assoc true b c = refl
and-assoc false b c = refl

pub last_of : TxKind → List TxKind → TxKind
last_of k [] = k
last_of k (l ∷ q) = last_of l q

pub last-some : (k : TxKind) (q : List TxKind) → last_kind (k ∷ q) ≡ Some (last_of k q)
unfolding last_of
last-some k [] = refl
last-some k (l ∷ q) = last-some l q

fits-more : (q : List TxKind) (k : TxKind) → queue_fits (q ++ k ∷ []) ≡ fits_behind (last_kind q) k (queue_fits q)
fits-more [] k = refl
fits-more (l ∷ []) k = out-never l k
fits-more (l ∷ m ∷ q) k =
    let behind : queue_fits (m ∷ q ++ k ∷ []) ≡ (queue_fits (m ∷ q) && may_follow (last_of m q) k) = fits-more (m ∷ q) k ∙ ap (λ o. fits_behind o k (queue_fits (m ∷ q))) (last-some m q) in
    ap (λ b. may_follow l m && b) behind
    ∙ and-assoc (may_follow l m) (queue_fits (m ∷ q)) (may_follow (last_of m q) k)
    ∙ sym (ap (λ o. fits_behind o k (may_follow l m && queue_fits (m ∷ q))) (last-some m q))

module _ {X : Type 0} (p : X → Bool) where
  filter-more : (xs : List X) (x : X) → filter p (xs ++ x ∷ []) ≡ cond (p x) (filter p xs ++ x ∷ []) (filter p xs)
  filter-more [] x = refl
  filter-more (y ∷ xs) x = ap (λ l. cond (p y) (y ∷ l) l) (filter-more xs x) ∙ both (p y) (p x)
    where
      both : (b c : Bool) → cond b (y ∷ cond c (filter p xs ++ x ∷ []) (filter p xs)) (cond c (filter p xs ++ x ∷ []) (filter p xs)) ≡ cond c (cond b (y ∷ filter p xs) (filter p xs) ++ x ∷ []) (cond b (y ∷ filter p xs) (filter p xs))
      both true true = refl
      both true false = refl
      both false true = refl
      both false false = refl

  pub any-more : (xs : List X) (x : X) → list_any p (xs ++ x ∷ []) ≡ (list_any p xs || p x)
  any-more [] x = or-none (p x)
    where
      or-none : (b : Bool) → (b || false) ≡ b
      or-none true = refl
      or-none false = refl
  any-more (y ∷ xs) x = ap (λ b. p y || b) (any-more xs x) ∙ or-assoc (p y)
    where
      or-assoc : (b : Bool) → (b || (list_any p xs || p x)) ≡ ((b || list_any p xs) || p x)
      or-assoc true = refl
      or-assoc false = refl

  pub all-more : (xs : List X) (x : X) → list_all p (xs ++ x ∷ []) ≡ (list_all p xs && p x)
  all-more [] x = and-all (p x)
    where
      and-all : (b : Bool) → (b && true) ≡ b
      and-all true = refl
      and-all false = refl
  all-more (y ∷ xs) x = ap (λ b. p y && b) (all-more xs x) ∙ and-assoc (p y) (list_all p xs) (p x)

-- the first and the last of those that move copies
first-move-more : (q : List TxKind) (k : TxKind) → first_kind (copies_in (q ++ k ∷ [])) ≡ cond (moves_copies k) (first_some (first_kind (copies_in q)) (Some k)) (first_kind (copies_in q))
first-move-more q k = ap first_kind (filter-more moves_copies q k) ∙ by_test (moves_copies k)
  where
    by_test : (b : Bool) → first_kind (cond b (copies_in q ++ k ∷ []) (copies_in q)) ≡ cond b (first_some (first_kind (copies_in q)) (Some k)) (first_kind (copies_in q))
    by_test true = first-more (copies_in q) k
    by_test false = refl

last-move-more : (q : List TxKind) (k : TxKind) → last_kind (copies_in (q ++ k ∷ [])) ≡ cond (moves_copies k) (Some k) (last_kind (copies_in q))
last-move-more q k = ap last_kind (filter-more moves_copies q k) ∙ by_test (moves_copies k)
  where
    by_test : (b : Bool) → last_kind (cond b (copies_in q ++ k ∷ []) (copies_in q)) ≡ cond b (Some k) (last_kind (copies_in q))
    by_test true = last-more (copies_in q) k
    by_test false = refl

same-facts : (first last first_move last_move : Option TxKind) (fits reads brings_data erases exclusives injects only_exclusives : Bool) (f : QueueFacts)
    → f.first ≡ first → f.last ≡ last → f.first_move ≡ first_move → f.last_move ≡ last_move → f.fits ≡ fits → f.reads ≡ reads → f.brings_data ≡ brings_data → f.erases ≡ erases
    → f.exclusives ≡ exclusives → f.injects ≡ injects → f.only_exclusives ≡ only_exclusives
    → f ≡ record { first = first; last = last; first_move = first_move; last_move = last_move; fits = fits; reads = reads; brings_data = brings_data; erases = erases; exclusives = exclusives; injects = injects; only_exclusives = only_exclusives }
same-facts first last first_move last_move fits reads brings_data erases exclusives injects only_exclusives f a b c d e g h i j k l = rw (← a, ← b, ← c, ← d, ← e, ← g, ← h, ← i, ← j, ← k, ← l) refl

-- what is gathered of one entry more is what is gathered of the longer list
pub one_more : (q : List TxKind) (k : TxKind) → with_kind k (facts_of q) ≡ facts_of (q ++ k ∷ [])
one_more q k =
    sym (same-facts _ _ _ _ _ _ _ _ _ _ _ (facts_of (q ++ k ∷ [])) (first-more q k) (last-more q k) (first-move-more q k) (last-move-more q k) (fits-more q k)
    (any-more (is_kind ReadTx) q k) (any-more (is_kind DataTx) q k) (any-more (is_kind EraseTx) q k) (any-more (is_kind ExclusiveTx) q k) (any-more (is_kind InjectTx) q k)
    (all-more (is_kind ExclusiveTx) q k))
