-- A directory's down list by the stamps of its entries: they never fall, lie between what its bus took over and the present
-- stamp above, and that of a read, an erase or an inject is past all before it.
use Rattle.std.proofs.Common.{◌≡◌, ℕ, Bool, true, false, List, [], ◌∷◌, length, filter, Option, Some, None, IfSome, refl, arith}
use Rattle.std.specs.List.{AllByRecursion}
use Rattle.order_lists.specs.DdmTypes.declared.answers.TxKind.{TxKind}
use Rattle.order_lists.specs.DdmTypes.declared.answers.TxKind.TheVariants.{ReadTx, DataTx, EraseTx, ExclusiveTx, InjectTx, OutTx}
use Rattle.order_lists.specs.TreeModel.State.Lists.{first_some}
use Rattle.order_lists.specs.TreeModel.State.Kinds.{is_kind}
use Rattle.order_lists.specs.TreeModel.State.Values.{DownValue, DirValue}
use Rattle.order_lists.specs.TreeModel.State.Directory.{queue_of}
use Rattle.order_lists.specs.TreeModel.State.Place.{Spot}
use Rattle.tree_rules.specs.Statements.{Holds, each_pair}
use Rattle.tree_rules.specs.Order.Moments.{less, moment_at, spot_moment, GoesOn}
use Rattle.tree_rules.specs.Order.Places.{DirAt}
use Rattle.tree_rules.specs.Order.Copies.{first_erase}
use Rattle.tree_rules.specs.Order.Time.{comes_later, may_stand_behind, lies_between}
use Rattle.tree_rules.specs.Order.Core.{is_past_taken}
use Rattle.tree_rules.proofs.Statements.{each-facts}
use Rattle.order_lists.proofs.Filters.{each-weaker, each-filter}
use Rattle.order_lists.proofs.Stamps.{same_length}
use Rattle.order_lists.proofs.Clocks.{IsClocked, goes_on-same_length, shallow, here}

-- what the shape and the rules of time and of commands say of a directory
pub record IsOrdered (c : DirAt) : Type 0 where
  pub clocked : IsClocked c
  pub between : AllByRecursion (λ e. Holds (lies_between c e)) c.dir.down
  pub rises : Holds (each_pair (may_stand_behind c) c.dir.down)
  pub past_taken : AllByRecursion (λ e. Holds (is_past_taken c e)) c.dir.down

pub erase_later : (k : TxKind) → is_kind EraseTx k ≡ true → comes_later k ≡ true
erase_later ReadTx h = refl
erase_later DataTx h = grind arith
erase_later EraseTx h = refl
erase_later ExclusiveTx h = grind arith
erase_later InjectTx h = refl
erase_later OutTx h = grind arith

-- ---- options

pub some_first : (o p : Option (List ℕ)) (P : List ℕ → Type 0) → IfSome o P → IfSome p P → IfSome (first_some o p) P
some_first None p P h k = k
some_first (Some e) p P h k = h

pub some_weaker : (o : Option (List ℕ)) (P Q : List ℕ → Type 0) → ((e : List ℕ) → P e → Q e) → IfSome o P → IfSome o Q
some_weaker None P Q f h = tt
some_weaker (Some e) P Q f h = f e h

-- ---- queues

module _ (above : List ℕ) where
  -- the second entry may stand behind the first
  pub record MayFollow (e f : DownValue) : Type 0 where
    pub falls_not : less (moment_at above f.stamp) (moment_at above e.stamp) ≡ false
    pub later : comes_later f.kind ≡ true → less (moment_at above e.stamp) (moment_at above f.stamp) ≡ true

  -- each entry may stand behind each before it
  abbrev pub Rises : List DownValue → Type 0
  Rises [] = Unit {0}
  Rises (e ∷ es) = AllByRecursion (MayFollow e) es × Rises es

  pub rises-filter : (p : DownValue → Bool) (es : List DownValue) → Rises es → Rises (filter p es)
  rises-filter p [] h = tt
  rises-filter p (e ∷ es) h = go (p e) refl (rises-filter p es h.1) where
    go : (t : Bool) → p e ≡ t → Rises (filter p es) → Rises (filter p (e ∷ es))
    go true i rest = rw i (each-filter (MayFollow e) p es h.0, rest)
    go false i rest = rw i rest

  -- what is true of each erase is true of the first
  pub first_erase-each : (P : List ℕ → Type 0) (q : List DownValue) → AllByRecursion (λ e. is_kind EraseTx e.kind ≡ true → P (moment_at above e.stamp)) q → IfSome (first_erase above q) P
  first_erase-each P [] h = tt
  first_erase-each P (e ∷ es) h = go (is_kind EraseTx e.kind) refl (first_erase-each P es h.1) where
    go : (t : Bool) → is_kind EraseTx e.kind ≡ t → IfSome (first_erase above es) P → IfSome (first_erase above (e ∷ es)) P
    go true i rest = rw i (h.0 i)
    go false i rest = rw i rest

pub rises-from_rule : (c : DirAt) (es : List DownValue) → Holds (each_pair (may_stand_behind c) es) → Rises c.spot.above es
rises-from_rule c [] h = tt
rises-from_rule c (e ∷ es) h = (each-weaker _ _ (λ f r. record { falls_not = r.0; later = r.1 }) es (each-facts (may_stand_behind c e) es h.0), rises-from_rule c es h.1)

-- ---- of a directory, for one item

module _ (x : ℕ) (c : Spot) (d : DirValue) (o : IsOrdered (here c d)) where
  pub queue-rises : Rises c.above (queue_of x d.down)
  unfolding queue_of
  queue-rises = rises-filter c.above _ d.down (rises-from_rule (here c d) d.down o.rises)

  -- no entry is past the present stamp above
  pub queue-below : AllByRecursion (λ e. GoesOn (moment_at c.above e.stamp) (spot_moment c)) (queue_of x d.down)
  unfolding queue_of
  queue-below = each-filter _ _ d.down (each-weaker _ _ (λ e h. goes_on-same_length _ _ (same_length c.above e.stamp c.present (shallow c o.clocked.deep)) h.1) d.down o.between)

  -- each erase is past what its bus took over
  pub queue-erases : AllByRecursion (λ e. is_kind EraseTx e.kind ≡ true → less (moment_at c.above d.epoch) (moment_at c.above e.stamp) ≡ true) (queue_of x d.down)
  unfolding queue_of
  queue-erases = each-filter _ _ d.down (each-weaker _ _ (λ e h k. h (erase_later e.kind k)) d.down o.past_taken)

  pub queue-late : IfSome (first_erase c.above (queue_of x d.down)) (λ e. (length e ≡ length (moment_at c.above d.epoch)) × (less (moment_at c.above d.epoch) e ≡ true))
  queue-late = first_erase-each c.above _ (queue_of x d.down) (each-weaker _ _ (λ e h k. (same_length c.above e.stamp d.epoch (shallow c o.clocked.deep), h k)) (queue_of x d.down) queue-erases)
