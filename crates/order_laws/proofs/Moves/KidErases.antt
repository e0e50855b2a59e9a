-- The erases inside a child of a bus, after each thing that the bus tells it or takes from it.
-- Letters: x is the item, y any item, n and m the child before and after, d and e directories.
use Rattle.std.proofs.Common.{◌≡◌, ◌≢◌, ℕ, ◌+◌, Bool, true, false, List, [], ◌∷◌, ◌++◌, Option, Some, None, refl, sym, ap, subst, ◌∙◌, ◌⊎◌, inl, inr}
use Rattle.std.specs.Prelude.{if◌then◌else◌}
use native.Mathlib.Decide.{ℕ_discrete}
use Rattle.order_laws.specs.DdmTypes.declared.answers.TxKind.TheVariants.{EraseTx}
use Rattle.order_laws.specs.DdmTypes.declared.sizes.Hold.{Hold}
use Rattle.order_laws.specs.DdmTypes.declared.sizes.LeafState.{LeafState}
use Rattle.order_laws.specs.DdmTypes.declared.keys.Stamp.{Stamp}
use Rattle.order_laws.specs.TreeModel.State.Kinds.{is_kind}
use Rattle.order_laws.specs.TreeModel.State.States.{entry_hold, is_held, is_exclusive}
use Rattle.order_laws.specs.TreeModel.State.Values.{DownValue, LeafValue, DirValue, Node, Nodes, leaf_node, dir_node, no_nodes, more_nodes}
use Rattle.order_laws.specs.TreeModel.State.Leaf.{blank, LeafEntry, leaf_entry, leaf_hold, leaf_lose}
use Rattle.order_laws.specs.TreeModel.State.Directory.{dir_hold, queue_of, stamp_of, dir_lose, dir_take_data, dir_take_exclusive, dir_answer, dir_take_inject}
use Rattle.order_laws.specs.TreeModel.State.Child.{child_lose, child_take_data, child_take_exclusive, child_answer, child_take_inject, child_give_up, child_request_taken, child_reply_taken}
use Rattle.order_laws.specs.TreeModel.State.Place.{Spot}
use Rattle.order_laws.specs.TreeRules.Order.Claims.{child_is_exclusive}
use Rattle.order_laws.specs.TreeRules.Order.Copies.{erases_of, erases_in, erases_among}
use Rattle.order_laws.specs.TreeRules.Order.Moments.{moment_at}
use Rattle.order_laws.specs.Moves.Moved.{In}
use Rattle.order_laws.proofs.Moves.Sources.{In-left, In-right, In-either}
use Rattle.order_laws.proofs.Moves.Inside.{queue-pushed, queue-pushed_other}
use Rattle.order_laws.proofs.Moves.KidClaims.{not-exclusive}
use Rattle.order_laws.proofs.Moves.Leaves.{held_words, lost-words}

-- ---- a queue

behind-erases : (above : List ℕ) (q : List DownValue) (e : DownValue) → is_kind EraseTx e.kind ≡ false → erases_of above (q ++ e ∷ []) ≡ erases_of above q
behind-erases above [] e other = rw other refl
behind-erases above (f ∷ q) e other = rw (behind-erases above q e other) refl

pushed-erases : (above : List ℕ) (q : List DownValue) (e : DownValue) → is_kind EraseTx e.kind ≡ true → erases_of above (q ++ e ∷ []) ≡ erases_of above q ++ moment_at above e.stamp ∷ []
pushed-erases above [] e is = rw is refl
pushed-erases above (f ∷ q) e is = go (is_kind EraseTx f.kind) refl (pushed-erases above q e is) where
  go : (t : Bool) → is_kind EraseTx f.kind ≡ t → erases_of above (q ++ e ∷ []) ≡ erases_of above q ++ moment_at above e.stamp ∷ [] → erases_of above (f ∷ q ++ e ∷ []) ≡ erases_of above (f ∷ q) ++ moment_at above e.stamp ∷ []
  go true i rest = rw (i, rest) refl
  go false i rest = rw i rest

among-erases : (x : ℕ) (path : List ℕ) (d e : DirValue) (i : ℕ) (ns : Nodes) → stamp_of e ≡ stamp_of d → erases_among x path e i ns ≡ erases_among x path d i ns
among-erases x path d e i no_nodes same = refl
among-erases x path d e i (more_nodes n ns) same =
    let first : erases_in x (record { above = path; number = i; present = stamp_of e }) n ≡ erases_in x (record { above = path; number = i; present = stamp_of d }) n = ap (λ (s : Stamp). erases_in x (record { above = path; number = i; present = s }) n) same in
    rw (first, among-erases x path d e (i + 1) ns same) refl

-- ---- a child

-- it has no erases but those that it had
abbrev pub ErasesSame : ℕ → Node → Node → Type 0
ErasesSame y (leaf_node v) (leaf_node w) = Unit {0}
ErasesSame y (dir_node d ns) (dir_node e ms) = (ms ≡ ns) × ((stamp_of e ≡ stamp_of d) × ((above : List ℕ) → erases_of above (queue_of y e.down) ≡ erases_of above (queue_of y d.down)))
ErasesSame y (leaf_node v) (dir_node e ms) = ⊥
ErasesSame y (dir_node d ns) (leaf_node w) = ⊥

pub same : (y : ℕ) (n : Node) → ErasesSame y n n
same y (leaf_node v) = tt
same y (dir_node d ns) = (refl, (refl, λ above. refl))

pub again : (y : ℕ) (n m k : Node) → ErasesSame y n m → ErasesSame y m k → ErasesSame y n k
again y (leaf_node v) (leaf_node w) (leaf_node u) f g = tt
again y (leaf_node v) (leaf_node w) (dir_node e ms) f g = absurd g
again y (leaf_node v) (dir_node e ms) k f g = absurd f
again y (dir_node d ns) (leaf_node w) k f g = absurd f
again y (dir_node d ns) (dir_node e ms) (leaf_node u) f g = absurd g
again y (dir_node d ns) (dir_node e ms) (dir_node b ks) f g = (g.0 ∙ f.0, (g.1.0 ∙ f.1.0, λ above. g.1.1 above ∙ f.1.1 above))

module _ (x y : ℕ) where
  -- behind a queue what is no erase
  behind : (down : List DownValue) (e : DownValue) → e.item ≡ x → is_kind EraseTx e.kind ≡ false → (above : List ℕ) → erases_of above (queue_of y (down ++ e ∷ [])) ≡ erases_of above (queue_of y down)
  behind down e is other above = by (ℕ_discrete y x) where
    by : Dec (y ≡ x) → erases_of above (queue_of y (down ++ e ∷ [])) ≡ erases_of above (queue_of y down)
    by (yes at) = ap (erases_of above) (queue-pushed y down e (is ∙ sym at)) ∙ behind-erases above (queue_of y down) e other
    by (no ne) = ap (erases_of above) (queue-pushed_other y down e (λ at. ne (at ∙ is)))

  pub request-same : (n : Node) → ErasesSame y n (child_request_taken n)
  request-same (leaf_node v) = tt
  request-same (dir_node d ns) = (refl, (refl, λ above. refl))

  pub reply-same : (n : Node) → ErasesSame y n (child_reply_taken n)
  reply-same (leaf_node v) = tt
  reply-same (dir_node d ns) = (refl, (refl, λ above. refl))

  pub data-same : (words : List ℕ) (t : Stamp) (n : Node) → ErasesSame y n (child_take_data x words t n)
  unfolding dir_take_data
  data-same words t (leaf_node v) = tt
  data-same words t (dir_node d ns) = (refl, (refl, behind d.down _ refl refl))

  pub exclusive-same : (t : Stamp) (n : Node) → ErasesSame y n (child_take_exclusive x t n)
  unfolding dir_take_exclusive
  exclusive-same t (leaf_node v) = tt
  exclusive-same t (dir_node d ns) = (refl, (refl, behind d.down _ refl refl))

  pub answer-same : (t : Stamp) (n : Node) → ErasesSame y n (child_answer x t n)
  unfolding dir_answer
  answer-same t (leaf_node v) = tt
  answer-same t (dir_node d ns) = (refl, (refl, behind d.down _ refl refl))

  pub inject-same : (words : List ℕ) (t : Stamp) (n : Node) → ErasesSame y n (child_take_inject x words t n)
  unfolding dir_take_inject
  inject-same words t (leaf_node v) = tt
  inject-same words t (dir_node d ns) = (refl, (refl, behind d.down _ refl refl))

  pub gone-same : (n : Node) → ErasesSame y n (child_give_up x n)
  gone-same (leaf_node v) = tt
  gone-same (dir_node d ns) = (refl, (refl, λ above. refl))

  pub lose-same : (t : Stamp) → y ≢ x → (n : Node) → ErasesSame y n (child_lose x t n)
  unfolding dir_lose
  lose-same t ne (leaf_node v) = tt
  lose-same t ne (dir_node d ns) = (refl, (refl, λ above. at above (is_held (dir_hold x d)))) where
    at : (above : List ℕ) (b : Bool) → erases_of above (queue_of y (if b then d.down ++ record { kind = EraseTx; item = x; words = blank d.sizes.width; stamp = t } ∷ [] else d.down)) ≡ erases_of above (queue_of y d.down)
    at above true = ap (erases_of above) (queue-pushed_other y d.down _ ne)
    at above false = refl

-- of the same bus, before and after
abbrev pub spot : List ℕ → ℕ → Stamp → Spot
spot path i s = record { above = path; number = i; present = s }

pub same-erases : (y : ℕ) (path : List ℕ) (i : ℕ) (s s' : Stamp) (n m : Node) → ErasesSame y n m → erases_in y (spot path i s') m ≡ erases_in y (spot path i s) n
same-erases y path i s s' (leaf_node v) (leaf_node w) h = refl
same-erases y path i s s' (leaf_node v) (dir_node e ms) h = absurd h
same-erases y path i s s' (dir_node d ns) (leaf_node w) h = absurd h
same-erases y path i s s' (dir_node d ns) (dir_node e ms) h = ap (λ es. es ++ erases_among y (path ++ i ∷ []) e 0 ms) (h.1.1 path) ∙ (ap (λ ks. erases_of path (queue_of y d.down) ++ erases_among y (path ++ i ∷ []) e 0 ks) h.0 ∙ ap (λ es. erases_of path (queue_of y d.down) ++ es) (among-erases y (path ++ i ∷ []) d e 0 ns h.1.0))

-- told to lose the item: one of this stamp besides
pub lost-erases : (x : ℕ) (path : List ℕ) (i : ℕ) (s s' : Stamp) (n : Node) (e : List ℕ) → In e (erases_in x (spot path i s') (child_lose x s' n)) → In e (erases_in x (spot path i s) n) ⊎ (e ≡ moment_at path s')
unfolding dir_lose
lost-erases x path i s s' (leaf_node v) e h = absurd h
lost-erases x path i s s' (dir_node d ns) e h = by (In-either e (erases_of path (queue_of x (down (is_held (dir_hold x d))))) (erases_among x (path ++ i ∷ []) (dir_lose x s' d) 0 ns) h) where
  down : Bool → List DownValue
  down b = if b then d.down ++ record { kind = EraseTx; item = x; words = blank d.sizes.width; stamp = s' } ∷ [] else d.down

  own : (b : Bool) → In e (erases_of path (queue_of x (down b))) → In e (erases_of path (queue_of x d.down)) ⊎ (e ≡ moment_at path s')
  own false g = inl g
  own true g =
      let is : erases_of path (queue_of x (down true)) ≡ erases_of path (queue_of x d.down) ++ moment_at path s' ∷ [] = ap (erases_of path) (queue-pushed x d.down _ refl) ∙ pushed-erases path (queue_of x d.down) _ refl in
      elim (In-either e (erases_of path (queue_of x d.down)) (moment_at path s' ∷ []) (subst (In e) is g)) as (λ _. In e (erases_of path (queue_of x d.down)) ⊎ (e ≡ moment_at path s')) [
        | inl k ↦ inl k
        | inr k ↦ last k
      ] where
        last : In e (moment_at path s' ∷ []) → In e (erases_of path (queue_of x d.down)) ⊎ (e ≡ moment_at path s')
        last (inl k) = inr k
        last (inr k) = absurd k

  by : In e (erases_of path (queue_of x (down (is_held (dir_hold x d))))) ⊎ In e (erases_among x (path ++ i ∷ []) (dir_lose x s' d) 0 ns) → In e (erases_in x (spot path i s) (dir_node d ns)) ⊎ (e ≡ moment_at path s')
  by (inr k) = inl (In-right e (erases_of path (queue_of x d.down)) (erases_among x (path ++ i ∷ []) d 0 ns) (subst (In e) (among-erases x (path ++ i ∷ []) d (dir_lose x s' d) 0 ns refl) k))
  by (inl k) =
      elim (own (is_held (dir_hold x d)) k) as (λ _. In e (erases_in x (spot path i s) (dir_node d ns)) ⊎ (e ≡ moment_at path s')) [
        | inl g ↦ inl (In-left e (erases_of path (queue_of x d.down)) (erases_among x (path ++ i ∷ []) d 0 ns) g)
        | inr g ↦ inr g
      ]

-- ---- a child that was told to lose the item doesn't hold it Exclusive

words-free : (x : ℕ) (v : LeafValue) → held_words (leaf_entry x v) ≡ [] → is_exclusive (leaf_hold x v) ≡ false
unfolding leaf_hold
words-free x v h = by (leaf_entry x v) refl where
  state : (s : LeafState) (ws : List ℕ) → held_words (Some (record { state = s; words = ws })) ≡ [] → is_exclusive (entry_hold (Some s)) ≡ false
  state LeafState.Shared ws e = refl
  state LeafState.Exclusive ws e = cc
  state LeafState.Waiting ws e = refl
  state LeafState.Reading ws e = refl
  state LeafState.ReadingWaiting ws e = refl

  by : (o : Option LeafEntry) → leaf_entry x v ≡ o → is_exclusive (leaf_hold x v) ≡ false
  by None is = rw is refl
  by (Some e) is = rw is (state e.state e.words (ap held_words (sym is) ∙ h))

not-held-exclusive : (h : Hold) → is_held h ≡ false → is_exclusive h ≡ false
not-held-exclusive Hold.Invalid e = refl
not-held-exclusive Hold.Shared e = cc
not-held-exclusive Hold.Exclusive e = cc

pub lost-exclusive : (x : ℕ) (t : Stamp) (n : Node) → child_is_exclusive x (child_lose x t n) ≡ false
unfolding dir_lose
lost-exclusive x t (leaf_node v) = words-free x (leaf_lose x v) (lost-words x v)
lost-exclusive x t (dir_node d ns) = by (is_held (dir_hold x d)) refl where
  by : (b : Bool) → is_held (dir_hold x d) ≡ b → child_is_exclusive x (child_lose x t (dir_node d ns)) ≡ false
  by true is = rw is (not-exclusive x d Hold.Invalid refl)
  by false is = rw is (not-held-exclusive (dir_hold x d) is)

pub request-exclusive : (x : ℕ) (n : Node) → child_is_exclusive x (child_request_taken n) ≡ child_is_exclusive x n
unfolding leaf_hold
request-exclusive x (leaf_node v) = refl
request-exclusive x (dir_node d ns) = refl
