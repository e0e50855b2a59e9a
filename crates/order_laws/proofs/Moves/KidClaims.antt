-- What each thing that a bus tells a child, or takes from it, does to the child's claim on an item.
-- Letters: x is the item, y another one, s the stamp of the bus, n and m the child before and after, d and e directories.
use Rattle.std.proofs.Common.{◌≡◌, ◌≢◌, ℕ, zero, suc, Bool, true, false, List, [], ◌∷◌, ◌++◌, Some, refl, sym, ap, subst, ◌∙◌, ◌⊎◌, inl, inr}
use Rattle.std.specs.Prelude.{slice_index_or, slice_set, if◌then◌else◌}
use native.Mathlib.Decide.{ℕ_discrete}
use Rattle.order_laws.specs.DdmTypes.declared.answers.TxKind.TheVariants.{EraseTx}
use Rattle.order_laws.specs.DdmTypes.declared.sizes.Hold.{Hold}
use Rattle.order_laws.specs.DdmTypes.declared.keys.Stamp.{Stamp}
use Rattle.order_laws.specs.TreeModel.State.States.{is_held, is_exclusive}
use Rattle.order_laws.specs.TreeModel.State.Values.{DownValue, DirItem, absent_item, DirValue, Node, leaf_node, dir_node}
use Rattle.order_laws.specs.TreeModel.State.Leaf.{blank}
use Rattle.order_laws.specs.TreeModel.State.Directory.{dir_item, dir_hold, with_item, with_hold, queue_of, stamp_of, dir_lose, dir_take_data, dir_take_exclusive, dir_answer, dir_take_inject, dir_give_up}
use Rattle.order_laws.specs.TreeModel.State.Child.{child_lose, child_take_data, child_take_exclusive, child_answer, child_take_inject, child_give_up, child_request_taken, child_reply_taken}
use Rattle.order_laws.specs.TreeRules.Order.Claims.{gives_exclusive, last_exclusive}
use Rattle.order_laws.specs.TreeRules.Order.Moments.{moment_at}
use Rattle.bus_laws.proofs.DirParts.{item-other}
use Rattle.order_laws.proofs.Moves.Inside.{queue-pushed, queue-pushed_other}

-- ---- a queue

pub last-behind : (above : List ℕ) (q : List DownValue) (e : DownValue) → gives_exclusive e ≡ false → last_exclusive above (q ++ e ∷ []) ≡ last_exclusive above q
last-behind above [] e other = rw other refl
last-behind above (f ∷ q) e other = rw (last-behind above q e other) refl

pub last-pushed : (above : List ℕ) (q : List DownValue) (e : DownValue) → gives_exclusive e ≡ true → last_exclusive above (q ++ e ∷ []) ≡ Some (moment_at above e.stamp)
last-pushed above [] e is = rw is refl
last-pushed above (f ∷ q) e is = rw (last-pushed above q e is) refl

-- ---- a hold

set-at : (items : List DirItem) (x : ℕ) (i : DirItem) → (slice_index_or (slice_set items x i) x absent_item ≡ i) ⊎ (slice_index_or (slice_set items x i) x absent_item ≡ absent_item)
set-at [] x i = inr refl
set-at (j ∷ items) zero i = inl refl
set-at (j ∷ items) (suc x) i = set-at items x i

-- a hold that was set is that one, or the item isn't known
pub not-exclusive : (x : ℕ) (d : DirValue) (h : Hold) → is_exclusive h ≡ false → is_exclusive (dir_hold x (with_hold x h d)) ≡ false
not-exclusive x d h other = elim (set-at d.items x (record (dir_item x d) { hold = h })) as (λ _. is_exclusive (dir_hold x (with_hold x h d)) ≡ false) [ inl is ↦ ap (λ i. is_exclusive i.hold) is ∙ other | inr is ↦ ap (λ i. is_exclusive i.hold) is ]

set-same : (items : List DirItem) (x : ℕ) (b : Bool) → (slice_index_or (slice_set items x (record (slice_index_or items x absent_item) { answering = b })) x absent_item).hold ≡ (slice_index_or items x absent_item).hold
set-same [] x b = refl
set-same (j ∷ items) zero b = refl
set-same (j ∷ items) (suc x) b = set-same items x b

hold-other : (x y : ℕ) (i : DirItem) (d : DirValue) → y ≢ x → dir_hold y (with_item x i d) ≡ dir_hold y d
hold-other x y i d ne = ap (λ (j : DirItem). j.hold) (item-other x y i d ne)

-- ---- a child's claim

module _ (x : ℕ) (s : Stamp) where
  -- it holds the item Exclusive as before, with the same exclusives and injects in its down list; or it was told one at this stamp
  abbrev pub DirClaim : DirValue → DirValue → Type 0
  DirClaim d e = is_exclusive (dir_hold x e) ≡ true → ((is_exclusive (dir_hold x d) ≡ true) × ((above : List ℕ) → last_exclusive above (queue_of x e.down) ≡ last_exclusive above (queue_of x d.down))) ⊎ ((above : List ℕ) → last_exclusive above (queue_of x e.down) ≡ Some (moment_at above s))

  -- a directory keeps what is below it and the time of its bus
  abbrev pub KidClaims : Node → Node → Type 0
  KidClaims (leaf_node v) (leaf_node w) = Unit {0}
  KidClaims (dir_node d ns) (dir_node e ms) = (ms ≡ ns) × ((stamp_of e ≡ stamp_of d) × ((e.epoch ≡ d.epoch) × DirClaim d e))
  KidClaims (leaf_node v) (dir_node e ms) = ⊥
  KidClaims (dir_node d ns) (leaf_node w) = ⊥

  dir-same : (d e : DirValue) → dir_hold x e ≡ dir_hold x d → ((above : List ℕ) → last_exclusive above (queue_of x e.down) ≡ last_exclusive above (queue_of x d.down)) → DirClaim d e
  dir-same d e hold queue is = inl (ap is_exclusive (sym hold) ∙ is, queue)

  dir-none : (d e : DirValue) → is_exclusive (dir_hold x e) ≡ false → DirClaim d e
  dir-none d e none is = let wrong : false ≡ true = sym none ∙ is in cc

  pub same-claims : (n : Node) → KidClaims n n
  same-claims (leaf_node v) = tt
  same-claims (dir_node d ns) = (refl, (refl, (refl, dir-same d d refl (λ above. refl))))

  pub request-claims : (n : Node) → KidClaims n (child_request_taken n)
  request-claims (leaf_node v) = tt
  request-claims (dir_node d ns) = (refl, (refl, (refl, λ is. inl (is, λ above. refl))))

  pub reply-claims : (n : Node) → KidClaims n (child_reply_taken n)
  reply-claims (leaf_node v) = tt
  reply-claims (dir_node d ns) = (refl, (refl, (refl, λ is. inl (is, λ above. refl))))

  pub answer-claims : (t : Stamp) (n : Node) → KidClaims n (child_answer x t n)
  unfolding dir_answer
  answer-claims t (leaf_node v) = tt
  answer-claims t (dir_node d ns) = (refl, (refl, (refl, dir-same d (dir_answer x t d) (set-same d.items x true) (λ above. ap (last_exclusive above) (queue-pushed x d.down _ refl) ∙ last-behind above (queue_of x d.down) _ refl))))

  pub data-claims : (words : List ℕ) (t : Stamp) (n : Node) → KidClaims n (child_take_data x words t n)
  unfolding dir_take_data
  data-claims words t (leaf_node v) = tt
  data-claims words t (dir_node d ns) = (refl, (refl, (refl, dir-none d (dir_take_data x words t d) (not-exclusive x d Hold.Shared refl))))

  pub exclusive-claims : (n : Node) → KidClaims n (child_take_exclusive x s n)
  unfolding dir_take_exclusive
  exclusive-claims (leaf_node v) = tt
  exclusive-claims (dir_node d ns) = (refl, (refl, (refl, λ is. inr (λ above. ap (last_exclusive above) (queue-pushed x d.down _ refl) ∙ last-pushed above (queue_of x d.down) _ refl))))

  pub inject-claims : (words : List ℕ) (n : Node) → KidClaims n (child_take_inject x words s n)
  unfolding dir_take_inject
  inject-claims words (leaf_node v) = tt
  inject-claims words (dir_node d ns) = (refl, (refl, (refl, λ is. inr (λ above. ap (last_exclusive above) (queue-pushed x d.down _ refl) ∙ last-pushed above (queue_of x d.down) _ refl))))

  pub gone-claims : (n : Node) → KidClaims n (child_give_up x n)
  gone-claims (leaf_node v) = tt
  gone-claims (dir_node d ns) = (refl, (refl, (refl, dir-none d (dir_give_up x d) (not-exclusive x d Hold.Invalid refl))))

  pub lose-claims : (t : Stamp) (n : Node) → KidClaims n (child_lose x t n)
  unfolding dir_lose
  lose-claims t (leaf_node v) = tt
  lose-claims t (dir_node d ns) = (refl, (refl, (refl, at (is_held (dir_hold x d))))) where
    items : Bool → List DirItem
    items b = if b then slice_set d.items x (record (dir_item x d) { hold = Hold.Invalid }) else d.items

    down : Bool → List DownValue
    down b = if b then d.down ++ record { kind = EraseTx; item = x; words = blank d.sizes.width; stamp = t } ∷ [] else d.down

    at : (b : Bool) → is_exclusive (slice_index_or (items b) x absent_item).hold ≡ true → ((is_exclusive (dir_hold x d) ≡ true) × ((above : List ℕ) → last_exclusive above (queue_of x (down b)) ≡ last_exclusive above (queue_of x d.down))) ⊎ ((above : List ℕ) → last_exclusive above (queue_of x (down b)) ≡ Some (moment_at above s))
    at true is =
        let none = not-exclusive x d Hold.Invalid refl in
        let wrong : false ≡ true = sym none ∙ is in
        cc
    at false is = inl (is, λ above. refl)

-- ---- of another item nothing changes

module _ (x y : ℕ) (s : Stamp) (ne : y ≢ x) where
  pushed-same : (down : List DownValue) (e : DownValue) → e.item ≡ x → (above : List ℕ) → last_exclusive above (queue_of y (down ++ e ∷ [])) ≡ last_exclusive above (queue_of y down)
  pushed-same down e is above = ap (last_exclusive above) (queue-pushed_other y down e (λ same. ne (same ∙ is)))

  pub answer-claims_other : (t : Stamp) (n : Node) → KidClaims y s n (child_answer x t n)
  unfolding dir_answer
  answer-claims_other t (leaf_node v) = tt
  answer-claims_other t (dir_node d ns) = (refl, (refl, (refl, dir-same y s d (dir_answer x t d) (hold-other x y _ d ne) (pushed-same d.down _ refl))))

  pub data-claims_other : (words : List ℕ) (t : Stamp) (n : Node) → KidClaims y s n (child_take_data x words t n)
  unfolding dir_take_data
  data-claims_other words t (leaf_node v) = tt
  data-claims_other words t (dir_node d ns) = (refl, (refl, (refl, dir-same y s d (dir_take_data x words t d) (hold-other x y _ d ne) (pushed-same d.down _ refl))))

  pub exclusive-claims_other : (t : Stamp) (n : Node) → KidClaims y s n (child_take_exclusive x t n)
  unfolding dir_take_exclusive
  exclusive-claims_other t (leaf_node v) = tt
  exclusive-claims_other t (dir_node d ns) = (refl, (refl, (refl, dir-same y s d (dir_take_exclusive x t d) (hold-other x y _ d ne) (pushed-same d.down _ refl))))

  pub inject-claims_other : (words : List ℕ) (t : Stamp) (n : Node) → KidClaims y s n (child_take_inject x words t n)
  unfolding dir_take_inject
  inject-claims_other words t (leaf_node v) = tt
  inject-claims_other words t (dir_node d ns) = (refl, (refl, (refl, dir-same y s d (dir_take_inject x words t d) (hold-other x y _ d ne) (pushed-same d.down _ refl))))

  pub gone-claims_other : (n : Node) → KidClaims y s n (child_give_up x n)
  gone-claims_other (leaf_node v) = tt
  gone-claims_other (dir_node d ns) = (refl, (refl, (refl, dir-same y s d (dir_give_up x d) (hold-other x y _ d ne) (λ above. refl))))

  pub lose-claims_other : (t : Stamp) (n : Node) → KidClaims y s n (child_lose x t n)
  unfolding dir_lose
  lose-claims_other t (leaf_node v) = tt
  lose-claims_other t (dir_node d ns) = (refl, (refl, (refl, dir-same y s d (dir_lose x t d) (hold (is_held (dir_hold x d))) (queue (is_held (dir_hold x d)))))) where
    hold : (b : Bool) → (slice_index_or (if◌then◌else◌ b (slice_set d.items x (record (dir_item x d) { hold = Hold.Invalid })) d.items) y absent_item).hold ≡ dir_hold y d
    hold true = hold-other x y _ d ne
    hold false = refl

    queue : (b : Bool) (above : List ℕ) → last_exclusive above (queue_of y (if◌then◌else◌ b (d.down ++ record { kind = EraseTx; item = x; words = blank d.sizes.width; stamp = t } ∷ []) d.down)) ≡ last_exclusive above (queue_of y d.down)
    queue true above = pushed-same d.down _ refl above
    queue false above = refl

-- ---- of any item

kept-again : (y : ℕ) (s : Stamp) (d e b : DirValue) → DirClaim y s d e → DirClaim y s e b → DirClaim y s d b
kept-again y s d e b f g is =
    elim (g is) as (λ _. ((is_exclusive (dir_hold y d) ≡ true) × ((above : List ℕ) → last_exclusive above (queue_of y b.down) ≡ last_exclusive above (queue_of y d.down))) ⊎ ((above : List ℕ) → last_exclusive above (queue_of y b.down) ≡ Some (moment_at above s))) [
      | inr told ↦ inr told
      | inl kept ↦
          elim (f kept.0) as (λ _. ((is_exclusive (dir_hold y d) ≡ true) × ((above : List ℕ) → last_exclusive above (queue_of y b.down) ≡ last_exclusive above (queue_of y d.down))) ⊎ ((above : List ℕ) → last_exclusive above (queue_of y b.down) ≡ Some (moment_at above s))) [
            | inl more ↦ inl (more.0, λ above. kept.1 above ∙ more.1 above)
            | inr told ↦ inr (λ above. kept.1 above ∙ told above)
          ]
    ]

pub claims-again : (y : ℕ) (s : Stamp) (n m k : Node) → KidClaims y s n m → KidClaims y s m k → KidClaims y s n k
claims-again y s (leaf_node v) (leaf_node w) (leaf_node u) f g = tt
claims-again y s (leaf_node v) (leaf_node w) (dir_node e ms) f g = absurd g
claims-again y s (leaf_node v) (dir_node e ms) k f g = absurd f
claims-again y s (dir_node d ns) (leaf_node w) k f g = absurd f
claims-again y s (dir_node d ns) (dir_node e ms) (leaf_node u) f g = absurd g
claims-again y s (dir_node d ns) (dir_node e ms) (dir_node b ks) f g = (g.0 ∙ f.0, (g.1.0 ∙ f.1.0, (g.1.1.0 ∙ f.1.1.0, kept-again y s d e b f.1.1.1 g.1.1.1)))

module _ (x y : ℕ) (s : Stamp) where
  any-item : (m k : Node) → (KidClaims x s m k) → (y ≢ x → KidClaims y s m k) → KidClaims y s m k
  any-item m k own other = by (ℕ_discrete y x) where
    by : Dec (y ≡ x) → KidClaims y s m k
    by (yes same) = subst (λ z. KidClaims z s m k) (sym same) own
    by (no ne) = other ne

  pub answer-any : (t : Stamp) (n : Node) → KidClaims y s n (child_answer x t n)
  answer-any t n = any-item n _ (answer-claims x s t n) (λ ne. answer-claims_other x y s ne t n)

  pub data-any : (words : List ℕ) (t : Stamp) (n : Node) → KidClaims y s n (child_take_data x words t n)
  data-any words t n = any-item n _ (data-claims x s words t n) (λ ne. data-claims_other x y s ne words t n)

  pub exclusive-any : (n : Node) → KidClaims y s n (child_take_exclusive x s n)
  exclusive-any n = any-item n _ (exclusive-claims x s n) (λ ne. exclusive-claims_other x y s ne s n)

  pub inject-any : (words : List ℕ) (n : Node) → KidClaims y s n (child_take_inject x words s n)
  inject-any words n = any-item n _ (inject-claims x s words n) (λ ne. inject-claims_other x y s ne words s n)

  pub gone-any : (n : Node) → KidClaims y s n (child_give_up x n)
  gone-any n = any-item n _ (gone-claims x s n) (λ ne. gone-claims_other x y s ne n)

  pub lose-any : (t : Stamp) (n : Node) → KidClaims y s n (child_lose x t n)
  lose-any t n = any-item n _ (lose-claims x s t n) (λ ne. lose-claims_other x y s ne t n)

-- ---- what a parent holds of any item

pub holds-by : (x y : ℕ) (i : DirItem) (d : DirValue) → (is_exclusive i.hold ≡ true → is_exclusive (dir_hold x d) ≡ true) → is_exclusive (dir_hold y (with_item x i d)) ≡ true → is_exclusive (dir_hold y d) ≡ true
holds-by x y i d kept is = by (ℕ_discrete y x) where
  by : Dec (y ≡ x) → is_exclusive (dir_hold y d) ≡ true
  by (no ne) = ap is_exclusive (sym (hold-other x y i d ne)) ∙ is
  by (yes same) =
      let own : is_exclusive (dir_hold x (with_item x i d)) ≡ true = subst (λ z. is_exclusive (dir_hold z (with_item x i d)) ≡ true) same is in
      subst (λ z. is_exclusive (dir_hold z d) ≡ true) (sym same) (elim (set-at d.items x i) as (λ _. is_exclusive (dir_hold x d) ≡ true) [ inl e ↦ kept (ap (λ (j : DirItem). is_exclusive j.hold) (sym e) ∙ own) | inr e ↦ absurd (let wrong : false ≡ true = ap (λ (j : DirItem). is_exclusive j.hold) (sym e) ∙ own in cc) ])
