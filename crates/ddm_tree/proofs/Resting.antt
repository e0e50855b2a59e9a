-- What is remembered of harts after a look at their leaves.
-- Letters: k, m and j numbers of leaves, i why a hart is idle, o what is remembered of one, n the tree, p and q paths.
-- An item that a grant may have answered is o, too.
use Rattle.std.proofs.Common.{◌≡◌, ◌≢◌, ◌⊎◌, ℕ, zero, suc, ◌+◌, ◌<◌, ◌≤◌, inl, inr, Bool, true, false, List, [], ◌∷◌, ◌++◌, length, map, Option, Some, None, refl, sym, ap, subst, ◌∙◌, arith}
use Rattle.std.specs.Prelude.{IfSome, nat_lt, slice_get, slice_set}
use Rattle.std.proofs.lemmas.Bool.{ltb-true, ltb-false}
use Rattle.std.proofs.lemmas.List.{set_past}
use Rattle.std.proofs.lemmas.Option.{none-some, same_Some, slice_get_past}
use native.Mathlib.Decide.{ℕ_discrete}
use Rattle.ddm_tree.specs.DdmTypes.declared.answers.LogEntry.{LogEntry}
use Rattle.ddm_tree.specs.DdmTypes.declared.answers.TurnAnswer.{TurnAnswer}
use Rattle.ddm_tree.specs.DdmTypes.declared.turns.Turn.{Turn}
use Rattle.ddm_tree.specs.TreeModel.State.Values.{Node}
use Rattle.ddm_tree.specs.TreeModel.Turns.Machine.{named_by}
use Rattle.ddm_tree.specs.TreeModel.Turns.Tree.{leaf_of_number, bus_of_number}
use Rattle.ddm_tree.specs.declared.idle.Idle.{Idle}
use Rattle.ddm_tree.specs.Idle.{AreNoted, AreSeen, IsFarFrom, IsKnown, IsLeftOut, IsLooked, IsLookedAfter, IsNoChild, IsSeen, IsSeenOr, NoneChanges, answered_by, idle_there, idle_told, is_seen, is_told, may_change, node_rests, still_known, with_idle}
use Rattle.ddm_tree.specs.Path.{node_at}
use Rattle.ddm_tree.specs.Quiet.{IsNoneOf, touches_child}
use Rattle.ddm_tree.specs.Ready.{Leads}
use Rattle.ddm_tree.proofs.KeysRising.{set-here, set-other}
use Rattle.ddm_tree.proofs.QuietNear.{none-next}

-- ---- leaves of which nothing that is known may change

module _ (o : Option ℕ) (leaves : List ℕ) (idle : List (Option Idle)) where
  pub unchanged-none : NoneChanges o 0 leaves idle
  unchanged-none = record { each = λ k i known. inl (λ place below. absurd (omega (arith, below))) }

  -- and one more
  module _ (count m : ℕ) (at : slice_get leaves count ≡ Some m) (stays : may_change (idle_there (slice_get idle m)) o ≡ false) (none : NoneChanges o count leaves idle) where
    unchanged-other : (k : ℕ) (i : Idle) → k ≢ m → IsNoneOf k count leaves ⊎ (may_change (Some i) o ≡ false) → IsNoneOf k (count + 1) leaves ⊎ (may_change (Some i) o ≡ false)
    unchanged-other k i other (inl apart) = inl (none-next k m count leaves at other apart)
    unchanged-other k i other (inr same) = inr same

    unchanged-by : (k : ℕ) (i : Idle) → Dec (k ≡ m) → slice_get idle k ≡ Some (Some i) → IsNoneOf k (count + 1) leaves ⊎ (may_change (Some i) o ≡ false)
    unchanged-by k i (yes own) known = inr (sym (ap (λ known. may_change (idle_there known) o) (ap (slice_get idle) (sym own) ∙ known)) ∙ stays)
    unchanged-by k i (no other) known = unchanged-other k i other (none.each k i known)

    pub unchanged-more : NoneChanges o (count + 1) leaves idle
    unchanged-more = record { each = λ k i known. unchanged-by k i (ℕ_discrete k m) known }

module _ (paths : List (List ℕ)) (n : Node) where
  -- what the leaf tells, where its path is known
  pub seen-listed : (k : ℕ) (p : List ℕ) (i : Idle) → slice_get paths k ≡ Some p → node_rests (node_at p n) ≡ Some i → IsSeen k paths n i
  seen-listed k p i listed rests = λ q there. subst (λ r. node_rests (node_at r n) ≡ Some i) (same_Some p q (sym listed ∙ there)) rests

  pub rest-seen : (k : ℕ) (p : List ℕ) (o : Option Idle) → slice_get paths k ≡ Some p → IfSome o (λ i. node_rests (node_at p n) ≡ Some i) → IfSome o (λ i. IsSeen k paths n i)
  rest-seen k p None listed rests = rests
  rest-seen k p (Some i) listed rests = seen-listed k p i listed rests

  -- ---- one leaf

  looked-inside : (k : ℕ) (o : Option Idle) (before : List (Option Idle)) → k < length before → ((i : Idle) → o ≡ Some i → IsSeen k paths n i) → IsLooked k paths n before (slice_set before k o)
  looked-inside k o before inside tells = record {
    own = λ i known. tells i (same_Some o (Some i) (sym (set-here before k o inside) ∙ known));
    others = λ j i other known. sym (set-other before k j o other) ∙ known;
  }

  looked-past : (k : ℕ) (o : Option Idle) (before : List (Option Idle)) → length before ≤ k → IsLooked k paths n before (slice_set before k o)
  looked-past k o before past = rw (set_past before k o past) (record {
    own = λ i known. absurd (none-some (Some i) (sym (slice_get_past before k past) ∙ known));
    others = λ j i other known. known;
  })

  looked-by : (k : ℕ) (o : Option Idle) (before : List (Option Idle)) → ((i : Idle) → o ≡ Some i → IsSeen k paths n i) → (b : Bool) → nat_lt k (length before) ≡ b → IsLooked k paths n before (slice_set before k o)
  looked-by k o before tells true e = looked-inside k o before (ltb-true _ _ e) tells
  looked-by k o before tells false e = looked-past k o before (ltb-false _ _ e)

  pub looked-put : (k : ℕ) (o : Option Idle) (before : List (Option Idle)) → IfSome o (λ i. IsSeen k paths n i) → IsLooked k paths n before (slice_set before k o)
  looked-put k o before tells = looked-by k o before (λ i is. seen-some i (subst (λ p. IfSome p (λ i. IsSeen k paths n i)) is tells)) (nat_lt k (length before)) refl
    where
      seen-some : (i : Idle) → IfSome (Some i) (λ i. IsSeen k paths n i) → IsSeen k paths n i
      seen-some i tells = tells

  -- ---- after a grant of an item

  -- where what is known may have changed, and the leaf was looked at
  pub after-looked : (o : Option ℕ) (k : ℕ) (before after : List (Option Idle)) → IsLooked k paths n before after → IsLookedAfter o k paths n before after
  after-looked o k before after looked = record { own = λ i known. inl (looked.own i known); others = looked.others }

  -- where it may not
  pub after-kept : (o : Option ℕ) (k : ℕ) (before : List (Option Idle)) → may_change (idle_there (slice_get before k)) o ≡ false → IsLookedAfter o k paths n before before
  after-kept o k before stays = record {
    own = λ i known. inr (known, sym (ap (λ known. may_change (idle_there known) o) known) ∙ stays);
    others = λ j i other known. known;
  }

  -- ---- the leaves of a list

  pub seen-none : (o : Option ℕ) (leaves : List ℕ) (before : List (Option Idle)) → AreSeen o (λ k. IsNoneOf k 0 leaves) paths n before before
  seen-none o leaves before = record { each = λ k i known. inr (known, inl (λ place below. absurd (omega (arith, below)))) }

  -- where nothing that is known may have changed
  pub seen-unchanged : (o : Option ℕ) (leaves : List ℕ) (before : List (Option Idle)) → NoneChanges o (length leaves) leaves before → AreSeen o (λ k. IsNoneOf k (length leaves) leaves) paths n before before
  seen-unchanged o leaves before none = record { each = λ k i known. inr (known, none.each k i known) }

  module _ (o : Option ℕ) (count m : ℕ) (leaves : List ℕ) (before mid after : List (Option Idle)) (at : slice_get leaves count ≡ Some m) (seen : AreSeen o (λ k. IsNoneOf k count leaves) paths n before mid) (one : IsLookedAfter o m paths n mid after) where
    abbrev Stays : Idle → Type 0
    Stays i = may_change (Some i) o ≡ false

    none-or : (k : ℕ) (i : Idle) → k ≢ m → IsNoneOf k count leaves ⊎ Stays i → IsNoneOf k (count + 1) leaves ⊎ Stays i
    none-or k i other (inl none) = inl (none-next k m count leaves at other none)
    none-or k i other (inr stays) = inr stays

    seen-kept : (k : ℕ) (i : Idle) → k ≢ m → IsSeenOr (IsNoneOf k count leaves ⊎ Stays i) k paths n before i → IsSeenOr (IsNoneOf k (count + 1) leaves ⊎ Stays i) k paths n before i
    seen-kept k i other (inl tells) = inl tells
    seen-kept k i other (inr kept) = inr (kept.0, none-or k i other kept.1)

    -- the leaf that was looked at, or needed no look
    seen-stays : (k : ℕ) (i : Idle) → Stays i → IsSeenOr (IsNoneOf k count leaves ⊎ Stays i) k paths n before i → IsSeenOr (IsNoneOf k (count + 1) leaves ⊎ Stays i) k paths n before i
    seen-stays k i stays (inl tells) = inl tells
    seen-stays k i stays (inr kept) = inr (kept.0, inr stays)

    seen-own : (i : Idle) → IsSeenOr (Stays i) m paths n mid i → IsSeenOr (IsNoneOf m (count + 1) leaves ⊎ Stays i) m paths n before i
    seen-own i (inl tells) = inl tells
    seen-own i (inr kept) = seen-stays m i kept.1 (seen.each m i kept.0)

    seen-next : (k : ℕ) (i : Idle) → Dec (k ≡ m) → slice_get after k ≡ Some (Some i) → IsSeenOr (IsNoneOf k (count + 1) leaves ⊎ Stays i) k paths n before i
    seen-next k i (yes own) known = subst (λ j. IsSeenOr (IsNoneOf j (count + 1) leaves ⊎ Stays i) j paths n before i) (sym own) (seen-own i (one.own i (ap (slice_get after) (sym own) ∙ known)))
    seen-next k i (no other) known = seen-kept k i other (seen.each k i (one.others k i other known))

    pub seen-more : AreSeen o (λ k. IsNoneOf k (count + 1) leaves) paths n before after
    seen-more = record { each = λ k i known. seen-next k i (ℕ_discrete k m) known }

-- ---- the leaf that is a child of a bus

module _ (paths : List (List ℕ)) (n : Node) (o : Option ℕ) where
  -- none was looked at
  pub seen-others : (Others : ℕ → Type 0) (before : List (Option Idle)) → ((k : ℕ) → Others k) → AreSeen o Others paths n before before
  seen-others Others before others = record { each = λ k i known. inr (known, inl (others k)) }

  -- one was
  module _ (Others : ℕ → Type 0) (m : ℕ) (before after : List (Option Idle)) (others : (k : ℕ) → k ≢ m → Others k) (one : IsLookedAfter o m paths n before after) where
    own-seen : (i : Idle) → IsSeenOr (may_change (Some i) o ≡ false) m paths n before i → IsSeenOr (Others m ⊎ (may_change (Some i) o ≡ false)) m paths n before i
    own-seen i (inl tells) = inl tells
    own-seen i (inr kept) = inr (kept.0, inr kept.1)

    one-at : (k : ℕ) (i : Idle) → Dec (k ≡ m) → slice_get after k ≡ Some (Some i) → IsSeenOr (Others k ⊎ (may_change (Some i) o ≡ false)) k paths n before i
    one-at k i (yes own) known = subst (λ j. IsSeenOr (Others j ⊎ (may_change (Some i) o ≡ false)) j paths n before i) (sym own) (own-seen i (one.own i (ap (slice_get after) (sym own) ∙ known)))
    one-at k i (no other) known = inr (one.others k i other known, inl (others k other))

    pub seen-one : AreSeen o Others paths n before after
    seen-one = record { each = λ k i known. one-at k i (ℕ_discrete k m) known }

  -- two were
  module _ (A B : ℕ → Type 0) (before mid after : List (Option Idle)) (first : AreSeen o A paths n before mid) where
    abbrev Stay : Idle → Type 0
    Stay i = may_change (Some i) o ≡ false

    then-by : (k : ℕ) (i : Idle) → B k ⊎ Stay i → A k ⊎ Stay i → (A k × B k) ⊎ Stay i
    then-by k i (inr stays) a = inr stays
    then-by k i (inl b) (inr stays) = inr stays
    then-by k i (inl b) (inl a) = inl (a, b)

    then-kept : (k : ℕ) (i : Idle) → B k ⊎ Stay i → IsSeenOr (A k ⊎ Stay i) k paths n before i → IsSeenOr ((A k × B k) ⊎ Stay i) k paths n before i
    then-kept k i b (inl tells) = inl tells
    then-kept k i b (inr kept) = inr (kept.0, then-by k i b kept.1)

    then-at : (k : ℕ) (i : Idle) → IsSeenOr (B k ⊎ Stay i) k paths n mid i → IsSeenOr ((A k × B k) ⊎ Stay i) k paths n before i
    then-at k i (inl tells) = inl tells
    then-at k i (inr kept) = then-kept k i kept.1 (first.each k i kept.0)

    pub seen-then : AreSeen o B paths n mid after → AreSeen o (λ k. A k × B k) paths n before after
    seen-then second = record { each = λ k i known. then-at k i (second.each k i known) }

  module _ (A B : ℕ → Type 0) (before after : List (Option Idle)) (more : (k : ℕ) → A k → B k) where
    more-by : (k : ℕ) (i : Idle) → A k ⊎ (may_change (Some i) o ≡ false) → B k ⊎ (may_change (Some i) o ≡ false)
    more-by k i (inl a) = inl (more k a)
    more-by k i (inr stays) = inr stays

    more-at : (k : ℕ) (i : Idle) → IsSeenOr (A k ⊎ (may_change (Some i) o ≡ false)) k paths n before i → IsSeenOr (B k ⊎ (may_change (Some i) o ≡ false)) k paths n before i
    more-at k i (inl tells) = inl tells
    more-at k i (inr kept) = inr (kept.0, more-by k i kept.1)

    pub seen-fewer : AreSeen o A paths n before after → AreSeen o B paths n before after
    seen-fewer seen = record { each = λ k i known. more-at k i (seen.each k i known) }

-- two children of a bus
module _ (first second : Option ℕ) (p : List ℕ) (n : Node) (k : ℕ) where
  abbrev Neither : Type 0
  Neither = IsNoChild (λ c. first ≡ Some c) p n k × IsNoChild (λ c. second ≡ Some c) p n k

  neither-by : Neither → (c : ℕ) → (first ≡ Some c) ⊎ (second ≡ Some c) → Leads (leaf_of_number k) (p ++ c ∷ []) n → ⊥
  neither-by none c (inl is) = none.0 c is
  neither-by none c (inr is) = none.1 c is

  pub no-two : Neither → IsNoChild (λ c. (first ≡ Some c) ⊎ (second ≡ Some c)) p n k
  no-two none = λ c is. neither-by none c is

-- ---- after a turn

-- no list stands there
pub unlisted-there : {X : Type 0} (f : X → List ℕ) (xs : List X) (k : ℕ) → length xs ≤ k → slice_get (map f xs) k ≡ None
unlisted-there f [] k past = refl
unlisted-there f (x ∷ xs) zero past = absurd (omega (arith, past))
unlisted-there f (x ∷ xs) (suc k) past = unlisted-there f xs k (omega (arith, past))

module _ (a : TurnAnswer) (bus_leaves bus_paths paths : List (List ℕ)) (n : Node) (before : List (Option Idle)) where
  same-bus : (b c : ℕ) → bus_of_number b ≡ bus_of_number c → b ≡ c
  same-bus b c e = cc

  no-bus : (k b : ℕ) → leaf_of_number k ≡ bus_of_number b → ⊥
  no-bus k b e = cc

  one-answer : (entry : LogEntry) → a ≡ TurnAnswer.Granted entry → (other : LogEntry) → a ≡ TurnAnswer.Granted other → answered_by other ≡ answered_by entry
  one-answer entry grants other is =
      let both : TurnAnswer.Granted other ≡ TurnAnswer.Granted entry = sym is ∙ grants in
      let same : other ≡ entry = cc in
      ap answered_by same

  -- of a bus that has a list of leaves
  module _ (t : Turn) (bus : ℕ) (named : named_by t ≡ bus_of_number bus) where
    far-or : (o : Option ℕ) (leaves : List ℕ) (k : ℕ) (i : Idle) → slice_get bus_leaves bus ≡ Some leaves → IsNoneOf k (length leaves) leaves ⊎ (may_change (Some i) o ≡ false) → IsFarFrom bus_leaves bus k ⊎ (IsLeftOut a bus_paths n bus k ⊎ (may_change (Some i) o ≡ false))
    far-or o leaves k i listed (inl none) = inl (λ others there. subst (λ xs. IsNoneOf k (length xs) xs) (same_Some leaves others (sym listed ∙ there)) none)
    far-or o leaves k i listed (inr stays) = inr (inr stays)

    seen-known : (o : Option ℕ) (leaves : List ℕ) (k : ℕ) (i : Idle) → ((entry : LogEntry) → a ≡ TurnAnswer.Granted entry → answered_by entry ≡ o) → slice_get bus_leaves bus ≡ Some leaves → IsSeenOr (IsNoneOf k (length leaves) leaves ⊎ (may_change (Some i) o ≡ false)) k paths n before i → IsKnown t a bus_leaves bus_paths paths n before k i
    seen-known o leaves k i answered listed (inl tells) = is_seen tells
    seen-known o leaves k i answered listed (inr kept) =
        still_known kept.0 (λ entry other grants is.
        let same : other ≡ bus = same-bus other bus (sym is ∙ named) in
        subst (λ y. IsFarFrom bus_leaves other k ⊎ (IsLeftOut a bus_paths n other k ⊎ (may_change (Some i) y ≡ false))) (sym (answered entry grants)) (subst (λ b. IsFarFrom bus_leaves b k ⊎ (IsLeftOut a bus_paths n b k ⊎ (may_change (Some i) o ≡ false))) (sym same) (far-or o leaves k i listed kept.1)))

    pub noted-seen : (entry : LogEntry) (leaves : List ℕ) (after : List (Option Idle)) → a ≡ TurnAnswer.Granted entry → slice_get bus_leaves bus ≡ Some leaves → AreSeen (answered_by entry) (λ k. IsNoneOf k (length leaves) leaves) paths n before after → AreNoted t a bus_leaves bus_paths paths n before after
    noted-seen entry leaves after grants listed seen = record { each = λ k i known. seen-known (answered_by entry) leaves k i (one-answer entry grants) listed (seen.each k i known) }

    pub noted-unlisted : slice_get bus_leaves bus ≡ None → AreNoted t a bus_leaves bus_paths paths n before before
    noted-unlisted none = record {
      each = λ k i known. still_known known (λ entry other grants is. inl (λ others there.
          absurd (none-some others (sym none ∙ ap (slice_get bus_leaves) (sym (same-bus other bus (sym is ∙ named))) ∙ there))));
    }

    -- where the children that were touched were looked at
    module _ (o : Option ℕ) (p : List ℕ) (Among : ℕ → Type 0) (all : (c : ℕ) → touches_child c a ≡ true → Among c) (listed : slice_get bus_paths bus ≡ Some p) where
      left-out : (k other : ℕ) → other ≡ bus → IsNoChild Among p n k → IsLeftOut a bus_paths n other k
      left-out k other same none = λ q there c touched leads.
          let path : q ≡ p = same_Some q p (sym there ∙ ap (slice_get bus_paths) same ∙ listed) in
          none c (all c touched) (subst (λ r. Leads (leaf_of_number k) (r ++ c ∷ []) n) path leads)

      out-or : (k other : ℕ) (i : Idle) → other ≡ bus → IsNoChild Among p n k ⊎ (may_change (Some i) o ≡ false) → IsFarFrom bus_leaves other k ⊎ (IsLeftOut a bus_paths n other k ⊎ (may_change (Some i) o ≡ false))
      out-or k other i same (inl none) = inr (inl (left-out k other same none))
      out-or k other i same (inr stays) = inr (inr stays)

      child-known : (k : ℕ) (i : Idle) → ((entry : LogEntry) → a ≡ TurnAnswer.Granted entry → answered_by entry ≡ o) → IsSeenOr (IsNoChild Among p n k ⊎ (may_change (Some i) o ≡ false)) k paths n before i → IsKnown t a bus_leaves bus_paths paths n before k i
      child-known k i answered (inl tells) = is_seen tells
      child-known k i answered (inr kept) = still_known kept.0 (λ entry other grants is.
          subst (λ y. IsFarFrom bus_leaves other k ⊎ (IsLeftOut a bus_paths n other k ⊎ (may_change (Some i) y ≡ false))) (sym (answered entry grants)) (out-or k other i (same-bus other bus (sym is ∙ named)) kept.1))

    pub noted-children : (entry : LogEntry) (p : List ℕ) (Among : ℕ → Type 0) (after : List (Option Idle)) → a ≡ TurnAnswer.Granted entry → ((c : ℕ) → touches_child c a ≡ true → Among c) → slice_get bus_paths bus ≡ Some p → AreSeen (answered_by entry) (IsNoChild Among p n) paths n before after → AreNoted t a bus_leaves bus_paths paths n before after
    noted-children entry p Among after grants all listed seen = record { each = λ k i known. child-known (answered_by entry) p Among all listed k i (one-answer entry grants) (seen.each k i known) }

    pub noted-pathless : slice_get bus_paths bus ≡ None → AreNoted t a bus_leaves bus_paths paths n before before
    noted-pathless none = record {
      each = λ k i known. still_known known (λ entry other grants is. inr (inl (λ p there.
          absurd (none-some p (sym none ∙ ap (slice_get bus_paths) (sym (same-bus other bus (sym is ∙ named))) ∙ there)))));
    }

  -- of a hart whose leaf was looked at
  module _ (t : Turn) (hart : ℕ) (named : named_by t ≡ leaf_of_number hart) where
    hart-known : (k : ℕ) (i : Idle) → slice_get before k ≡ Some (Some i) → IsKnown t a bus_leaves bus_paths paths n before k i
    hart-known k i known = still_known known (λ entry bus grants is. absurd (no-bus hart bus (sym named ∙ is)))

    looked-known : (after : List (Option Idle)) (k : ℕ) (i : Idle) → IsLooked hart paths n before after → Dec (k ≡ hart) → slice_get after k ≡ Some (Some i) → IsKnown t a bus_leaves bus_paths paths n before k i
    looked-known after k i looked (yes own) known = is_seen (subst (λ j. IsSeen j paths n i) (sym own) (looked.own i (ap (slice_get after) (sym own) ∙ known)))
    looked-known after k i looked (no other) known = hart-known k i (looked.others k i other known)

    pub noted-looked : (after : List (Option Idle)) → IsLooked hart paths n before after → AreNoted t a bus_leaves bus_paths paths n before after
    noted-looked after looked = record { each = λ k i known. looked-known after k i looked (ℕ_discrete k hart) known }

    told-known : (told : Idle) (k : ℕ) (i : Idle) → idle_told a ≡ Some told → Dec (k ≡ hart) → (b : Bool) → nat_lt hart (length before) ≡ b → slice_get (slice_set before hart (Some told)) k ≡ Some (Some i) → IsKnown t a bus_leaves bus_paths paths n before k i
    told-known told k i says (no other) b e known = hart-known k i (sym (set-other before hart k (Some told) other) ∙ known)
    told-known told k i says (yes own) true e known =
        let here : Some told ≡ Some i = same_Some (Some told) (Some i) (sym (set-here before hart (Some told) (ltb-true _ _ e)) ∙ ap (slice_get (slice_set before hart (Some told))) (sym own) ∙ known) in
        is_told (named ∙ ap leaf_of_number (sym own)) (says ∙ here)
    told-known told k i says (yes own) false e known = hart-known k i (ap (λ xs. slice_get xs k) (sym (set_past before hart (Some told) (ltb-false _ _ e))) ∙ known)

  told-ungranted : (i : Idle) (entry : LogEntry) → idle_told a ≡ Some i → a ≡ TurnAnswer.Granted entry → ⊥
  told-ungranted i entry says grants = none-some i (sym (ap idle_told grants) ∙ says)

  told-bus : (t : Turn) (told : Idle) → idle_told a ≡ Some told → AreNoted t a bus_leaves bus_paths paths n before before
  told-bus t told says = record { each = λ k i known. still_known known (λ entry bus grants is. absurd (told-ungranted told entry says grants)) }

  -- of a turn that told why its hart is idle
  pub noted-told : (t : Turn) (told : Idle) → idle_told a ≡ Some told → AreNoted t a bus_leaves bus_paths paths n before (with_idle t told before)
  noted-told (Turn.Hart hart victim) told says = record { each = λ k i known. told-known (Turn.Hart hart victim) hart refl told k i says (ℕ_discrete k hart) (nat_lt hart (length before)) refl known }
  noted-told (Turn.Down bus) told says = told-bus (Turn.Down bus) told says
  noted-told (Turn.Request bus child) told says = told-bus (Turn.Request bus child) told says
  noted-told (Turn.Reply bus child) told says = told-bus (Turn.Reply bus child) told says
  noted-told (Turn.Leave bus child choice) told says = told-bus (Turn.Leave bus child choice) told says
