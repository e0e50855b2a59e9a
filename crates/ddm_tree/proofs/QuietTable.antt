-- What a machine knows of the turns of its buses and harts: what a single write or a walk through the tree makes of it.
-- Letters: e and f are what is known under a number, k and j numbers of buses or harts, c, i a child, n a node, t a turn, p, q and r
-- paths, a an answer, o why a hart is idle or what is known of it, busy whether a turn is busy, A and B the turns of buses that are
-- learned.
use Rattle.std.proofs.Common.{◌≡◌, ◌≢◌, ℕ, zero, suc, ◌+◌, ◌*◌, ◌<◌, ◌≤◌, ◌++◌, ◌⊎◌, inl, inr, Bool, true, false, List, [], ◌∷◌, length, Option, Some, None, refl, sym, ap, subst, ◌∙◌, arith}
use Rattle.std.specs.Prelude.{nat_lt, replicate, slice_get, slice_index_or, slice_set}
use Rattle.std.proofs.lemmas.Bool.{ltb-true, ltb-false}
use Rattle.std.proofs.lemmas.Option.{none-some, same_Some, slice_get_past}
use native.Mathlib.Decide.{ℕ_discrete}
use Rattle.ddm_tree.specs.DdmTypes.declared.answers.TurnAnswer.{TurnAnswer}
use Rattle.ddm_tree.specs.TreeModel.declared.BusTurn.{BusTurn}
use Rattle.ddm_tree.specs.TreeModel.State.Values.{DirValue, Node, Nodes, dir_node, children}
use Rattle.ddm_tree.specs.TreeModel.Turns.Children.{child_at}
use Rattle.ddm_tree.specs.declared.idle.Idle.{Idle}
use Rattle.ddm_tree.specs.declared.quiet.Known.{Known}
use Rattle.ddm_tree.specs.Path.{node_at}
use Rattle.ddm_tree.specs.Quiet.{AreLearned, AreLearnedBelow, AreSame, Entry, HartsAgree, IsAsBefore, IsBlank, IsHartNoted, IsLearned, IsRight, IsRightThere, IsTouched, KeepsBuses, KeepsHarts, OfChild, OfNamed, OfTouched, OfTwo, busy_at, busy_if, busy_of, bus_in, entry_at, entry_there, hart_as, idle_as, idle_as_there, touches_child}
use Rattle.ddm_tree.proofs.KeysRising.{set-here, set-other}
use Rattle.ddm_tree.proofs.QuietIndex.{blank-entry, busy-few, empty-entry, known-here, known-index, right-none, row-other, with_known}
use Rattle.ddm_tree.proofs.QuietNear.{below-next}

-- ---- an entry that is put, and the others

entry-put : (k : ℕ) (before : List Entry) (f : Entry) → k < length before → entry_at k (slice_set before k f) ≡ f
entry-put k before f inside = ap entry_there (set-here before k f inside)

entry-other : (k j : ℕ) (before : List Entry) (f : Entry) → j ≢ k → entry_at j (slice_set before k f) ≡ entry_at j before
entry-other k j before f other = ap entry_there (set-other before k j f other)

pub entry-past : (k : ℕ) (known : List Entry) → length known ≤ k → entry_at k known ≡ []
entry-past k known past = ap entry_there (slice_get_past known k past)

entry-index : (known : List Entry) (k : ℕ) → slice_index_or known k [] ≡ entry_at k known
entry-index [] k = refl
entry-index (e ∷ known) zero = refl
entry-index (e ∷ known) (suc k) = entry-index known k

-- a place that is looked at
entry-inside : (known : List Entry) (k : ℕ) (e : Entry) → k < length known → slice_index_or known k e ≡ entry_at k known
entry-inside [] k e inside = absurd (omega (arith, inside))
entry-inside (f ∷ known) zero e inside = refl
entry-inside (f ∷ known) (suc k) e inside = entry-inside known k e (omega (arith, inside))

pub place-inside : (known : List Entry) (k r c : ℕ) (e : Entry) → c < 16 → k < length known → e ≡ slice_index_or known k e → busy_if (slice_index_or e (r * 16 + c) Known.Nothing) ≡ busy_at r c (entry_at k known)
place-inside known k r c e few inside is = ap busy_if (known-index e (r * 16 + c)) ∙ sym (busy-few r c e few) ∙ ap (busy_at r c) (is ∙ entry-inside known k e inside)

-- ---- the bus at the node itself

module _ (A : BusTurn → Type 0) (k : ℕ) (n : Node) (number : bus_in n ≡ Some k) where
  abbrev AtNode : List ℕ → BusTurn → Type 0
  AtNode q t = (q ≡ []) × A t

  -- another number is that of another bus
  not-here : (j : ℕ) → j ≢ k → (t : BusTurn) (q : List ℕ) → bus_in (node_at q n) ≡ Some j → AtNode q t → ⊥
  not-here j other t q is at = other (same_Some j k (sym is ∙ ap (λ r. bus_in (node_at r n)) at.0 ∙ number))

  module _ (before : List Entry) (f : Entry) (inside : k < length before) (learned : AreLearned A n (slice_index_or before k []) f) where
    own-put : (t : BusTurn) → IsLearned (A t) t n (slice_index_or before k []) f → IsAsBefore AtNode k t n before (slice_set before k f) ⊎ IsRightThere k t n (slice_set before k f)
    own-put t (inl same) = inl (record { same = ap (busy_of t) (entry-put k before f inside) ∙ same.0 ∙ ap (busy_of t) (entry-index before k); none = λ q is at. same.1 at.1 })
    own-put t (inr right) = inr (record { path = []; number = number; right = subst (λ e. IsRight t e n) (sym (entry-put k before f inside)) right })

    each-put : (j : ℕ) (t : BusTurn) → Dec (j ≡ k) → IsAsBefore AtNode j t n before (slice_set before k f) ⊎ IsRightThere j t n (slice_set before k f)
    each-put j t (yes is) = subst (λ i. IsAsBefore AtNode i t n before (slice_set before k f) ⊎ IsRightThere i t n (slice_set before k f)) (sym is) (own-put t (learned.each t))
    each-put j t (no other) = inl (record { same = ap (busy_of t) (entry-other k j before f other); none = not-here j other t })

    pub node-put : AreLearnedBelow AtNode n before (slice_set before k f)
    node-put = record { each = λ j t. each-put j t (ℕ_discrete j k) }

    hart-put : (j : ℕ) → Dec (j ≡ k) → hart_as j (slice_set before k f) ≡ hart_as j before
    hart-put j (yes is) = ap (λ i. hart_as i (slice_set before k f)) is ∙ ap (busy_at 0 0) (entry-put k before f inside) ∙ learned.hart ∙ ap (busy_at 0 0) (entry-index before k) ∙ ap (λ i. hart_as i before) (sym is)
    hart-put j (no other) = ap (busy_at 0 0) (entry-other k j before f other)

    pub harts-put : KeepsHarts before (slice_set before k f)
    harts-put = record { each = λ j. hart-put j (ℕ_discrete j k) }

  -- there is no place for its number
  module _ (before : List Entry) (past : length before ≤ k) where
    each-past : (j : ℕ) (t : BusTurn) → Dec (j ≡ k) → IsAsBefore AtNode j t n before before ⊎ IsRightThere j t n before
    each-past j t (yes is) = inr (record { path = []; number = number ∙ ap Some (sym is); right = subst (λ e. IsRight t e n) (sym (ap (λ i. entry_at i before) is ∙ entry-past k before past)) (right-none t n) })
    each-past j t (no other) = inl (record { same = refl; none = not-here j other t })

    pub node-past : AreLearnedBelow AtNode n before before
    node-past = record { each = λ j t. each-past j t (ℕ_discrete j k) }

pub harts-self : (known : List Entry) → KeepsHarts known known
harts-self known = record { each = λ j. refl }

pub harts-then : {before mid after : List Entry} → KeepsHarts before mid → KeepsHarts mid after → KeepsHarts before after
harts-then first second = record { each = λ j. second.each j ∙ first.each j }

-- ---- one walk after the other, of a part of the tree, and of fewer turns

pub learned-none : (n : Node) (known : List Entry) → AreLearnedBelow (λ q t. ⊥) n known known
learned-none n known = record { each = λ k t. inl (record { same = refl; none = λ q is among. among }) }

module _ (A B : List ℕ → BusTurn → Type 0) (n : Node) (before mid after : List Entry) where
  abbrev Either : List ℕ → BusTurn → Type 0
  Either q t = A q t ⊎ B q t

  neither : (t : BusTurn) (q : List ℕ) → (A q t → ⊥) → (B q t → ⊥) → Either q t → ⊥
  neither t q first second (inl a) = first a
  neither t q first second (inr b) = second b

  both : (k : ℕ) (t : BusTurn) → IsAsBefore A k t n before mid ⊎ IsRightThere k t n mid → IsAsBefore B k t n mid after ⊎ IsRightThere k t n after → IsAsBefore Either k t n before after ⊎ IsRightThere k t n after
  both k t first (inr there) = inr there
  both k t (inr there) (inl same) = inr (record { path = there.path; number = there.number; right = λ busy known. there.right busy (sym same.same ∙ known) })
  both k t (inl first) (inl second) = inl (record { same = second.same ∙ first.same; none = λ q is. neither t q (first.none q is) (second.none q is) })

  pub learned-then : AreLearnedBelow A n before mid → AreLearnedBelow B n mid after → AreLearnedBelow Either n before after
  learned-then first second = record { each = λ k t. both k t (first.each k t) (second.each k t) }

module _ (A : List ℕ → BusTurn → Type 0) (i : ℕ) (d : DirValue) (ns : Nodes) (before after : List Entry) where
  abbrev Through : List ℕ → BusTurn → Type 0
  Through q t = (r : List ℕ) × (q ≡ i ∷ r) × A r t

  from-child : (k : ℕ) (t : BusTurn) → IsAsBefore A k t (child_at i (children ns)) before after ⊎ IsRightThere k t (child_at i (children ns)) after → IsAsBefore Through k t (dir_node d ns) before after ⊎ IsRightThere k t (dir_node d ns) after
  from-child k t (inl same) = inl (record { same = same.same; none = λ q is through. same.none through.0 (ap (λ r. bus_in (node_at r (dir_node d ns))) (sym through.1) ∙ is) through.2 })
  from-child k t (inr there) = inr (record { path = i ∷ there.path; number = there.number; right = there.right })

  learned-child : AreLearnedBelow A (child_at i (children ns)) before after → AreLearnedBelow Through (dir_node d ns) before after
  learned-child learned = record { each = λ k t. from-child k t (learned.each k t) }

module _ (A B : List ℕ → BusTurn → Type 0) (n : Node) (before after : List Entry) (fewer : (k : ℕ) (q : List ℕ) (t : BusTurn) → bus_in (node_at q n) ≡ Some k → B q t → A q t) where
  of-fewer : (k : ℕ) (t : BusTurn) → IsAsBefore A k t n before after ⊎ IsRightThere k t n after → IsAsBefore B k t n before after ⊎ IsRightThere k t n after
  of-fewer k t (inl same) = inl (record { same = same.same; none = λ q is b. same.none q is (fewer k q t is b) })
  of-fewer k t (inr there) = inr there

  pub learned-fewer : AreLearnedBelow A n before after → AreLearnedBelow B n before after
  learned-fewer learned = record { each = λ k t. of-fewer k t (learned.each k t) }

-- ---- what comes down to the buses of the first children

abbrev pub DownsOf : ℕ → List ℕ → BusTurn → Type 0
DownsOf count q t = ((c : ℕ) × (c < count) × (q ≡ c ∷ [])) × (t ≡ BusTurn.Down)

pub downs-none : (n : Node) (known : List Entry) → AreLearnedBelow (DownsOf 0) n known known
downs-none n known = learned-fewer (λ q t. ⊥) (DownsOf 0) n known known (λ k q t is down. absurd (omega (arith, down.0.1))) (learned-none n known)

module _ (count : ℕ) (d : DirValue) (ns : Nodes) (before mid after : List Entry) where
  one-more : (c : ℕ) (q : List ℕ) (t : BusTurn) → q ≡ c ∷ [] → t ≡ BusTurn.Down → c < count + 1 → Dec (c ≡ count) → DownsOf count q t ⊎ Through (λ r s. (r ≡ []) × (s ≡ BusTurn.Down)) count d ns mid after q t
  one-more c q t is down below (yes last) = inr ([], is ∙ ap (λ i. i ∷ []) last, (refl, down))
  one-more c q t is down below (no earlier) = inl ((c, below-next count c earlier below, is), down)

  pub downs-next : AreLearnedBelow (DownsOf count) (dir_node d ns) before mid → AreLearnedBelow (λ q t. (q ≡ []) × (t ≡ BusTurn.Down)) (child_at count (children ns)) mid after → AreLearnedBelow (DownsOf (count + 1)) (dir_node d ns) before after
  downs-next first second =
      learned-fewer _ (DownsOf (count + 1)) (dir_node d ns) before after (λ k q t is down. one-more down.0.0 q t down.0.2 down.1 down.0.1 (ℕ_discrete down.0.0 count))
      (learned-then (DownsOf count) _ (dir_node d ns) before mid after first (learned-child (λ r s. (r ≡ []) × (s ≡ BusTurn.Down)) count d ns mid after second))

-- ---- what comes down to the bus of one child, if there is a number

abbrev pub DownOf : Option ℕ → List ℕ → BusTurn → Type 0
DownOf named q t = ((c : ℕ) × (named ≡ Some c) × (q ≡ c ∷ [])) × (t ≡ BusTurn.Down)

pub down-none : (n : Node) (known : List Entry) → AreLearnedBelow (DownOf None) n known known
down-none n known = learned-fewer (λ q t. ⊥) (DownOf None) n known known (λ k q t is down. none-some down.0.0 down.0.1) (learned-none n known)

module _ (i : ℕ) (d : DirValue) (ns : Nodes) (before after : List Entry) where
  pub down-child : AreLearnedBelow (λ q t. (q ≡ []) × (t ≡ BusTurn.Down)) (child_at i (children ns)) before after → AreLearnedBelow (DownOf (Some i)) (dir_node d ns) before after
  down-child learned = learned-fewer _ (DownOf (Some i)) (dir_node d ns) before after (λ k q t is down. ([], down.0.2 ∙ ap (λ c. c ∷ []) (sym (same_Some i down.0.0 down.0.1)), (refl, down.1))) (learned-child (λ r s. (r ≡ []) × (s ≡ BusTurn.Down)) i d ns before after learned)

-- ---- what a turn touches, seen from a node on its path

module _ (a : TurnAnswer) where
  -- at its end
  touched-here : (q : List ℕ) (t : BusTurn) → IsTouched a [] q t → ((q ≡ []) × OfTouched a t) ⊎ (((c : ℕ) × (q ≡ c ∷ []) × (touches_child c a ≡ true)) × (t ≡ BusTurn.Down))
  touched-here q t (inl same) = inl same
  touched-here [] t (inr (inl above)) =
      let is : [] ≡ above.0 ∷ [] = above.1 in
      cc
  touched-here (j ∷ r) t (inr (inl above)) =
      let is : [] ≡ j ∷ (r ++ above.0 ∷ []) = above.1 in
      cc
  touched-here q t (inr (inr beneath)) = inr ((beneath.0, beneath.1, beneath.2), beneath.3)

  -- where all of it is learned
  all-touched : (q : List ℕ) (t : BusTurn) → ((q ≡ []) × OfTouched a t) ⊎ (((c : ℕ) × (q ≡ c ∷ []) × (touches_child c a ≡ true)) × (t ≡ BusTurn.Down)) → (q ≡ []) ⊎ (((c : ℕ) × (q ≡ c ∷ [])) × (t ≡ BusTurn.Down))
  all-touched q t (inl own) = inl own.0
  all-touched q t (inr beneath) = inr ((beneath.0.0, beneath.0.1), beneath.1)

  pub touched-all : (q : List ℕ) (t : BusTurn) → IsTouched a [] q t → (q ≡ []) ⊎ (((c : ℕ) × (q ≡ c ∷ [])) × (t ≡ BusTurn.Down))
  touched-all q t touched = all-touched q t (touched-here q t touched)

  -- where two children are
  module _ (first second : Option ℕ) (two : (c : ℕ) → touches_child c a ≡ true → (first ≡ Some c) ⊎ (second ≡ Some c)) where
    abbrev LearnsTwo : List ℕ → BusTurn → Type 0
    LearnsTwo q t = (((q ≡ []) × OfTwo first second t) ⊎ DownOf first q t) ⊎ DownOf second q t

    of-named : (c : ℕ) (t : BusTurn) → OfChild c t → (first ≡ Some c) ⊎ (second ≡ Some c) → OfNamed first t ⊎ OfNamed second t
    of-named c t of (inl is) = inl (c, is, of)
    of-named c t of (inr is) = inr (c, is, of)

    of-two : (t : BusTurn) → OfTouched a t → OfTwo first second t
    of-two BusTurn.Down touched = inl refl
    of-two (BusTurn.Request c) touched = inr (of-named c (BusTurn.Request c) refl (two c touched))
    of-two (BusTurn.Reply c) touched = inr (of-named c (BusTurn.Reply c) refl (two c touched))
    of-two (BusTurn.Leave c choice) touched = inr (of-named c (BusTurn.Leave c choice) refl (two c touched))

    down-two : (c : ℕ) (q : List ℕ) (t : BusTurn) → q ≡ c ∷ [] → t ≡ BusTurn.Down → (first ≡ Some c) ⊎ (second ≡ Some c) → LearnsTwo q t
    down-two c q t is down (inl named) = inl (inr ((c, named, is), down))
    down-two c q t is down (inr named) = inr ((c, named, is), down)

    two-touched : (q : List ℕ) (t : BusTurn) → ((q ≡ []) × OfTouched a t) ⊎ (((c : ℕ) × (q ≡ c ∷ []) × (touches_child c a ≡ true)) × (t ≡ BusTurn.Down)) → LearnsTwo q t
    two-touched q t (inl own) = inl (inl (own.0, of-two t own.1))
    two-touched q t (inr beneath) = down-two beneath.0.0 q t beneath.0.1 beneath.1 (two beneath.0.0 beneath.0.2)

    pub touched-two : (q : List ℕ) (t : BusTurn) → IsTouched a [] q t → LearnsTwo q t
    touched-two q t touched = two-touched q t (touched-here q t touched)

  module _ (i : ℕ) (rest : List ℕ) (t : BusTurn) where
    above-kid : (q : List ℕ) (c : ℕ) → i ∷ rest ≡ q ++ c ∷ [] → OfChild c t → ((q ≡ []) × (rest ≡ []) × OfChild i t) ⊎ ((r : List ℕ) × (q ≡ i ∷ r) × IsTouched a rest r t)
    above-kid [] c is of =
        let first : c ≡ i = cc in
        let last : rest ≡ [] = cc in
        inl (refl, last, subst (λ k. OfChild k t) first of)
    above-kid (j ∷ r) c is of =
        let first : j ≡ i = cc in
        let next : rest ≡ r ++ c ∷ [] = cc in
        inr (r, ap (λ k. k ∷ r) first, inr (inl (c, next, of)))

    touched-kid : (q : List ℕ) → IsTouched a (i ∷ rest) q t → ((q ≡ []) × (rest ≡ []) × OfChild i t) ⊎ ((r : List ℕ) × (q ≡ i ∷ r) × IsTouched a rest r t)
    touched-kid q (inl same) = inr (rest, same.0, inl (refl, same.1))
    touched-kid q (inr (inl above)) = above-kid q above.0 above.1 above.2
    touched-kid q (inr (inr beneath)) = inr (rest ++ beneath.0 ∷ [], beneath.1, inr (inr (beneath.0, refl, beneath.2, beneath.3)))

  -- the two steps of a walk to a child: what it shows, where the path ends there, and what is below it
  module _ (i : ℕ) (rest : List ℕ) (d : DirValue) (ns : Nodes) (before mid after : List Entry) where
    abbrev Shows : List ℕ → BusTurn → Type 0
    Shows q t = (q ≡ []) × OfChild i t

    shown : (q : List ℕ) (t : BusTurn) → ((q ≡ []) × (rest ≡ []) × OfChild i t) ⊎ ((r : List ℕ) × (q ≡ i ∷ r) × IsTouched a rest r t) → Shows q t ⊎ ((r : List ℕ) × (q ≡ i ∷ r) × IsTouched a rest r t)
    shown q t (inl here) = inl (here.0, here.2)
    shown q t (inr there) = inr there

    pub walked-end : AreLearnedBelow Shows (dir_node d ns) before mid → AreLearnedBelow (IsTouched a rest) (child_at i (children ns)) mid after → AreLearnedBelow (IsTouched a (i ∷ rest)) (dir_node d ns) before after
    walked-end first second =
        learned-fewer _ (IsTouched a (i ∷ rest)) (dir_node d ns) before after (λ k q t is touched. shown q t (touched-kid i rest t q touched))
        (learned-then Shows _ (dir_node d ns) before mid after first (learned-child (IsTouched a rest) i d ns mid after second))

    further-on : (rest ≡ [] → ⊥) → (q : List ℕ) (t : BusTurn) → ((q ≡ []) × (rest ≡ []) × OfChild i t) ⊎ ((r : List ℕ) × (q ≡ i ∷ r) × IsTouched a rest r t) → (r : List ℕ) × (q ≡ i ∷ r) × IsTouched a rest r t
    further-on more q t (inl here) = absurd (more here.1)
    further-on more q t (inr there) = there

    pub walked-on : (rest ≡ [] → ⊥) → AreLearnedBelow (IsTouched a rest) (child_at i (children ns)) before after → AreLearnedBelow (IsTouched a (i ∷ rest)) (dir_node d ns) before after
    walked-on more second = learned-fewer _ (IsTouched a (i ∷ rest)) (dir_node d ns) before after (λ k q t is touched. further-on more q t (touched-kid i rest t q touched)) (learned-child (IsTouched a rest) i d ns before after second)

-- ---- what is known of the turns of a bus

buses-self : (known : List Entry) → KeepsBuses known known
buses-self known = record { each = λ k. record { each = λ t. refl } }

pub same-then : {e f g : Entry} → AreSame e f → AreSame f g → AreSame e g
same-then first second = record { each = λ t. second.each t ∙ first.each t }

-- what a write of a hart's keeps is learned by none
module _ (A : List ℕ → BusTurn → Type 0) (n : Node) (before mid after : List Entry) (same : KeepsBuses before mid) where
  kept-one : (k : ℕ) (t : BusTurn) → IsAsBefore A k t n mid after ⊎ IsRightThere k t n after → IsAsBefore A k t n before after ⊎ IsRightThere k t n after
  kept-one k t (inl kept) = inl (record { same = kept.same ∙ (same.each k).each t; none = kept.none })
  kept-one k t (inr there) = inr there

  pub kept-learned : AreLearnedBelow A n mid after → AreLearnedBelow A n before after
  kept-learned learned = record { each = λ k t. kept-one k t (learned.each k t) }

-- ---- nothing is known

pub blank-all : (known : List Entry) → ((i : ℕ) → i < length known → slice_index_or known i [] ≡ replicate 128 Known.Nothing) → IsBlank known
blank-all known all = record { each = λ k r c. blank-at k r c (nat_lt k (length known)) refl }
  where
    blank-at : (k r c : ℕ) (b : Bool) → nat_lt k (length known) ≡ b → busy_at r c (entry_at k known) ≡ None
    blank-at k r c true inside = ap (busy_at r c) (sym (entry-index known k) ∙ all k (ltb-true _ _ inside)) ∙ blank-entry 128 r c
    blank-at k r c false past = ap (busy_at r c) (entry-past k known (ltb-false _ _ past)) ∙ empty-entry r c

-- ---- harts

pub hart-past : (k : ℕ) (o : Option Bool) (before : List Entry) → length before ≤ k → IsHartNoted k o before before
hart-past k o before past = record {
  own = λ busy known. absurd (none-some busy (sym (ap (busy_at 0 0) (entry-past k before past)) ∙ known));
  others = λ j other. refl;
  buses = buses-self before;
}

-- what is known of a hart's turns is put anew
module _ (k : ℕ) (before : List Entry) (o : Option Bool) (v : Known) (inside : k < length before) (is : busy_if v ≡ o) where
  abbrev was : Entry
  was = slice_index_or before k []

  abbrev put : Entry
  put = with_known 0 0 v was

  bus-row : (t : BusTurn) → busy_of t put ≡ busy_of t was
  bus-row BusTurn.Down = row-other was 0 0 1 0 v (omega arith) (λ same. cc)
  bus-row (BusTurn.Request c) = row-other was 0 0 2 c v (omega arith) (λ same. cc)
  bus-row (BusTurn.Reply c) = row-other was 0 0 3 c v (omega arith) (λ same. cc)
  bus-row (BusTurn.Leave c choice) = row-other was 0 0 4 c v (omega arith) (λ same. cc)

  bus-same : (j : ℕ) (t : BusTurn) → Dec (j ≡ k) → busy_of t (entry_at j (slice_set before k put)) ≡ busy_of t (entry_at j before)
  bus-same j t (yes same) = ap (λ i. busy_of t (entry_at i (slice_set before k put))) same ∙ ap (busy_of t) (entry-put k before put inside) ∙ bus-row t ∙ ap (busy_of t) (entry-index before k) ∙ ap (λ i. busy_of t (entry_at i before)) (sym same)
  bus-same j t (no other) = ap (busy_of t) (entry-other k j before put other)

  pub hart-noted : IsHartNoted k o before (slice_set before k put)
  hart-noted = record {
    own = λ busy known. sym is ∙ known-here was 0 0 v busy (sym (ap (busy_at 0 0) (entry-put k before put inside)) ∙ known);
    others = λ j other. ap (busy_at 0 0) (entry-other k j before put other);
    buses = record { each = λ j. record { each = λ t. bus-same j t (ℕ_discrete j k) } };
  }

-- a hart of which it is remembered why it is idle, or that this isn't known
module _ (hart : ℕ) (o : Option Idle) (b : Option Bool) (idle : List (Option Idle)) (before after : List Entry) (inside : hart < length idle) (is : b ≡ idle_as o) (noted : IsHartNoted hart b before after) (agree : HartsAgree before idle) where
  agree-at : (k : ℕ) (busy : Bool) → Dec (k ≡ hart) → hart_as k after ≡ Some busy → idle_as_there (slice_get (slice_set idle hart o) k) ≡ Some busy
  agree-at k busy (yes own) known =
      let here : slice_get (slice_set idle hart o) k ≡ Some o = ap (slice_get (slice_set idle hart o)) own ∙ set-here idle hart o inside in
      ap idle_as_there here ∙ sym is ∙ noted.own busy (subst (λ j. hart_as j after ≡ Some busy) own known)
  agree-at k busy (no other) known = ap idle_as_there (set-other idle hart k o other) ∙ agree.each k busy (sym (noted.others k other) ∙ known)

  pub harts-noted : HartsAgree after (slice_set idle hart o)
  harts-noted = record { each = λ k busy known. agree-at k busy (ℕ_discrete k hart) known }

-- ---- what the one kind of write keeps of the other

pub agree-learned : (idle : List (Option Idle)) (before after : List Entry) → KeepsHarts before after → HartsAgree before idle → HartsAgree after idle
agree-learned idle before after same agree = record { each = λ k busy known. agree.each k busy (sym (same.each k) ∙ known) }
