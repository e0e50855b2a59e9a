-- The new moment of a bus in a turn: greater than the old one, and no further than the moments above it and the ends below.
-- Letters: p is the parent before, q after, w where it stands; e is the entry that is taken from its down list.
use Rattle.std.proofs.Common.{◌≡◌, ℕ, zero, suc, ◌+◌, ◌<◌, true, false, List, [], ◌∷◌, ◌++◌, length, take, IfSome, refl, sym, ap, subst, ◌∙◌, ◌⊎◌, inl, inr, arith}
use Rattle.std.specs.Prelude.{if◌then◌else◌}
use Rattle.std.specs.List.{AllByRecursion}
use Rattle.std.proofs.lemmas.Bool.{ne_eqb}
use Rattle.std.proofs.lemmas.List.{length-append, take_at, take_all}
use Rattle.order_laws.specs.DdmTypes.declared.answers.TxKind.TheVariants.{EraseTx}
use Rattle.order_laws.specs.DdmTypes.declared.keys.Stamp.{Stamp}
use Rattle.order_laws.specs.DdmTypes.Keys.{stamp_at, stamp_numbers}
use Rattle.order_laws.specs.TreeModel.State.Kinds.{is_kind}
use Rattle.order_laws.specs.TreeModel.State.Values.{DownValue, DirValue, Nodes, dir_node}
use Rattle.order_laws.specs.TreeModel.State.Directory.{is_top, queue_of, stamp_of}
use Rattle.order_laws.specs.TreeModel.State.Place.{Spot, Where, at_top, at_child, where_path, spot_path}
use Rattle.order_laws.specs.TreeRules.Statements.{Holds, each, each_pair}
use Rattle.order_laws.specs.TreeRules.Order.Time.{lies_between, may_stand_behind}
use Rattle.order_laws.specs.TreeRules.Order.Copies.{first_erase}
use Rattle.order_laws.specs.TreeRules.Order.Directories.{IsClocked}
use Rattle.order_laws.specs.TreeRules.Order.Moments.{less, less_at, moment_of, moment_at, moment_length, spot_moment, GoesOn}
use Rattle.order_lists.proofs.Clocks.{here, goes_on-append, goes_on-same_length}
use Rattle.order_laws.proofs.Moves.Below.{erase_later, first_erase-each, some_weaker, same_length, queue-late, shallow}
use Rattle.order_lists.proofs.Filters.{each-filter, each-weaker}
use Rattle.order_laws.proofs.TreeRules.Statements.{each-facts}
use Rattle.order_lists.proofs.Moments.{less-irreflexive, less-asymmetric, less-head, less-tail, least-parts, less_at-all, GoesOn-trans}
use Rattle.order_lists.proofs.Stamps.{moment_at-length}
use Rattle.order_laws.specs.Moves.Parent.{bound_at, moment_in, erased_at}
use Rattle.order_laws.specs.Moves.Carries.{GoesOnAbove}
use Rattle.order_laws.proofs.Moves.Rise.{IsNext}
use Rattle.order_laws.proofs.Moves.Ordered.{OrderedAt, goes_on-later}

-- ---- the present moment of a bus: that of its epoch, then its number and its count

moment-pushed : (a above : List ℕ) (i n : ℕ) → length a ≡ length above + 1 → moment_of (a ++ n ∷ []) (above ++ i ∷ []) ≡ moment_of a above ++ i ∷ n ∷ []
moment-pushed [] above i n l = absurd (omega arith)
moment-pushed (s ∷ []) [] i n l = refl
moment-pushed (s ∷ t ∷ a) [] i n l = absurd (omega arith)
moment-pushed (s ∷ a) (c ∷ above) i n l = ap (λ k. s ∷ c ∷ k) (moment-pushed a above i n (omega (arith, l)))

numbers-pushed : (l n : ℕ) (t : Stamp) → l + 1 < 4 → stamp_numbers (l + 1) (stamp_at t (l + 1) n) ≡ stamp_numbers l t ++ n ∷ []
numbers-pushed zero n t h = refl
numbers-pushed (suc zero) n t h = refl
numbers-pushed (suc (suc zero)) n t h = refl
numbers-pushed (suc (suc (suc l))) n t h = absurd (omega arith)

numbers-count : (l : ℕ) (t : Stamp) → l < 4 → length (stamp_numbers l t) ≡ l + 1
numbers-count zero t h = refl
numbers-count (suc zero) t h = refl
numbers-count (suc (suc zero)) t h = refl
numbers-count (suc (suc (suc zero))) t h = refl
numbers-count (suc (suc (suc (suc l)))) t h = absurd (omega arith)

present-is : (c : Spot) (d : DirValue) → d.level ≡ length (spot_path c) → length (spot_path c) < 4 → moment_at (spot_path c) (stamp_of d) ≡ moment_at c.above d.epoch ++ c.number ∷ d.count ∷ []
present-is c d level deep =
    let one : length (spot_path c) ≡ length c.above + 1 = length-append c.above (c.number ∷ []) in
    let at : d.level ≡ length c.above + 1 = omega (arith, level, one) in
    ap (λ l. moment_of (stamp_numbers l (stamp_at d.epoch d.level d.count)) (spot_path c)) one ∙ ap (λ l. moment_of (stamp_numbers (length c.above + 1) (stamp_at d.epoch l d.count)) (spot_path c)) at ∙ ap (λ a. moment_of a (spot_path c)) (numbers-pushed (length c.above) d.count d.epoch (omega (arith, one, deep))) ∙ moment-pushed (stamp_numbers (length c.above) d.epoch) c.above c.number d.count (numbers-count (length c.above) d.epoch (omega (arith, one, deep)))

-- later numbers behind numbers that aren't greater
less-behind : (a b xs ys : List ℕ) → length a ≡ length b → less b a ≡ false → less xs ys ≡ true → less (a ++ xs) (b ++ ys) ≡ true
less-behind [] [] xs ys l h k = k
less-behind [] (t ∷ b) xs ys l h k = absurd (omega arith)
less-behind (s ∷ a) [] xs ys l h k = absurd (omega arith)
less-behind (s ∷ a) (t ∷ b) xs ys l h k = go (least-parts t s b a h) (less-behind a b xs ys (omega (arith, l))) where
  go : (s < t) ⊎ ((t ≡ s) × (less b a ≡ false)) → (less b a ≡ false → less xs ys ≡ true → less (a ++ xs) (b ++ ys) ≡ true) → less (s ∷ a ++ xs) (t ∷ b ++ ys) ≡ true
  go (inl i) rest = less-head s t (a ++ xs) (b ++ ys) i
  go (inr i) rest = less-tail s t (a ++ xs) (b ++ ys) (sym i.0) (rest i.1 k)

-- ---- a turn

pub record TurnTime (w : Where) (p q : DirValue) : Type 0 where
  pub next : IsNext (where_path w) (bound_at w p) (bound_at w q) (moment_in w p) (moment_in w q)
  pub rises : less_at (moment_length (length (where_path w))) (moment_in w p) (moment_in w q) ≡ true
  pub past : GoesOnAbove w (moment_in w q)

module _ (p q : DirValue) (level : q.level ≡ p.level) (count : q.count ≡ p.count + 1) where
  top-time : p.level ≡ 0 → TurnTime at_top p q
  top-time zero_level =
      let before : moment_at [] (stamp_of p) ≡ p.count ∷ [] = ap (λ l. moment_at [] (stamp_at p.epoch l p.count)) zero_level in
      let after : moment_at [] (stamp_of q) ≡ q.count ∷ [] = ap (λ l. moment_at [] (stamp_at q.epoch l q.count)) (level ∙ zero_level) in
      let later : less (p.count ∷ []) (q.count ∷ []) ≡ true = less-head p.count q.count [] [] (omega (arith, count)) in
      record {
        next = record { rises = ap (λ a. less a (moment_at [] (stamp_of p))) after ∙ ap (less (q.count ∷ [])) before ∙ less-asymmetric (p.count ∷ []) (q.count ∷ []) later; whole = refl; began = refl; begins = refl; sized = omega arith; size = omega arith; bound_rises = refl };
        rises = ap (λ a. less a (moment_at [] (stamp_of q))) before ∙ ap (less (p.count ∷ [])) after ∙ later;
        past = tt;
      }

  module _ (c : Spot) (k : IsClocked (here c p)) (rises : less (moment_at c.above q.epoch) (moment_at c.above p.epoch) ≡ false) where
    abbrev i : ℕ
    i = c.number

    old-is : moment_at (spot_path c) (stamp_of p) ≡ moment_at c.above p.epoch ++ i ∷ p.count ∷ []
    old-is = present-is c p k.level k.deep

    new-is : moment_at (spot_path c) (stamp_of q) ≡ moment_at c.above q.epoch ++ i ∷ q.count ∷ []
    new-is = present-is c q (level ∙ k.level) k.deep

    sizes : length (moment_at c.above p.epoch) ≡ length (moment_at c.above q.epoch)
    sizes = same_length c.above p.epoch q.epoch (shallow c p k)

    later : less (moment_at (spot_path c) (stamp_of p)) (moment_at (spot_path c) (stamp_of q)) ≡ true
    later =
        let last : less (i ∷ p.count ∷ []) (i ∷ q.count ∷ []) ≡ true = less-tail i i (p.count ∷ []) (q.count ∷ []) refl (less-head p.count q.count [] [] (omega (arith, count))) in
        rw (old-is, new-is) (less-behind (moment_at c.above p.epoch) (moment_at c.above q.epoch) (i ∷ p.count ∷ []) (i ∷ q.count ∷ []) sizes rises last)

    long : (s : Stamp) → length (moment_at (spot_path c) s) ≡ moment_length (length (spot_path c))
    long s = moment_at-length (spot_path c) s k.deep

    one : length (spot_path c) ≡ length c.above + 1
    one = length-append c.above (c.number ∷ [])

    child-next : IsNext (spot_path c) (moment_at c.above p.epoch) (moment_at c.above q.epoch) (moment_at (spot_path c) (stamp_of p)) (moment_at (spot_path c) (stamp_of q))
    child-next =
        let short : length (moment_at c.above p.epoch) ≡ moment_length (length c.above) = moment_at-length c.above p.epoch (shallow c p k) in
        let short_too : length (moment_at c.above q.epoch) ≡ moment_length (length c.above) = moment_at-length c.above q.epoch (shallow c p k) in
        let full : length (moment_at (spot_path c) (stamp_of q)) ≡ moment_length (length (spot_path c)) = long (stamp_of q) in
        record {
          rises = less-asymmetric (moment_at (spot_path c) (stamp_of p)) (moment_at (spot_path c) (stamp_of q)) later;
          whole = take_all (moment_length (length (spot_path c))) (moment_at (spot_path c) (stamp_of q)) (omega (arith, full));
          began = ap (take (length (moment_at c.above p.epoch))) old-is ∙ take_at (moment_at c.above p.epoch) (i ∷ p.count ∷ []) (length (moment_at c.above p.epoch)) refl;
          begins = ap (take (length (moment_at c.above q.epoch))) new-is ∙ take_at (moment_at c.above q.epoch) (i ∷ q.count ∷ []) (length (moment_at c.above q.epoch)) refl;
          sized = omega (arith, one, short);
          size = omega (arith, one, short_too);
          bound_rises = rises;
        }

    -- it goes on from the moment that the bus took over last
    pub new-goes_on : GoesOn (moment_at (spot_path c) (stamp_of q)) (moment_at c.above q.epoch)
    new-goes_on = subst (λ f. GoesOn f (moment_at c.above q.epoch)) (sym new-is) (goes_on-append (moment_at c.above q.epoch) (i ∷ q.count ∷ []))

    child-time : less (spot_moment c) (moment_at c.above q.epoch) ≡ false → TurnTime (at_child c) p q
    child-time taken =
        let full : length (moment_at (spot_path c) (stamp_of p)) ≡ moment_length (length (spot_path c)) = long (stamp_of p) in
        let full_too : length (moment_at (spot_path c) (stamp_of q)) ≡ moment_length (length (spot_path c)) = long (stamp_of q) in
        record {
          next = child-next;
          rises = less_at-all (moment_length (length (spot_path c))) (moment_at (spot_path c) (stamp_of p)) (moment_at (spot_path c) (stamp_of q)) (omega (arith, full)) (omega (arith, full_too)) ∙ later;
          past = GoesOn-trans _ _ _ new-goes_on (goes_on-same_length (moment_at c.above q.epoch) (spot_moment c) (same_length c.above q.epoch c.present (shallow c p k)) taken);
        }

  -- ---- a turn that takes nothing from the down list

  module _ (epoch : q.epoch ≡ p.epoch) where
    same-epoch : (c : Spot) → less (moment_at c.above q.epoch) (moment_at c.above p.epoch) ≡ false
    same-epoch c = ap (λ s. less (moment_at c.above s) (moment_at c.above p.epoch)) epoch ∙ less-irreflexive (moment_at c.above p.epoch)

    pub plain-time : (w : Where) (ns : Nodes) → OrderedAt w (dir_node p ns) → TurnTime w p q
    plain-time at_top ns h = top-time h.0
    plain-time (at_child c) ns h = child-time c h.0.clocked (same-epoch c) (ap (λ s. less (spot_moment c) (moment_at c.above s)) epoch ∙ h.0.clocked.taken)

    pub plain-ends : (x : ℕ) (w : Where) (ns : Nodes) → OrderedAt w (dir_node p ns) → IfSome (erased_at x w p) (GoesOn (moment_in w q))
    plain-ends x at_top ns h = tt
    plain-ends x (at_child c) ns h =
        let on : GoesOn (moment_at (spot_path c) (stamp_of q)) (moment_at c.above p.epoch) = subst (λ s. GoesOn (moment_at (spot_path c) (stamp_of q)) (moment_at c.above s)) epoch (new-goes_on c h.0.clocked (same-epoch c)) in
        some_weaker (first_erase c.above (queue_of x p.down)) _ (GoesOn (moment_at (spot_path c) (stamp_of q))) (λ f l. goes_on-later (moment_at (spot_path c) (stamp_of q)) (moment_at c.above p.epoch) f on l.0 l.1) (queue-late x c p h.0)

  -- ---- a turn that takes the first entry

  module _ (e : DownValue) (rest : List DownValue) (front : p.down ≡ e ∷ rest) (down : q.down ≡ rest) (epoch : q.epoch ≡ (if is_top p then p.epoch else e.stamp)) where
    below-top : (c : Spot) → IsClocked (here c p) → is_top p ≡ false
    below-top c k =
        let one : length (spot_path c) ≡ length c.above + 1 = length-append c.above (c.number ∷ []) in
        let level : p.level ≡ length c.above + 1 = k.level ∙ one in
        ne_eqb p.level 0 (λ z. omega (arith, level, z))

    pub epoch-taken : (c : Spot) → IsClocked (here c p) → q.epoch ≡ e.stamp
    epoch-taken c k = epoch ∙ rw (below-top c k) refl

    first-between : (c : Spot) (k : IsClocked (here c p)) → Holds (lies_between (here c p) e)
    first-between c k = (subst (λ (l : List DownValue). Holds (each (lies_between (here c p)) l)) front k.between).0

    taken-rises : (c : Spot) → IsClocked (here c p) → less (moment_at c.above q.epoch) (moment_at c.above p.epoch) ≡ false
    taken-rises c k = ap (λ s. less (moment_at c.above s) (moment_at c.above p.epoch)) (epoch-taken c k) ∙ (first-between c k).0

    pub taken-goes_on : (c : Spot) → IsClocked (here c p) → GoesOn (moment_at (spot_path c) (stamp_of q)) (moment_at c.above e.stamp)
    taken-goes_on c k = subst (λ s. GoesOn (moment_at (spot_path c) (stamp_of q)) (moment_at c.above s)) (epoch-taken c k) (new-goes_on c k (taken-rises c k))

    pub taken-time : (w : Where) (ns : Nodes) → OrderedAt w (dir_node p ns) → TurnTime w p q
    taken-time at_top ns h = top-time h.0
    taken-time (at_child c) ns h = child-time c h.0.clocked (taken-rises c h.0.clocked) (ap (λ s. less (spot_moment c) (moment_at c.above s)) (epoch-taken c h.0.clocked) ∙ (first-between c h.0.clocked).1)

    pub taken-ends : (x : ℕ) (w : Where) (ns : Nodes) → OrderedAt w (dir_node p ns) → IfSome (erased_at x w q) (GoesOn (moment_in w q))
    unfolding queue_of
    taken-ends x at_top ns h = tt
    taken-ends x (at_child c) ns h =
        let k : IsClocked (here c p) = h.0.clocked in
        let behind : AllByRecursion (λ f. Holds (may_stand_behind (here c p) e f)) rest = each-facts (may_stand_behind (here c p) e) rest (at_front c k) in
        let past : AllByRecursion (λ f. is_kind EraseTx f.kind ≡ true → GoesOn (moment_at (spot_path c) (stamp_of q)) (moment_at c.above f.stamp)) rest = each-weaker _ _ (λ f b is. goes_on-later (moment_at (spot_path c) (stamp_of q)) (moment_at c.above e.stamp) (moment_at c.above f.stamp) (taken-goes_on c k) (same_length c.above f.stamp e.stamp (shallow c p k)) (b.1 (erase_later f.kind is))) rest behind in
        subst (λ (l : List DownValue). IfSome (first_erase c.above (queue_of x l)) (GoesOn (moment_at (spot_path c) (stamp_of q)))) (sym down) (of-queue c past) where
          at_front : (c : Spot) (k : IsClocked (here c p)) → Holds (each (may_stand_behind (here c p) e) rest)
          at_front c k = (subst (λ (l : List DownValue). Holds (each_pair (may_stand_behind (here c p)) l)) front k.rises).0

          of-queue : (c : Spot) → AllByRecursion (λ f. is_kind EraseTx f.kind ≡ true → GoesOn (moment_at (spot_path c) (stamp_of q)) (moment_at c.above f.stamp)) rest → IfSome (first_erase c.above (queue_of x rest)) (GoesOn (moment_at (spot_path c) (stamp_of q)))
          of-queue c past = first_erase-each c.above (GoesOn (moment_at (spot_path c) (stamp_of q))) (queue_of x rest) (each-filter _ _ rest past)
