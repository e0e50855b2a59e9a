-- A table has exactly the outcomes that its seeds gave, each once, in order.
-- Letters: o and p are outcomes, k and l lines, `first` the first seed.
use Rattle.std.proofs.Common.{◌≡◌, ℕ, zero, suc, ◌+◌, ◌<◌, ◌≤◌, Bool, true, false, cond, ◌&&◌, ◌||◌, nat_eq, nat_lt, List, [], ◌∷◌, ◌++◌, length, Some, refl, sym, ap, subst, ◌∙◌, arith, append_assoc, eq-eqb, ltb-true}
use Rattle.std.specs.Prelude.{slice_get, count_by}
use Rattle.std.specs.List.{AllByRecursion, list_any}
use Rattle.std.specs.Cmp.Lexicographic.{pointwise}
use Rattle.std.proofs.lemmas.Bool.{eqb-true, ltb-false, le-ltb}
use Rattle.std.proofs.lemmas.List.Sums.{sum_by-cons, sum_by_push}
use Rattle.std.proofs.lemmas.List.{append-nil, length-append}
use Rattle.outcome_model.proofs.TreeModel.Tests.{and-first, and-second, and-both}
use Rattle.outcome_model.specs.Table.{OutcomeLine, counted, in_order, is_outcome, placed, stands_before, table_of, tallied}
use Rattle.outcome_model.specs.TableLaws.{AreDifferent, AreInOrder, Gave, IsLine, TablesAreRight, times_given}
use Rattle.outcome_model.proofs.Tables.{in_order-all, placed-all}

-- ---- texts

pub same-text : (a b : List ℕ) → pointwise nat_eq a b ≡ true → a ≡ b
same-text [] [] h = refl
same-text [] (y ∷ ys) h = cc
same-text (x ∷ xs) [] h = cc
same-text (x ∷ xs) (y ∷ ys) h =
    let head : x ≡ y = eqb-true x y (and-first (nat_eq x y) (pointwise nat_eq xs ys) h) in
    let rest : xs ≡ ys = same-text xs ys (and-second (nat_eq x y) (pointwise nat_eq xs ys) h) in
    rw (head, rest) refl

pub own-text : (a : List ℕ) → pointwise nat_eq a a ≡ true
own-text [] = refl
own-text (x ∷ xs) = and-both (nat_eq x x) (pointwise nat_eq xs xs) (eq-eqb x x refl) (own-text xs)

pub other-text : (a b : List ℕ) → pointwise nat_eq a b ≡ false → pointwise nat_eq b a ≡ false
other-text a b h = by (pointwise nat_eq b a) refl where
  by : (d : Bool) → pointwise nat_eq b a ≡ d → d ≡ false
  by false e = refl
  by true e = let same : b ≡ a = same-text b a e in let own : pointwise nat_eq a b ≡ true = subst (λ c. pointwise nat_eq a c ≡ true) (sym same) (own-text a) in cc

-- ---- bools

pub or-none : (a b : Bool) → (a || b) ≡ false → (a ≡ false) × (b ≡ false)
or-none false b h = (refl, h)
or-none true b h = cc

pub none-or : (a b : Bool) → a ≡ false → b ≡ false → (a || b) ≡ false
none-or false b h k = k
none-or true b h k = cc

pub or-second : (a b : Bool) → b ≡ true → (a || b) ≡ true
or-second true b h = refl
or-second false b h = h

pub or-rest : (a b : Bool) → a ≡ false → (a || b) ≡ true → b ≡ true
or-rest false b h k = k
or-rest true b h k = cc

pub or-past : (a b c : Bool) → (b || (a || c)) ≡ (a || (b || c))
or-past true true c = refl
or-past true false c = refl
or-past false true c = refl
or-past false false c = refl

pub or-twice : (a b : Bool) → (a || b) ≡ (a || (a || b))
or-twice true b = refl
or-twice false b = refl

-- ---- the order of lines

module _ (k l : OutcomeLine) where
  pub record NotBefore : Type 0 where
    pub fewer : k.times ≤ l.times
    pub later : k.times ≡ l.times → l.seed ≤ k.seed

  pub not-before : stands_before k l ≡ false → NotBefore
  not-before h =
      let parts = or-none (nat_lt l.times k.times) (nat_eq k.times l.times && nat_lt k.seed l.seed) h in
      record {
        fewer = ltb-false l.times k.times parts.0;
        later = λ same. ltb-false k.seed l.seed (and-false (nat_eq k.times l.times) (nat_lt k.seed l.seed) (eq-eqb k.times l.times same) parts.1);
      }
    where
      and-false : (a b : Bool) → a ≡ true → (a && b) ≡ false → b ≡ false
      and-false true b h k = k
      and-false false b h k = cc

  before-not : NotBefore → stands_before k l ≡ false
  before-not n = none-or (nat_lt l.times k.times) (nat_eq k.times l.times && nat_lt k.seed l.seed) (le-ltb l.times k.times n.fewer) (by (nat_eq k.times l.times) refl)
    where
      by : (d : Bool) → nat_eq k.times l.times ≡ d → (d && nat_lt k.seed l.seed) ≡ false
      by false e = refl
      by true e = le-ltb k.seed l.seed (n.later (eqb-true k.times l.times e))

  -- what stands before another is not behind it
  pub before-back : stands_before k l ≡ true → l.times ≤ k.times × (l.times ≡ k.times → k.seed ≤ l.seed)
  before-back h = by (nat_lt l.times k.times) refl h
    where
      tied : (d : Bool) → nat_eq k.times l.times ≡ d → (d && nat_lt k.seed l.seed) ≡ true → l.times ≤ k.times × (l.times ≡ k.times → k.seed ≤ l.seed)
      tied false e h = cc
      tied true e h = let same = eqb-true k.times l.times e in let less = ltb-true k.seed l.seed h in (omega (arith, same), λ back. omega (arith, less))

      by : (d : Bool) → nat_lt l.times k.times ≡ d → (d || (nat_eq k.times l.times && nat_lt k.seed l.seed)) ≡ true → l.times ≤ k.times × (l.times ≡ k.times → k.seed ≤ l.seed)
      by true e h = let less = ltb-true l.times k.times e in (omega (arith, less), λ back. omega (arith, less, back))
      by false e h = tied (nat_eq k.times l.times) refl h

not-behind : (k l : OutcomeLine) → stands_before k l ≡ true → stands_before l k ≡ false
not-behind k l h = let back = before-back k l h in before-not l k (record { fewer = back.0; later = back.1 })

not-past : (j k l : OutcomeLine) → stands_before j k ≡ false → stands_before k l ≡ false → stands_before j l ≡ false
not-past j k l first second =
    let a = not-before j k first in
    let b = not-before k l second in
    before-not j l (record {
      fewer = omega (arith, a.fewer, b.fewer);
      later = λ same. let tied : j.times ≡ k.times = omega (arith, a.fewer, b.fewer, same) in let other : k.times ≡ l.times = omega (arith, tied, same) in omega (arith, a.later tied, b.later other);
    })

-- ---- lines put in order

module _ (p : OutcomeLine → Bool) where
  placed-any : (l : OutcomeLine) (ls : List OutcomeLine) → list_any p (placed l ls) ≡ (p l || list_any p ls)
  unfolding placed
  placed-any l [] = refl
  placed-any l (k ∷ ks) =
      elim (stands_before k l) as (λ b. list_any p (cond b (k ∷ placed l ks) (l ∷ k ∷ ks)) ≡ (p l || (p k || list_any p ks))) [
        | true ↦ ap (λ b. p k || b) (placed-any l ks) ∙ or-past (p l) (p k) (list_any p ks)
        | false ↦ refl
      ]

  pub in_order-any : (ls : List OutcomeLine) → list_any p (in_order ls) ≡ list_any p ls
  unfolding in_order
  in_order-any [] = refl
  in_order-any (l ∷ ls) = placed-any l (in_order ls) ∙ ap (λ b. p l || b) (in_order-any ls)

placed-different : (l : OutcomeLine) (ls : List OutcomeLine) → list_any (is_outcome l.outcome) ls ≡ false → AreDifferent ls → AreDifferent (placed l ls)
unfolding placed
placed-different l [] none different = (refl, tt)
placed-different l (k ∷ ks) none different =
    let parts = or-none (is_outcome l.outcome k) (list_any (is_outcome l.outcome) ks) none in
    let other : is_outcome k.outcome l ≡ false = other-text k.outcome l.outcome parts.0 in
    elim (stands_before k l) as (λ b. AreDifferent (cond b (k ∷ placed l ks) (l ∷ k ∷ ks))) [
      | true ↦ (placed-any (is_outcome k.outcome) l ks ∙ none-or (is_outcome k.outcome l) (list_any (is_outcome k.outcome) ks) other different.0, placed-different l ks parts.1 different.1)
      | false ↦ (none, different)
    ]

pub in_order-different : (ls : List OutcomeLine) → AreDifferent ls → AreDifferent (in_order ls)
unfolding in_order
in_order-different [] different = tt
in_order-different (l ∷ ls) different = placed-different l (in_order ls) (in_order-any (is_outcome l.outcome) ls ∙ different.0) (in_order-different ls different.1)

behind : (k l : OutcomeLine) (ks : List OutcomeLine) → stands_before k l ≡ false → AllByRecursion (λ (j : OutcomeLine). stands_before j k ≡ false) ks → AllByRecursion (λ (j : OutcomeLine). stands_before j l ≡ false) ks
behind k l [] h all = tt
behind k l (j ∷ js) h all = (not-past j k l all.0 h, behind k l js h all.1)

placed-order : (l : OutcomeLine) (ls : List OutcomeLine) → AreInOrder ls → AreInOrder (placed l ls)
unfolding placed
placed-order l [] ordered = (tt, tt)
placed-order l (k ∷ ks) ordered =
    elim (stands_before k l) as (λ b. stands_before k l ≡ b → AreInOrder (cond b (k ∷ placed l ks) (l ∷ k ∷ ks))) [
      | true ↦ λ e. (placed-all (λ (j : OutcomeLine). stands_before j k ≡ false) l ks (not-behind k l e) ordered.0, placed-order l ks ordered.1)
      | false ↦ λ e. ((e, behind k l ks e ordered.0), ordered)
    ] refl

pub in_order-ordered : (ls : List OutcomeLine) → AreInOrder (in_order ls)
unfolding in_order
in_order-ordered [] = tt
in_order-ordered (l ∷ ls) = placed-order l (in_order ls) (in_order-ordered ls)

-- ---- one outcome more

module _ (first : ℕ) where
  -- what stood there still does
  stands-still : (os : List (List ℕ)) (o p : List ℕ) (place : ℕ) → slice_get os place ≡ Some p → slice_get (os ++ o ∷ []) place ≡ Some p
  stands-still [] o p place h = cc
  stands-still (q ∷ qs) o p zero h = h
  stands-still (q ∷ qs) o p (suc place) h = stands-still qs o p place h

  stands-last : (os : List (List ℕ)) (o : List ℕ) → slice_get (os ++ o ∷ []) (length os) ≡ Some o
  stands-last [] o = refl
  stands-last (q ∷ qs) o = stands-last qs o

  there-inside : (os : List (List ℕ)) (p : List ℕ) (place : ℕ) → slice_get os place ≡ Some p → place < length os
  there-inside [] p place h = absurd (let wrong : ⊥ = cc in wrong)
  there-inside (q ∷ qs) p zero h = omega arith
  there-inside (q ∷ qs) p (suc place) h = let rest = there-inside qs p place h in omega (arith, rest)

  data Stands (os : List (List ℕ)) (o p : List ℕ) (place : ℕ) : Type 0 where
    before : slice_get os place ≡ Some p → place < length os → Stands os o p place
    last : place ≡ length os → p ≡ o → Stands os o p place

  stands-where : (os : List (List ℕ)) (o p : List ℕ) (place : ℕ) → slice_get (os ++ o ∷ []) place ≡ Some p → Stands os o p place
  stands-where [] o p zero h = last refl (let same : o ≡ p = cc in sym same)
  stands-where [] o p (suc place) h = absurd (let wrong : ⊥ = cc in wrong)
  stands-where (q ∷ qs) o p zero h = before h (omega arith)
  stands-where (q ∷ qs) o p (suc place) h = elim (stands-where qs o p place h) [
    | before b less ↦ before b (omega (arith, less))
    | last at same ↦ last (ap suc at) same
  ]

  module _ (os : List (List ℕ)) (o : List ℕ) where
    gave-still : (seed : ℕ) (p : List ℕ) → Gave first os seed p → Gave first (os ++ o ∷ []) seed p
    gave-still seed p g = record { place = g.place; seed_is = g.seed_is; there = stands-still os o p g.place g.there }

    gave-last : Gave first (os ++ o ∷ []) (first + length os) o
    gave-last = record { place = length os; seed_is = refl; there = stands-last os o }

    times-more : (p : List ℕ) → times_given first (os ++ o ∷ []) p ≡ times_given first os p + cond (pointwise nat_eq p o) 1 0
    times-more p = sum_by_push (λ q. cond (pointwise nat_eq p q) 1 0) os o

    -- the line of this outcome counts once more
    same-line : (l : OutcomeLine) → is_outcome o l ≡ true → IsLine first os l → IsLine first (os ++ o ∷ []) (record l { times = l.times + 1 })
    same-line l own is = record {
      times = ap (λ n. n + 1) is.times ∙ ap (λ b. times_given first os l.outcome + cond b 1 0) (sym own) ∙ sym (times-more l.outcome);
      seed = gave-still l.seed l.outcome is.seed;
      smallest = λ seed g. elim (stands-where os o l.outcome g.place g.there) [
        | before b less ↦ is.smallest seed (record { place = g.place; seed_is = g.seed_is; there = b })
        | last at same ↦ (let inside = there-inside os l.outcome is.seed.place is.seed.there in omega (arith, g.seed_is, at, is.seed.seed_is, inside))
      ];
    }

    -- another line stays
    other-line : (l : OutcomeLine) → is_outcome o l ≡ false → IsLine first os l → IsLine first (os ++ o ∷ []) l
    other-line l other is = record {
      times = is.times ∙ add-none (times_given first os l.outcome) ∙ ap (λ b. times_given first os l.outcome + cond b 1 0) (sym other) ∙ sym (times-more l.outcome);
      seed = gave-still l.seed l.outcome is.seed;
      smallest = λ seed g. elim (stands-where os o l.outcome g.place g.there) [
        | before b less ↦ is.smallest seed (record { place = g.place; seed_is = g.seed_is; there = b })
        | last at same ↦ absurd (let own : pointwise nat_eq l.outcome o ≡ true = subst (λ q. pointwise nat_eq l.outcome q ≡ true) same (own-text l.outcome) in let wrong : ⊥ = cc in wrong)
      ];
    }
      where
        add-none : (n : ℕ) → n ≡ n + 0
        add-none n = omega arith

    none-given : (qs : List (List ℕ)) → ((place : ℕ) → slice_get qs place ≡ Some o → ⊥) → count_by (pointwise nat_eq o) qs ≡ 0
    none-given [] never = refl
    none-given (q ∷ qs) never =
        sum_by-cons (λ r. cond (pointwise nat_eq o r) 1 0) q qs ∙ elim (pointwise nat_eq o q) as (λ b. pointwise nat_eq o q ≡ b → cond b 1 0 + count_by (pointwise nat_eq o) qs ≡ 0) [
          | true ↦ λ e. absurd (never 0 (ap Some (sym (same-text o q e))))
          | false ↦ λ e. let rest = none-given qs (λ place there. never (suc place) there) in omega (arith, rest)
        ] refl

    -- a new line
    new-line : ((seed : ℕ) → Gave first os seed o → ⊥) → IsLine first (os ++ o ∷ []) (record { times = 1; seed = first + length os; outcome = o })
    new-line never = record {
      times = ap (λ n. n + 1) (sym (none-given os (λ place there. never (first + place) (record { place = place; seed_is = refl; there = there })))) ∙ ap (λ b. times_given first os o + cond b 1 0) (sym (own-text o)) ∙ sym (times-more o);
      seed = gave-last;
      smallest = λ seed g. elim (stands-where os o o g.place g.there) [
        | before b less ↦ absurd (never seed (record { place = g.place; seed_is = g.seed_is; there = b }))
        | last at same ↦ omega (arith, g.seed_is, at)
      ];
    }

    -- ---- the lines after it

    abbrev more : List (List ℕ)
    more = os ++ o ∷ []

    others-stay : (ls : List OutcomeLine) → list_any (is_outcome o) ls ≡ false → AllByRecursion (IsLine first os) ls → AllByRecursion (IsLine first more) ls
    others-stay [] none all = tt
    others-stay (l ∷ ls) none all =
        let parts = or-none (is_outcome o l) (list_any (is_outcome o) ls) none in
        (other-line l parts.0 all.0, others-stay ls parts.1 all.1)

    -- where this outcome has a line, none behind it has one
    none-behind : (l : OutcomeLine) (ls : List OutcomeLine) → is_outcome o l ≡ true → list_any (is_outcome l.outcome) ls ≡ false → list_any (is_outcome o) ls ≡ false
    none-behind l ls own none = subst (λ q. list_any (is_outcome q) ls ≡ false) (same-text l.outcome o own) none

    counted-lines : (ls : List OutcomeLine) → AllByRecursion (IsLine first os) ls → AreDifferent ls → ((seed : ℕ) → Gave first os seed o → list_any (is_outcome o) ls ≡ true) → AllByRecursion (IsLine first more) (counted (first + length os) o ls)
    unfolding counted
    counted-lines [] all different listed = (new-line (λ seed g. let wrong : false ≡ true = listed seed g in absurd (let no : ⊥ = cc in no)), tt)
    counted-lines (l ∷ ls) all different listed =
        elim (is_outcome o l) as (λ b. is_outcome o l ≡ b → AllByRecursion (IsLine first more) (cond b (record l { times = l.times + 1 } ∷ ls) (l ∷ counted (first + length os) o ls))) [
          | true ↦ λ own. (same-line l own all.0, others-stay ls (none-behind l ls own different.0) all.1)
          | false ↦ λ other. (other-line l other all.0, counted-lines ls all.1 different.1 (λ seed g. or-rest (is_outcome o l) (list_any (is_outcome o) ls) other (listed seed g)))
        ] refl

  -- a line that was there still is, and this outcome has one
  counted-any : (p : List ℕ) (seed : ℕ) (o : List ℕ) (ls : List OutcomeLine) → list_any (is_outcome p) (counted seed o ls) ≡ (pointwise nat_eq o p || list_any (is_outcome p) ls)
  unfolding counted
  counted-any p seed o [] = refl
  counted-any p seed o (l ∷ ls) =
      elim (is_outcome o l) as (λ b. is_outcome o l ≡ b → list_any (is_outcome p) (cond b (record l { times = l.times + 1 } ∷ ls) (l ∷ counted seed o ls)) ≡ (pointwise nat_eq o p || (is_outcome p l || list_any (is_outcome p) ls))) [
        | true ↦ λ own. let same : l.outcome ≡ o = same-text l.outcome o own in rw same (or-twice (pointwise nat_eq o p) (list_any (is_outcome p) ls))
        | false ↦ λ other. ap (λ b. is_outcome p l || b) (counted-any p seed o ls) ∙ or-past (pointwise nat_eq o p) (is_outcome p l) (list_any (is_outcome p) ls)
      ] refl

  counted-different : (seed : ℕ) (o : List ℕ) (ls : List OutcomeLine) → AreDifferent ls → AreDifferent (counted seed o ls)
  unfolding counted
  counted-different seed o [] different = (refl, tt)
  counted-different seed o (l ∷ ls) different =
      elim (is_outcome o l) as (λ b. is_outcome o l ≡ b → AreDifferent (cond b (record l { times = l.times + 1 } ∷ ls) (l ∷ counted seed o ls))) [
        | true ↦ λ own. different
        | false ↦ λ other. (counted-any l.outcome seed o ls ∙ none-or (pointwise nat_eq o l.outcome) (list_any (is_outcome l.outcome) ls) (other-text l.outcome o other) different.0, counted-different seed o ls different.1)
      ] refl

  -- ---- all outcomes

  pub record IsTally (os : List (List ℕ)) (ls : List OutcomeLine) : Type 0 where
    pub lines : AllByRecursion (IsLine first os) ls
    pub listed : (seed : ℕ) (p : List ℕ) → Gave first os seed p → list_any (is_outcome p) ls ≡ true
    pub different : AreDifferent ls

  counted-tally : (os : List (List ℕ)) (o : List ℕ) (ls : List OutcomeLine) → IsTally os ls → IsTally (os ++ o ∷ []) (counted (first + length os) o ls)
  counted-tally os o ls is = record {
    lines = counted-lines os o ls is.lines is.different (λ seed g. is.listed seed o g);
    listed = λ seed p g. counted-any p (first + length os) o ls ∙ elim (stands-where os o p g.place g.there) [
      | before b less ↦ or-second (pointwise nat_eq o p) (list_any (is_outcome p) ls) (is.listed seed p (record { place = g.place; seed_is = g.seed_is; there = b }))
      | last at same ↦ (let own : pointwise nat_eq o p ≡ true = subst (λ q. pointwise nat_eq o q ≡ true) (sym same) (own-text o) in ap (λ b. b || list_any (is_outcome p) ls) own)
    ];
    different = counted-different (first + length os) o ls is.different;
  }

  tallied-is : (done os : List (List ℕ)) (seed : ℕ) (ls : List OutcomeLine) → seed ≡ first + length done → IsTally done ls → IsTally (done ++ os) (tallied seed os ls)
  unfolding tallied
  tallied-is done [] seed ls at is = subst (λ qs. IsTally qs ls) (sym (append-nil done)) is
  tallied-is done (o ∷ os) seed ls at is =
      let here : IsTally (done ++ o ∷ []) (counted seed o ls) = subst (λ n. IsTally (done ++ o ∷ []) (counted n o ls)) (sym at) (counted-tally done o ls is) in
      let next : seed + 1 ≡ first + length (done ++ o ∷ []) = omega (arith, at, length-append done (o ∷ [])) in
      subst (λ qs. IsTally qs (tallied (seed + 1) os (counted seed o ls))) (append_assoc done (o ∷ []) os) (tallied-is (done ++ o ∷ []) os (seed + 1) (counted seed o ls) next here)

  none-tally : IsTally [] []
  none-tally = record { lines = tt; listed = λ seed p g. let wrong = g.there in cc; different = tt }

  pub all-tally : (os : List (List ℕ)) → IsTally os (tallied first os [])
  all-tally os = tallied-is [] os first [] (omega arith) none-tally

pub tables-right : TablesAreRight
unfolding table_of
tables-right first os =
    let is = all-tally first os in
    record {
      lines = in_order-all (IsLine first os) (tallied first os []) is.lines;
      listed = λ seed o g. in_order-any (is_outcome o) (tallied first os []) ∙ is.listed seed o g;
      different = in_order-different (tallied first os []) is.different;
      ordered = in_order-ordered (tallied first os []);
    }
