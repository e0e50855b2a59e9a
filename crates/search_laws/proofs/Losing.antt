-- States from which no turns lead to an end: those that are left, and no others.
-- Letters: s is a search, e and k are kept states, us are kept states or turns, ts are turns, x is a state.
use Rattle.std.proofs.Common.{◌≡◌, ℕ, zero, suc, ◌+◌, ◌<◌, ◌≤◌, Bool, true, false, List, [], ◌∷◌, ◌++◌, ◌&&◌, length, refl, sym, ap, subst, ◌∙◌, ◌⊎◌, inl, inr, arith}
use Rattle.std.specs.Prelude.{not}
use Rattle.std.specs.List.{list_any, list_all, filter}
use Rattle.search_laws.specs.Space.{Space, state_after, IsOneOf}
use Rattle.search_laws.specs.Search.{Kept, Searched, kept}
use Rattle.search_laws.specs.Lost.{leads_into, stays_in, left_after, lost}
use Rattle.search_laws.specs.Rules.{KeepsAlike, EndsStay, Tried, changes_nothing, does_what, quiet_one, all_others, QuietFirst}
use Rattle.search_laws.specs.Claims.{LostAreRight}
use Rattle.search_laws.proofs.Lists.{absurd-bool, true-or-false, and-second, in-left, in-either, only-one, none-of-nothing, any-passes, any-none, all-each, all-fails, filter-part, filter-passing, filter-all, filter-shorter}
use Rattle.search_laws.proofs.Ahead.{after-append, ended-stays, after-alike, at_end, stuck, goes_on, ahead, moved, still_quiet, fronted, fit-after}
use Rattle.search_laws.proofs.Sound.{seen_found, seen_kept, IsReal, Sound}

-- one of two things holds where not both do
not-both : (a b : Bool) → (not a && b) ≡ false → (a ≡ true) ⊎ (b ≡ false)
not-both true b e = inl refl
not-both false b e = inr e

module _ {S T O : Type 0} (space : Space S T O) where
  -- ---- taking out goes on until all stay

  abbrev Fixed : List (Kept S T) → Type 0
  Fixed us = (e : Kept S T) → IsOneOf us e → stays_in space us e ≡ true

  fixed-left : (n : ℕ) (us : List (Kept S T)) → filter (stays_in space us) us ≡ us → left_after space n us ≡ us
  fixed-left zero us same = refl
  fixed-left (suc n) us same = ap (left_after space n) same ∙ fixed-left n us same

  left-fixed : (n : ℕ) (us : List (Kept S T)) → length us ≤ n → Fixed (left_after space n us)
  left-fixed zero [] few = λ e i. absurd i
  left-fixed zero (k ∷ us) few = absurd (omega (arith, few))
  left-fixed (suc n) us few = elim (true-or-false (list_all (stays_in space us) us)) [
    | inl all ↦
        let same : filter (stays_in space us) us ≡ us = filter-all (stays_in space us) us all in
        subst Fixed (sym (fixed-left (suc n) us same)) (all-each (stays_in space us) us all)
    | inr some ↦
        let fewer : length (filter (stays_in space us) us) < length us = filter-shorter (stays_in space us) us some in
        left-fixed n (filter (stays_in space us) us) (omega (arith, fewer, few))
  ]

  left-part : (n : ℕ) (us : List (Kept S T)) (e : Kept S T) → IsOneOf (left_after space n us) e → IsOneOf us e
  left-part zero us e i = i
  left-part (suc n) us e i = filter-part (stays_in space us) us e (left-part n (filter (stays_in space us) us) e i)

  module _ (Alike : S → S → Type 0) (keeps : KeepsAlike space Alike) (stay : EndsStay space Alike) (IsQuiet : S → T → Type 0) (IsFit : S → Type 0) (first : QuietFirst space Alike IsQuiet IsFit) (m : S) (fit : IsFit m) (most : ℕ) (s : Searched S T O) (sound : Sound space m most s) (none_waits : s.waiting ≡ []) where
    -- ---- from what is left no turns lead to an end

    taken-real : (e : Kept S T) → IsOneOf (kept s) e → IsOneOf s.taken e
    taken-real e i = elim (in-either s.taken s.waiting e i) [
      | inl a ↦ a
      | inr a ↦ absurd (none-of-nothing s.waiting e none_waits a)
    ]

    kept-taken : (e : Kept S T) → IsOneOf s.taken e → IsReal space m e
    kept-taken e i = sound.real e (in-left s.taken s.waiting e i)

    fit-taken : (e : Kept S T) → IsOneOf s.taken e → IsFit e.state
    fit-taken e i = subst IsFit ((kept-taken e i).leads) (fit-after space Alike keeps IsQuiet IsFit first e.schedule m fit)

    module _ (us : List (Kept S T)) (fixed : Fixed us) (part : (e : Kept S T) → IsOneOf us e → IsOneOf s.taken e) where
      never-ends : (n : ℕ) (e : Kept S T) → IsOneOf us e → (ts : List T) → length ts < n → space.ended (state_after space ts e.state) ≡ true → ⊥
      never-ends zero e i ts few ended = omega (arith, few)
      never-ends (suc n) e i ts few ended =
          let real = kept-taken e (part e i) in
          elim (ahead space Alike keeps IsQuiet IsFit first e.state (fit-taken e (part e i)) real.runs ts (at_end ended)) [
            | stuck none a ↦ absurd-bool (space.ended e.state) (sym (keeps.ended _ _ a) ∙ ended) real.runs
            | goes_on u is vs fewer a ↦
                let into : leads_into space us (space.step u e.state) ≡ true = all-each (λ (t : T). leads_into space us (space.step t e.state)) (space.choices e.state) (fixed e i) u is in
                let p = any-passes (λ (k : Kept S T). space.same (space.step u e.state) k.state) us (and-second (not (space.ended (space.step u e.state))) _ into) in
                let b = after-alike space Alike keeps vs (space.step u e.state) p.one.state (keeps.same _ _ p.passes) in
                never-ends n p.one p.is_one vs (omega (arith, fewer, few)) (sym (keeps.ended _ _ b) ∙ keeps.ended _ _ a ∙ ended)
          ]

    -- ---- what was taken out has a way to an end

    -- by turns that are tried
    data EndsBy : Kept S T → Type 0 where
      by_end : {e : Kept S T} (t : T) → IsOneOf (space.choices e.state) t → space.ended (space.step t e.state) ≡ true → EndsBy e
      by_other : {e : Kept S T} (t : T) → IsOneOf (space.choices e.state) t → (k : Kept S T) → IsOneOf s.taken k → Alike (space.step t e.state) k.state → EndsBy k → EndsBy e

    abbrev EachLeft : List (Kept S T) → Type 0
    EachLeft us = (e : Kept S T) → IsOneOf s.taken e → IsOneOf us e ⊎ EndsBy e

    -- a state that has a turn to an end, or to one that was taken out
    goes-out : (us : List (Kept S T)) → EachLeft us → (e : Kept S T) → IsOneOf s.taken e → stays_in space us e ≡ false → EndsBy e
    goes-out us each e i out =
        let p = all-fails (λ (t : T). leads_into space us (space.step t e.state)) (space.choices e.state) out in
        let x = space.step p.one e.state in
        elim (not-both (space.ended x) (list_any (λ (k : Kept S T). space.same x k.state) us) p.passes) [
          | inl ended ↦ by_end p.one p.is_one ended
          | inr none ↦ elim ((sound.closed e i).turns p.one p.is_one) [
            | seen_found ended l ↦ by_end p.one p.is_one ended
            | seen_kept k is_kept same near ↦ elim (each k (taken-real k is_kept)) [
              | inl left ↦ absurd-bool (space.same x k.state) same (any-none (λ (w : Kept S T). space.same x w.state) us none k left)
              | inr ends ↦ by_other p.one p.is_one k (taken-real k is_kept) (keeps.same x k.state same) ends
            ]
          ]
        ]

    each-left : (n : ℕ) (us : List (Kept S T)) → EachLeft us → EachLeft (left_after space n us)
    each-left zero us each = each
    each-left (suc n) us each = each-left n (filter (stays_in space us) us) (λ e i. elim (each e i) [
      | inl left ↦ elim (true-or-false (stays_in space us e)) [
        | inl stays ↦ inl (filter-passing (stays_in space us) us e left stays)
        | inr out ↦ inr (goes-out us each e i out)
      ]
      | inr ends ↦ inr ends
    ])

    -- ---- some turns lead on to an end

    record Later (x : S) : Type 0 where
      later : List T
      ended : space.ended (state_after space later x) ≡ true

    later-alike : (x y : S) → Alike x y → Later x → Later y
    later-alike x y a l = record { later = l.later; ended = sym (keeps.ended _ _ (after-alike space Alike keeps l.later x y a)) ∙ l.ended }

    later-step : (t : T) (x : S) → Later (space.step t x) → Later x
    later-step t x l = record { later = t ∷ l.later; ended = l.ended }

    later-now : (ts : List T) (x y : S) → space.ended x ≡ true → Alike (state_after space ts x) y → Later y
    later-now ts x y ended a = record { later = []; ended = sym (keeps.ended _ _ a) ∙ (ended-stays space Alike stay ts x ended).0 }

    ends-later : (e : Kept S T) → EndsBy e → Later e.state
    ends-later e (by_end t i ended) = record { later = t ∷ []; ended = ended }
    ends-later e (by_other t i k taken a ends) = later-step t e.state (later-alike k.state (space.step t e.state) (keeps.back _ _ a) (ends-later k ends))

    module _ (all_end : (e : Kept S T) → IsOneOf s.taken e → EndsBy e) where
      abbrev FewerEnd : ℕ → Type 0
      FewerEnd n = (k : Kept S T) → IsOneOf s.taken k → (us : List T) → length us < n → Later (state_after space us k.state)

      -- after a turn that is tried, and fewer turns
      after-tried : (n : ℕ) → FewerEnd n → (e : Kept S T) → IsOneOf s.taken e → (u : T) → IsOneOf (space.choices e.state) u → (us : List T) → length us < n → (y : S) → Alike (state_after space us (space.step u e.state)) y → Later y
      after-tried n fewer e i u is us few y a = elim ((sound.closed e i).turns u is) [
        | seen_found ended l ↦ later-now us (space.step u e.state) y ended a
        | seen_kept k is_kept same near ↦
            let b = after-alike space Alike keeps us k.state (space.step u e.state) (keeps.back _ _ (keeps.same _ _ same)) in
            later-alike _ y (keeps.through _ _ y b a) (fewer k (taken-real k is_kept) us few)
      ]

      with-others : (n : ℕ) → FewerEnd n → (e : Kept S T) → IsOneOf s.taken e → EndsBy e → ((t : T) → Tried space Alike e.state t) → (ts : List T) → length ts ≤ n → Later (state_after space ts e.state)
      with-others n fewer e i ends all [] few = ends-later e ends
      with-others n fewer e i ends all (t ∷ ts) few = elim (all t) [
        | changes_nothing a ↦ later-alike _ _ (after-alike space Alike keeps ts e.state (space.step t e.state) (keeps.back _ _ a)) (fewer e i ts (omega (arith, few)))
        | does_what u is a ↦ after-tried n fewer e i u is ts (omega (arith, few)) _ (after-alike space Alike keeps ts (space.step u e.state) (space.step t e.state) (keeps.back _ _ a))
      ]

      -- after at most n turns, by how the state itself comes to an end
      after-turns : (n : ℕ) → FewerEnd n → (e : Kept S T) → IsOneOf s.taken e → EndsBy e → (ts : List T) → length ts ≤ n → Later (state_after space ts e.state)
      after-turns n fewer e i (by_end t it ended) ts few = elim (first.enough e.state (fit-taken e i) ((kept-taken e i).runs)) [
        | quiet_one q only quiet ↦ elim (fronted space Alike keeps IsQuiet IsFit first ts e.state q (fit-taken e i) quiet) [
          | moved us less a ↦ after-tried n fewer e i q (subst (λ l. IsOneOf l q) (sym only) (inl refl)) us (omega (arith, less, few)) _ a
          | still_quiet p a ↦
              let same : q ≡ t = only-one q t (subst (λ l. IsOneOf l t) only it) in
              later-step q (state_after space ts e.state) (later-now ts (space.step q e.state) _ (subst (λ u. space.ended (space.step u e.state) ≡ true) (sym same) ended) a)
        ]
        | all_others all ↦ with-others n fewer e i (by_end t it ended) all ts few
      ]
      after-turns n fewer e i (by_other t it k taken b ends) ts few = elim (first.enough e.state (fit-taken e i) ((kept-taken e i).runs)) [
        | quiet_one q only quiet ↦ elim (fronted space Alike keeps IsQuiet IsFit first ts e.state q (fit-taken e i) quiet) [
          | moved us less a ↦ after-tried n fewer e i q (subst (λ l. IsOneOf l q) (sym only) (inl refl)) us (omega (arith, less, few)) _ a
          | still_quiet p a ↦
              let same : q ≡ t = only-one q t (subst (λ l. IsOneOf l t) only it) in
              let c : Alike k.state (space.step q e.state) = keeps.back _ _ (subst (λ u. Alike (space.step u e.state) k.state) (sym same) b) in
              later-step q (state_after space ts e.state) (later-alike _ _ (keeps.through _ _ _ (after-alike space Alike keeps ts k.state (space.step q e.state) c) a) (after-turns n fewer k taken ends ts few))
        ]
        | all_others all ↦ with-others n fewer e i (by_other t it k taken b ends) all ts few
      ]

      always-ends : (n : ℕ) → FewerEnd n
      always-ends zero k i us few = absurd (omega (arith, few))
      always-ends (suc n) k i us few = after-turns n (always-ends n) k i (all_end k i) us (omega (arith, few))

    -- ---- what is lost

    leads : (e : Kept S T) → IsOneOf s.taken e → (ts : List T) → state_after space (e.schedule ++ ts) m ≡ state_after space ts e.state
    leads e i ts = after-append space e.schedule ts m ∙ ap (state_after space ts) ((kept-taken e i).leads)

    pub lost-right : LostAreRight space m s
    unfolding lost
    lost-right =
        let fixed = left-fixed (length s.taken) s.taken (omega arith) in
        let part = left-part (length s.taken) s.taken in
        record {
          after = λ e i ts. elim (true-or-false (space.ended (state_after space (e.schedule ++ ts) m))) [
            | inl ended ↦ absurd (never-ends (lost space s) fixed part (length ts + 1) e i ts (omega arith) (sym (ap space.ended (leads e (part e i) ts)) ∙ ended))
            | inr runs ↦ runs
          ];
          none = λ nothing ts.
              let all : (e : Kept S T) → IsOneOf s.taken e → EndsBy e = λ e i. elim (each-left (length s.taken) s.taken (λ k j. inl j) e i) [
                | inl left ↦ absurd (none-of-nothing (lost space s) e nothing left)
                | inr ends ↦ ends
              ] in
              let l = always-ends all (length ts + 1) (record { state = m; schedule = [] }) (taken-real _ sound.start) ts (omega arith) in
              record { later = l.later; ended = ap space.ended (after-append space ts l.later m) ∙ l.ended };
        }
