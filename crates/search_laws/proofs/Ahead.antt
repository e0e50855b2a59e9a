-- Turns that lead to an end or to a jam begin, in another order, with one that is tried.
-- Letters: s, r and x are states, t and u turns, ts and us lists of them.
use Rattle.std.proofs.Common.{◌≡◌, ◌<◌, true, false, List, [], ◌∷◌, ◌++◌, length, refl, sym, subst, ◌∙◌, inl, arith}
use Rattle.search_laws.specs.Space.{Space, state_after, IsOneOf}
use Rattle.search_laws.specs.Rules.{KeepsAlike, EndsStay, Tried, changes_nothing, does_what, quiet_one, all_others, instead, swapped, QuietFirst}
use Rattle.search_laws.proofs.Lists.{absurd-bool}

module _ {S T O : Type 0} (space : Space S T O) where
  pub after-append : (ts us : List T) (s : S) → state_after space (ts ++ us) s ≡ state_after space us (state_after space ts s)
  after-append [] us s = refl
  after-append (t ∷ ts) us s = after-append ts us (space.step t s)

  module _ (Alike : S → S → Type 0) where
    pub ended-stays : EndsStay space Alike → (ts : List T) (s : S) → space.ended s ≡ true → (space.ended (state_after space ts s) ≡ true) × (space.outcome (state_after space ts s) ≡ space.outcome s)
    ended-stays stay [] s e = (e, refl)
    ended-stays stay (t ∷ ts) s e =
        let rest = ended-stays stay ts (space.step t s) (stay.ended t s e) in
        (rest.0, rest.1 ∙ stay.outcome t s e)

    module _ (keeps : KeepsAlike space Alike) where
      pub after-alike : (ts : List T) (s r : S) → Alike s r → Alike (state_after space ts s) (state_after space ts r)
      after-alike [] s r a = a
      after-alike (t ∷ ts) s r a = after-alike ts (space.step t s) (space.step t r) (keeps.step t s r a)

      -- nothing is to be done any more
      pub data Rests (x : S) : Type 0 where
        at_end : space.ended x ≡ true → Rests x
        at_jam : space.ended x ≡ false → space.choices x ≡ [] → Rests x

      pub rests-alike : (s r : S) → Alike s r → Rests s → Rests r
      rests-alike s r a (at_end e) = at_end (sym (keeps.ended s r a) ∙ e)
      rests-alike s r a (at_jam e none) = at_jam (sym (keeps.ended s r a) ∙ e) (sym (keeps.choices s r a) ∙ none)

      module _ (IsQuiet : S → T → Type 0) (IsFit : S → Type 0) (first : QuietFirst space Alike IsQuiet IsFit) where
        pub fit-after : (ts : List T) (s : S) → IsFit s → IsFit (state_after space ts s)
        fit-after [] s fit = fit
        fit-after (t ∷ ts) s fit = fit-after ts (space.step t s) (first.stays_fit t s fit)

        -- a quiet turn is among the turns and moved to their front, or it is quiet after them too
        pub data Fronted (s : S) (t : T) (ts : List T) : Type 0 where
          moved : (us : List T) → length us < length ts → Alike (state_after space us (space.step t s)) (state_after space ts s) → Fronted s t ts
          still_quiet : IsQuiet (state_after space ts s) t → Alike (state_after space ts (space.step t s)) (space.step t (state_after space ts s)) → Fronted s t ts

        pub fronted : (ts : List T) (s : S) (t : T) → IsFit s → IsQuiet s t → Fronted s t ts
        fronted [] s t fit quiet = still_quiet quiet (keeps.itself (space.step t s))
        fronted (u ∷ ts) s t fit quiet = elim (first.beside s t u fit quiet) [
          | instead a ↦ moved ts (omega arith) (after-alike ts (space.step t s) (space.step u s) (keeps.back (space.step u s) (space.step t s) a))
          | swapped q a ↦
              let b = keeps.back (space.step t (space.step u s)) (space.step u (space.step t s)) a in
              elim (fronted ts (space.step u s) t (first.stays_fit u s fit) q) [
                | moved us fewer c ↦ moved (u ∷ us) (omega (arith, fewer)) (keeps.through _ _ _ (after-alike us (space.step u (space.step t s)) (space.step t (space.step u s)) b) c)
                | still_quiet p c ↦ still_quiet p (keeps.through _ _ _ (after-alike ts (space.step u (space.step t s)) (space.step t (space.step u s)) b) c)
              ]
        ]

        pub data Ahead (s : S) (ts : List T) : Type 0 where
          stuck : space.choices s ≡ [] → Alike (state_after space ts s) s → Ahead s ts
          goes_on : (u : T) → IsOneOf (space.choices s) u → (us : List T) → length us < length ts → Alike (state_after space us (space.step u s)) (state_after space ts s) → Ahead s ts

        never-quiet : (x : S) (t : T) → IsFit x → Rests x → IsQuiet x t → ⊥
        never-quiet x t fit (at_end e) quiet = absurd-bool (space.ended x) e (first.runs x t quiet)
        never-quiet x t fit (at_jam e none) quiet = first.moves x t fit quiet none

        module _ (s : S) (fit : IsFit s) (runs : space.ended s ≡ false) where
          with-all : ((t : T) → Tried space Alike s t) → (ts : List T) → Rests (state_after space ts s) → Ahead s ts
          with-all all [] (at_end e) = absurd-bool (space.ended s) e runs
          with-all all [] (at_jam e none) = stuck none (keeps.itself s)
          with-all all (t ∷ ts) rests = elim (all t) [
            | changes_nothing a ↦
                let same = after-alike ts (space.step t s) s a in
                elim (with-all all ts (rests-alike _ _ same rests)) [
                  | stuck none b ↦ stuck none (keeps.through _ _ _ same b)
                  | goes_on u is us fewer b ↦ goes_on u is us (omega (arith, fewer)) (keeps.through _ _ _ b (keeps.back _ _ same))
                ]
            | does_what u is a ↦ goes_on u is ts (omega arith) (after-alike ts (space.step u s) (space.step t s) (keeps.back (space.step t s) (space.step u s) a))
          ]

          pub ahead : (ts : List T) → Rests (state_after space ts s) → Ahead s ts
          ahead ts rests = elim (first.enough s fit runs) [
            | quiet_one t only quiet ↦ elim (fronted ts s t fit quiet) [
              | moved us fewer a ↦ goes_on t (subst (λ l. IsOneOf l t) (sym only) (inl refl)) us fewer a
              | still_quiet q a ↦ absurd (never-quiet (state_after space ts s) t (fit-after ts s fit) rests q)
            ]
            | all_others all ↦ with-all all ts rests
          ]
