-- What is true of a search at each moment.
-- Letters: s and r are searches, e, k, v and w kept states, f and g found outcomes, x is a state, m the one that was begun with.
use Rattle.std.proofs.Common.{◌≡◌, ℕ, ◌+◌, ◌≤◌, true, false, List, [], ◌∷◌, ◌++◌, length, refl, sym, ap, subst, ◌∙◌, inl, inr, arith}
use Rattle.std.specs.List.{list_any}
use Rattle.search_laws.specs.Space.{Space, state_after, IsOneOf}
use Rattle.search_laws.specs.Search.{Kept, Found, Searched, kept}
use Rattle.search_laws.specs.Rules.{KeepsAlike}
use Rattle.search_laws.specs.Claims.{EndsWith, JamsWith}
use Rattle.search_laws.proofs.Lists.{absurd-bool, in-left, in-right, in-either, only-one, any-passes, any-none}

-- each of these is one of those
abbrev pub IsPart : {X : Type 0} → List X → List X → Type 0
IsPart xs ys = (x : _) → IsOneOf xs x → IsOneOf ys x

module _ {S T : Type 0} where
  abbrev pub size : Kept S T → ℕ
  size k = length k.schedule

  -- each led to by no more turns than the later ones
  abbrev pub Ascending : List (Kept S T) → Type 0
  Ascending [] = Unit {0}
  Ascending (k ∷ ks) = ((w : Kept S T) → IsOneOf ks w → size k ≤ size w) × Ascending ks

  pub ascending-more : (ks : List (Kept S T)) (e : Kept S T) → Ascending ks → ((w : Kept S T) → IsOneOf ks w → size w ≤ size e) → Ascending (ks ++ e ∷ [])
  ascending-more [] e up below = (λ w i. absurd i, tt)
  ascending-more (k ∷ ks) e up below = (
    λ w i. elim (in-either ks (e ∷ []) w i) [
      | inl j ↦ up.0 w j
      | inr j ↦ subst (λ y. size k ≤ size y) (only-one e w j) (below k (inl refl))
    ],
    ascending-more ks e up.1 (λ w i. below w (inr i)),
  )

module _ {T O : Type 0} where
  -- a line with this outcome, of at most so many turns
  pub record Line (fs : List (Found T O)) (o : O) (n : ℕ) : Type 0 where
    pub line : Found T O
    pub is_one : IsOneOf fs line
    pub outcome : line.outcome ≡ o
    pub within : length line.schedule ≤ n

  pub line-still : (fs gs : List (Found T O)) (o : O) (n : ℕ) → IsPart fs gs → Line fs o n → Line gs o n
  line-still fs gs o n part l = record { line = l.line; is_one = part l.line l.is_one; outcome = l.outcome; within = l.within }

module _ {S T O : Type 0} where
  -- what a later search has at least
  pub record Growth (s r : Searched S T O) : Type 0 where
    pub found : IsPart s.found r.found
    pub jams : IsPart s.jams r.jams
    pub kept_still : IsPart (kept s) (kept r)

  pub grown-itself : (s : Searched S T O) → Growth s s
  grown-itself s = record { found = λ x i. i; jams = λ x i. i; kept_still = λ x i. i }

  pub grown-then : (s r q : Searched S T O) → Growth s r → Growth r q → Growth s q
  grown-then s r q a b = record {
    found = λ x i. b.found x (a.found x i);
    jams = λ x i. b.jams x (a.jams x i);
    kept_still = λ x i. b.kept_still x (a.kept_still x i);
  }

  module _ (space : Space S T O) where
    -- a state that a turn led to is found or kept, by at most so many turns
    pub data Seen (s : Searched S T O) (n : ℕ) (x : S) : Type 0 where
      seen_found : space.ended x ≡ true → Line s.found (space.outcome x) n → Seen s n x
      seen_kept : (k : Kept S T) → IsOneOf (kept s) k → space.same x k.state ≡ true → size k ≤ n → Seen s n x

    pub seen-still : (s r : Searched S T O) (n : ℕ) (x : S) → Growth s r → Seen s n x → Seen r n x
    seen-still s r n x grown (seen_found e l) = seen_found e (line-still s.found r.found _ n grown.found l)
    seen-still s r n x grown (seen_kept k i same within) = seen_kept k (grown.kept_still k i) same within

    abbrev pub AllSeen : Searched S T O → Kept S T → List T → Type 0
    AllSeen s e ts = (t : T) → IsOneOf ts t → Seen s (size e + 1) (space.step t e.state)

    abbrev pub JamSeen : Searched S T O → Kept S T → Type 0
    JamSeen s e = space.choices e.state ≡ [] → Line s.jams (space.outcome e.state) (size e)

    -- a state of which all turns were looked at
    pub record Closed (s : Searched S T O) (e : Kept S T) : Type 0 where
      pub turns : AllSeen s e (space.choices e.state)
      pub jam : JamSeen s e

    pub closed-still : (s r : Searched S T O) (e : Kept S T) → Growth s r → Closed s e → Closed r e
    closed-still s r e grown closed = record {
      turns = λ t i. seen-still s r (size e + 1) (space.step t e.state) grown (closed.turns t i);
      jam = λ none. line-still s.jams r.jams _ (size e) grown.jams (closed.jam none);
    }

    module _ (m : S) where
      pub record IsReal (e : Kept S T) : Type 0 where
        pub leads : state_after space e.schedule m ≡ e.state
        pub runs : space.ended e.state ≡ false

      -- lines that say what they claim, each outcome once, and by at most d turns more than a state that waits
      pub record AreLines (Claim : O → List T → Type 0) (d : ℕ) (ws : List (Kept S T)) (fs : List (Found T O)) : Type 0 where
        pub right : (f : Found T O) → IsOneOf fs f → Claim f.outcome f.schedule
        pub once : (f g : Found T O) → IsOneOf fs f → IsOneOf fs g → f.outcome ≡ g.outcome → f ≡ g
        pub near : (w : Kept S T) (f : Found T O) → IsOneOf ws w → IsOneOf fs f → length f.schedule ≤ size w + d

      pub record Sound (most : ℕ) (s : Searched S T O) : Type 0 where
        pub start : IsOneOf (kept s) (record { state = m; schedule = [] })
        pub real : (e : Kept S T) → IsOneOf (kept s) e → IsReal e
        pub closed : (e : Kept S T) → IsOneOf s.taken e → Closed s e
        pub found : AreLines (EndsWith space m) 1 s.waiting s.found
        pub jams : AreLines (JamsWith space m) 0 s.waiting s.jams
        pub ascending : Ascending s.waiting
        pub near : (v w : Kept S T) → IsOneOf s.waiting v → IsOneOf s.waiting w → size w ≤ size v + 1
        pub before : (e w : Kept S T) → IsOneOf s.taken e → IsOneOf s.waiting w → size e ≤ size w
        pub places : length (kept s) ≤ most

      -- ---- one more line

      module _ (Alike : S → S → Type 0) (keeps : KeepsAlike space Alike) (Claim : O → List T → Type 0) (d : ℕ) (ws : List (Kept S T)) where
        pub record OneMore (fs : List (Found T O)) (f : Found T O) (gs : List (Found T O)) : Type 0 where
          pub lines : AreLines Claim d ws gs
          pub grown : IsPart fs gs
          pub has : Line gs f.outcome (length f.schedule)

        module _ (fs : List (Found T O)) (f : Found T O) (lines : AreLines Claim d ws fs) where
          pub old-line : (w : Kept S T) → IsOneOf ws w → length f.schedule ≡ size w + d → list_any (λ (g : Found T O). space.same_outcome g.outcome f.outcome) fs ≡ true → OneMore fs f fs
          old-line w i equal any =
              let p = any-passes (λ (g : Found T O). space.same_outcome g.outcome f.outcome) fs any in
              let near : length p.one.schedule ≤ size w + d = lines.near w p.one i p.is_one in
              record {
                lines = lines;
                grown = λ x j. j;
                has = record { line = p.one; is_one = p.is_one; outcome = keeps.same_outcome p.one.outcome f.outcome p.passes; within = omega (arith, near, equal) };
              }

          module _ (claim : Claim f.outcome f.schedule) (far : (w : Kept S T) → IsOneOf ws w → length f.schedule ≤ size w + d) (none : list_any (λ (g : Found T O). space.same_outcome g.outcome f.outcome) fs ≡ false) where
            not-both : {A : Type 0} (g : Found T O) → IsOneOf fs g → g.outcome ≡ f.outcome → A
            not-both g i e = absurd-bool (space.same_outcome g.outcome f.outcome) (subst (λ o. space.same_outcome g.outcome o ≡ true) e (keeps.outcome_itself g.outcome)) (any-none (λ (h : Found T O). space.same_outcome h.outcome f.outcome) fs none g i)

            once-more : (g h : Found T O) → IsOneOf (fs ++ f ∷ []) g → IsOneOf (fs ++ f ∷ []) h → g.outcome ≡ h.outcome → g ≡ h
            once-more g h i j e = elim (in-either fs (f ∷ []) g i) [
              | inl a ↦ elim (in-either fs (f ∷ []) h j) [
                | inl b ↦ lines.once g h a b e
                | inr b ↦ not-both g a (e ∙ ap (λ (y : Found T O). y.outcome) (sym (only-one f h b)))
              ]
              | inr a ↦ elim (in-either fs (f ∷ []) h j) [
                | inl b ↦ not-both h b (sym e ∙ ap (λ (y : Found T O). y.outcome) (sym (only-one f g a)))
                | inr b ↦ sym (only-one f g a) ∙ only-one f h b
              ]
            ]

            pub new-line : OneMore fs f (fs ++ f ∷ [])
            new-line = record {
              lines = record {
                right = λ g i. elim (in-either fs (f ∷ []) g i) [
                  | inl a ↦ lines.right g a
                  | inr b ↦ subst (λ (y : Found T O). Claim y.outcome y.schedule) (only-one f g b) claim
                ];
                once = once-more;
                near = λ w g i j. elim (in-either fs (f ∷ []) g j) [
                  | inl a ↦ lines.near w g i a
                  | inr b ↦ subst (λ (y : Found T O). length y.schedule ≤ size w + d) (only-one f g b) (far w i)
                ];
              };
              grown = λ x i. in-left fs (f ∷ []) x i;
              has = record { line = f; is_one = in-right fs (f ∷ []) f (inl refl); outcome = refl; within = omega arith };
            }
