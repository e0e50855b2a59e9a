-- What turns come to is found, or they go on from a state that still waits.
-- Letters: s is a search, e, k and w are kept states, x is a state at which nothing is to be done any more, ts and us are turns.
use Rattle.std.proofs.Common.{◌≡◌, ℕ, zero, suc, ◌+◌, ◌<◌, ◌≤◌, true, false, List, [], ◌∷◌, length, sym, subst, ◌∙◌, ◌⊎◌, inl, inr, arith}
use Rattle.std.proofs.lemmas.Bool.{cases_lt}
use Rattle.search_laws.specs.Space.{Space, state_after, IsOneOf}
use Rattle.search_laws.specs.Search.{Kept, Found, Searched, kept, first_length}
use Rattle.search_laws.specs.Rules.{KeepsAlike, EndsStay, QuietFirst}
use Rattle.search_laws.specs.Claims.{EndsWith, JamsWith, HasNoLonger, LinesAreShortest, LinesAreAll, LinesReachFar}
use Rattle.search_laws.proofs.Lists.{absurd-bool, in-right, in-either, none-of-nothing}
use Rattle.search_laws.proofs.Ahead.{ended-stays, after-alike, Rests, at_end, at_jam, stuck, goes_on, ahead, fit-after, rests-alike}
use Rattle.search_laws.proofs.Sound.{size, Ascending, Line, seen_found, seen_kept, IsReal, AreLines, Sound}

module _ {S T O : Type 0} (space : Space S T O) (Alike : S → S → Type 0) (keeps : KeepsAlike space Alike) (stay : EndsStay space Alike) (IsQuiet : S → T → Type 0) (IsFit : S → Type 0) (first : QuietFirst space Alike IsQuiet IsFit) (m : S) (fit : IsFit m) (most : ℕ) (s : Searched S T O) (sound : Sound space m most s) where
  -- turns that go on to x from a state that waits
  pub record Waits (n : ℕ) (x : S) : Type 0 where
    pub from : Kept S T
    pub waits : IsOneOf s.waiting from
    pub turns : List T
    pub within : size from + length turns ≤ n
    pub comes : Alike (state_after space turns from.state) x

  -- x is found by at most n turns, or so many go on to it from a state that waits
  pub data Covered (n : ℕ) (x : S) : Type 0 where
    end_found : Line s.found (space.outcome x) n → space.ended x ≡ true → Covered n x
    jam_found : Line s.jams (space.outcome x) n → space.ended x ≡ false → Covered n x
    waits_still : Waits n x → Covered n x

  line-moved : (fs : List (Found T O)) (n k : ℕ) (x y : S) → space.outcome x ≡ space.outcome y → n ≤ k → Line fs (space.outcome x) n → Line fs (space.outcome y) k
  line-moved fs n k x y same less l =
      let within : length l.line.schedule ≤ n = l.within in
      record { line = l.line; is_one = l.is_one; outcome = l.outcome ∙ same; within = omega (arith, within, less) }

  module _ (bound : ℕ) (x : S) (rests : Rests space Alike keeps x) where
    -- from a state that was taken up, where it is known from kept states with fewer turns left
    from-taken : (n : ℕ) → ((k : Kept S T) → IsOneOf (kept s) k → (us : List T) → length us < n → size k + length us ≤ bound → Alike (state_after space us k.state) x → Covered bound x)
        → (e : Kept S T) → IsOneOf s.taken e → IsReal space m e → (ts : List T) → length ts ≤ n → size e + length ts ≤ bound → Alike (state_after space ts e.state) x → Covered bound x
    from-taken n others e i real ts few within comes =
        let closed = sound.closed e i in
        elim (ahead space Alike keeps IsQuiet IsFit first e.state (subst IsFit real.leads (fit-after space Alike keeps IsQuiet IsFit first e.schedule m fit)) real.runs ts (rests-alike space Alike keeps x _ (keeps.back _ x comes) rests)) [
          | stuck none a ↦
              let same : Alike e.state x = keeps.through e.state (state_after space ts e.state) x (keeps.back _ _ a) comes in
              jam_found (line-moved s.jams (size e) bound e.state x (keeps.outcome e.state x same) (omega (arith, within)) (closed.jam none)) (sym (keeps.ended e.state x same) ∙ real.runs)
          | goes_on u is us fewer a ↦
              let same : Alike (state_after space us (space.step u e.state)) x = keeps.through _ _ x a comes in
              elim (closed.turns u is) [
                | seen_found ended l ↦
                    let after = ended-stays space Alike stay us (space.step u e.state) ended in
                    end_found (line-moved s.found (size e + 1) bound (space.step u e.state) x (sym after.1 ∙ keeps.outcome _ x same) (omega (arith, within, fewer)) l) (sym (keeps.ended _ x same) ∙ after.0)
                | seen_kept k is_kept alike near ↦
                    others k is_kept us (omega (arith, fewer, few)) (omega (arith, near, fewer, within)) (keeps.through _ _ x (after-alike space Alike keeps us k.state (space.step u e.state) (keeps.back _ _ (keeps.same _ _ alike))) same)
              ]
        ]

    from-kept : (n : ℕ) (k : Kept S T) → IsOneOf (kept s) k → (us : List T) → length us < n → size k + length us ≤ bound → Alike (state_after space us k.state) x → Covered bound x
    from-kept zero k i us few within comes = absurd (omega (arith, few))
    from-kept (suc n) k i us few within comes = elim (in-either s.taken s.waiting k i) [
      | inl taken ↦ from-taken n (from-kept n) k taken (sound.real k i) us (omega (arith, few)) within comes
      | inr waits ↦ waits_still (record { from = k; waits = waits; turns = us; within = within; comes = comes })
    ]

  -- from the start
  pub covered : (ts : List T) → Rests space Alike keeps (state_after space ts m) → Covered (length ts) (state_after space ts m)
  covered ts rests = from-kept (length ts) (state_after space ts m) rests (length ts + 1) (record { state = m; schedule = [] }) sound.start ts (omega arith) (omega arith) (keeps.itself _)

  -- ---- how long a way from a state that waits is

  first-least : (w : Kept S T) → IsOneOf s.waiting w → first_length s.waiting ≤ size w
  first-least w i = elim s.waiting as (λ l. Ascending l → IsOneOf l w → first_length l ≤ size w) [
    | [] ↦ λ up j. absurd j
    | k ∷ rest ↦ λ up j. elim j [
      | inl same ↦ subst (λ y. size k ≤ size y) same (omega arith)
      | inr later ↦ up.0 w later
    ]
  ] sound.ascending i

  waiting-real : (w : Kept S T) → IsOneOf s.waiting w → IsReal space m w
  waiting-real w i = sound.real w (in-right s.taken s.waiting w i)

  -- to an end it has a turn
  from-longer : (n : ℕ) (x : S) → space.ended x ≡ true → (waits : Waits n x) → size waits.from < n
  from-longer n x ended waits = elim waits.turns as (λ us. size waits.from + length us ≤ n → Alike (state_after space us waits.from.state) x → size waits.from < n) [
    | [] ↦ λ within comes. absurd-bool (space.ended x) ended (sym (keeps.ended _ x comes) ∙ (waiting-real waits.from waits.waits).runs)
    | t ∷ us ↦ λ within comes. omega (arith, within)
  ] waits.within waits.comes

  waits-longer : (n : ℕ) (x : S) → space.ended x ≡ true → Waits n x → first_length s.waiting < n
  waits-longer n x ended waits =
      let least : first_length s.waiting ≤ size waits.from = first-least waits.from waits.waits in
      let longer : size waits.from < n = from-longer n x ended waits in
      omega (arith, least, longer)

  waits-long : (n : ℕ) (x : S) → Waits n x → first_length s.waiting ≤ n
  waits-long n x waits =
      let least : first_length s.waiting ≤ size waits.from = first-least waits.from waits.waits in
      let within : size waits.from + length waits.turns ≤ n = waits.within in
      omega (arith, least, within)

  -- ---- lines

  line-has : (fs : List (Found T O)) (o p : O) (ts : List T) → p ≡ o → Line fs p (length ts) → HasNoLonger space m fs o ts
  line-has fs o p ts same l = record { found = l.line; is_one = l.is_one; outcome = l.outcome ∙ same; no_longer = l.within }

  end-has : (o : O) (ts : List T) → EndsWith space m o ts → (Waits (length ts) (state_after space ts m) → HasNoLonger space m s.found o ts) → HasNoLonger space m s.found o ts
  end-has o ts ends otherwise = elim (covered ts (at_end ends.ended)) [
    | end_found l ended ↦ line-has s.found o (space.outcome (state_after space ts m)) ts ends.outcome l
    | jam_found l runs ↦ absurd-bool (space.ended (state_after space ts m)) ends.ended runs
    | waits_still waits ↦ otherwise waits
  ]

  jam-has : (o : O) (ts : List T) → JamsWith space m o ts → (Waits (length ts) (state_after space ts m) → HasNoLonger space m s.jams o ts) → HasNoLonger space m s.jams o ts
  jam-has o ts jams otherwise = elim (covered ts (at_jam jams.runs jams.stuck)) [
    | end_found l ended ↦ absurd-bool (space.ended (state_after space ts m)) ended jams.runs
    | jam_found l runs ↦ line-has s.jams o (space.outcome (state_after space ts m)) ts jams.outcome l
    | waits_still waits ↦ otherwise waits
  ]

  pub lines-all : s.waiting ≡ [] → LinesAreAll space m s
  lines-all none = record {
    found = λ o ts ends. end-has o ts ends (λ waits. absurd (none-of-nothing s.waiting waits.from none waits.waits));
    jams = λ o ts jams. jam-has o ts jams (λ waits. absurd (none-of-nothing s.waiting waits.from none waits.waits));
  }

  pub lines-far : LinesReachFar space m s
  lines-far = record {
    found = λ o ts few ends. end-has o ts ends (λ waits. let longer : first_length s.waiting < length ts = waits-longer (length ts) _ ends.ended waits in absurd (omega (arith, longer, few)));
    jams = λ o ts few jams. jam-has o ts jams (λ waits. let long : first_length s.waiting ≤ length ts = waits-long (length ts) _ waits in absurd (omega (arith, long, few)));
  }

  -- ---- no shorter way

  -- two lines of one outcome are one
  no-shorter : (Claim : O → List T → Type 0) (d : ℕ) (fs : List (Found T O)) → AreLines space m Claim d s.waiting fs → (f : Found T O) → IsOneOf fs f → (ts : List T) → HasNoLonger space m fs f.outcome ts → length f.schedule ≤ length ts
  no-shorter Claim d fs lines f i ts has = subst (λ (g : Found T O). length g.schedule ≤ length ts) (lines.once has.found f has.is_one i has.outcome) has.no_longer

  shorter-or-not : (a b : ℕ) → (a ≤ b) ⊎ (b < a)
  shorter-or-not a b = elim (cases_lt b a) [
    | inl more ↦ inr more
    | inr less ↦ inl less
  ]

  pub lines-shortest : LinesAreShortest space m s
  lines-shortest = record {
    found = sound.found.right;
    shortest = λ f i ts ends. elim (shorter-or-not (length f.schedule) (length ts)) [
      | inl fine ↦ fine
      | inr less ↦ no-shorter (EndsWith space m) 1 s.found sound.found f i ts (end-has f.outcome ts ends (λ waits.
          let near : length f.schedule ≤ size waits.from + 1 = sound.found.near waits.from f waits.waits i in
          let longer : size waits.from < length ts = from-longer (length ts) _ ends.ended waits in
          absurd (omega (arith, near, longer, less))))
    ];
    jams = sound.jams.right;
    shortest_jam = λ f i ts jams. elim (shorter-or-not (length f.schedule) (length ts)) [
      | inl fine ↦ fine
      | inr less ↦ no-shorter (JamsWith space m) 0 s.jams sound.jams f i ts (jam-has f.outcome ts jams (λ waits.
          let near : length f.schedule ≤ size waits.from + 0 = sound.jams.near waits.from f waits.waits i in
          let within : size waits.from + length waits.turns ≤ length ts = waits.within in
          absurd (omega (arith, near, within, less))))
    ];
  }
