-- A search stays sound while the turns of its first waiting state are looked at, and each state that they lead to is seen.
-- Letters: s and r are searches, k is the state that is taken up, e the one that a turn t of it leads to, w one that waits.
use Rattle.std.proofs.Common.{◌≡◌, ℕ, ◌+◌, ◌<◌, ◌≤◌, true, false, List, [], ◌∷◌, ◌++◌, length, refl, sym, ap, subst, ◌∙◌, ◌⊎◌, inl, inr, arith, append_assoc, length-append}
use Rattle.std.specs.Prelude.{if◌then◌else◌, nat_lt}
use Rattle.std.specs.List.{list_any}
use Rattle.std.proofs.lemmas.Bool.{ltb-true}
use Rattle.search_laws.specs.Space.{Space, state_after, IsOneOf}
use Rattle.search_laws.specs.Search.{Kept, Found, Searched, kept, is_empty, after_turn, found_at, with_found, with_place, with_state, looked_at, looked_through, with_jam}
use Rattle.search_laws.specs.Rules.{KeepsAlike}
use Rattle.search_laws.specs.Claims.{EndsWith, JamsWith}
use Rattle.search_laws.proofs.Lists.{if-either, absurd-bool, empty-nothing, in-left, in-right, in-either, only-one, any-passes}
use Rattle.search_laws.proofs.Ahead.{after-append}
use Rattle.search_laws.proofs.Sound.{IsPart, size, Ascending, ascending-more, Growth, grown-itself, grown-then, Seen, seen_found, seen_kept, seen-still, AllSeen, JamSeen, closed-still, IsReal, AreLines, Sound, OneMore, old-line, new-line}

module _ {S T O : Type 0} (space : Space S T O) (Alike : S → S → Type 0) (keeps : KeepsAlike space Alike) (m : S) (most : ℕ) where
  -- the state after a turn was looked at
  pub record Looked (s : Searched S T O) (k : Kept S T) (Saw : Searched S T O → Type 0) (r : Searched S T O) : Type 0 where
    pub sound : Sound space m most r
    pub rest : List (Kept S T)
    pub first : r.waiting ≡ k ∷ rest
    pub taken : r.taken ≡ s.taken
    pub grown : Growth s r
    pub saw : (r.full ≡ true) ⊎ Saw r

  abbrev SawTurn : Kept S T → T → Searched S T O → Type 0
  SawTurn k t r = Seen space r (size k + 1) (space.step t k.state)

  module _ (s : Searched S T O) (k : Kept S T) (rest : List (Kept S T)) (first : s.waiting ≡ k ∷ rest) (sound : Sound space m most s) where
    k-waits : IsOneOf s.waiting k
    k-waits = subst (λ l. IsOneOf l k) (sym first) (inl refl)

    k-kept : IsOneOf (kept s) k
    k-kept = in-right s.taken s.waiting k k-waits

    k-least : (w : Kept S T) → IsOneOf s.waiting w → size k ≤ size w
    k-least w i =
        let up : Ascending (k ∷ rest) = subst Ascending first sound.ascending in
        elim (subst (λ l. IsOneOf l w) first i) [
          | inl e ↦ subst (λ y. size k ≤ size y) e (omega arith)
          | inr j ↦ up.0 w j
        ]

    unchanged : (Saw : Searched S T O → Type 0) → (s.full ≡ true) ⊎ Saw s → Looked s k Saw s
    unchanged Saw saw = record { sound = sound; rest = rest; first = first; taken = refl; grown = grown-itself s; saw = saw }

    -- ---- more lines

    with-lines : (fs : List (Found T O)) → AreLines space m (EndsWith space m) 1 s.waiting fs → IsPart s.found fs → Growth s (record s { found = fs }) × Sound space m most (record s { found = fs })
    with-lines fs lines grown =
        let more : Growth s (record s { found = fs }) = record { found = grown; jams = λ x i. i; kept_still = λ x i. i } in (
          more,
          record {
            start = sound.start;
            real = sound.real;
            closed = λ e i. closed-still space s (record s { found = fs }) e more (sound.closed e i);
            found = lines;
            jams = sound.jams;
            ascending = sound.ascending;
            near = sound.near;
            before = sound.before;
            places = sound.places;
          },
        )

    with-jams : (fs : List (Found T O)) → AreLines space m (JamsWith space m) 0 s.waiting fs → IsPart s.jams fs → Growth s (record s { jams = fs }) × Sound space m most (record s { jams = fs })
    with-jams fs lines grown =
        let more : Growth s (record s { jams = fs }) = record { found = λ x i. i; jams = grown; kept_still = λ x i. i } in (
          more,
          record {
            start = sound.start;
            real = sound.real;
            closed = λ e i. closed-still space s (record s { jams = fs }) e more (sound.closed e i);
            found = sound.found;
            jams = lines;
            ascending = sound.ascending;
            near = sound.near;
            before = sound.before;
            places = sound.places;
          },
        )

    -- ---- the state itself, where no turn is tried of it

    jammed : (r : Searched S T O) → r ≡ record s { jams = r.jams } → OneMore space m Alike keeps (JamsWith space m) 0 s.waiting s.jams (found_at space k) r.jams → Looked s k (λ q. JamSeen space q k) r
    jammed r is more =
        let both = with-jams r.jams more.lines more.grown in
        subst (Looked s k (λ q. JamSeen space q k)) (sym is) (record {
          sound = both.1;
          rest = rest;
          first = first;
          taken = refl;
          grown = both.0;
          saw = inr (λ none. more.has);
        })

    pub jam-looked : Looked s k (λ q. JamSeen space q k) (with_jam space most k s)
    jam-looked = if-either (Looked s k (λ q. JamSeen space q k)) (is_empty (space.choices k.state)) (record s { jams = with_found space (found_at space k) s.jams }) s
        (λ empty.
        let is = sound.real k k-kept in
        let claim : JamsWith space m (space.outcome k.state) k.schedule = record {
          runs = ap space.ended is.leads ∙ is.runs;
          stuck = ap space.choices is.leads ∙ empty-nothing (space.choices k.state) empty;
          outcome = ap space.outcome is.leads;
        } in
        if-either (λ fs. Looked s k (λ q. JamSeen space q k) (record s { jams = fs })) (list_any (λ (g : Found T O). space.same_outcome g.outcome (space.outcome k.state)) s.jams) s.jams (s.jams ++ found_at space k ∷ [])
        (λ any. jammed s refl (old-line space m Alike keeps (JamsWith space m) 0 s.waiting s.jams (found_at space k) sound.jams k k-waits (omega arith) any))
        (λ none. jammed (record s { jams = s.jams ++ found_at space k ∷ [] }) refl (new-line space m Alike keeps (JamsWith space m) 0 s.waiting s.jams (found_at space k) sound.jams claim (λ w i. let least : size k ≤ size w = k-least w i in omega (arith, least)) none)))
        (λ some. unchanged (λ q. JamSeen space q k) (inr (λ none. absurd-bool (is_empty (space.choices k.state)) (ap is_empty none) some)))

    -- ---- the state after a turn

    module _ (t : T) where
      abbrev e : Kept S T
      e = after_turn space t k

      e-leads : state_after space e.schedule m ≡ e.state
      e-leads = after-append space k.schedule (t ∷ []) m ∙ ap (space.step t) ((sound.real k k-kept).leads)

      e-size : size e ≡ size k + 1
      e-size = length-append k.schedule (t ∷ [])

      found-more : (r : Searched S T O) → r ≡ record s { found = r.found } → space.ended e.state ≡ true → OneMore space m Alike keeps (EndsWith space m) 1 s.waiting s.found (found_at space e) r.found → Looked s k (SawTurn k t) r
      found-more r is ended more =
          let both = with-lines r.found more.lines more.grown in
          let within : length more.has.line.schedule ≤ size e = more.has.within in
          subst (Looked s k (SawTurn k t)) (sym is) (record {
            sound = both.1;
            rest = rest;
            first = first;
            taken = refl;
            grown = both.0;
            saw = inr (seen_found ended (record { line = more.has.line; is_one = more.has.is_one; outcome = more.has.outcome; within = omega (arith, within, e-size) }));
          })

      end-looked : space.ended e.state ≡ true → Looked s k (SawTurn k t) (record s { found = with_found space (found_at space e) s.found })
      end-looked ended =
          let claim : EndsWith space m (space.outcome e.state) e.schedule = record { ended = ap space.ended e-leads ∙ ended; outcome = ap space.outcome e-leads } in
          if-either (λ fs. Looked s k (SawTurn k t) (record s { found = fs })) (list_any (λ (g : Found T O). space.same_outcome g.outcome (space.outcome e.state)) s.found) s.found (s.found ++ found_at space e ∷ [])
          (λ any. found-more s refl ended (old-line space m Alike keeps (EndsWith space m) 1 s.waiting s.found (found_at space e) sound.found k k-waits e-size any))
          (λ none. found-more (record s { found = s.found ++ found_at space e ∷ [] }) refl ended (new-line space m Alike keeps (EndsWith space m) 1 s.waiting s.found (found_at space e) sound.found claim (λ w i. let least : size k ≤ size w = k-least w i in omega (arith, least, e-size)) none))

      -- a state that is kept has at most one turn more than k
      not-far : (w : Kept S T) → IsOneOf (kept s) w → size w ≤ size k + 1
      not-far w i = elim (in-either s.taken s.waiting w i) [
        | inl a ↦ let b : size w ≤ size k = sound.before w k a k-waits in omega (arith, b)
        | inr a ↦ sound.near k w k-waits a
      ]

      old-looked : list_any (λ (w : Kept S T). space.same e.state w.state) (kept s) ≡ true → Looked s k (SawTurn k t) s
      old-looked any =
          let p = any-passes (λ (w : Kept S T). space.same e.state w.state) (kept s) any in
          unchanged (SawTurn k t) (inr (seen_kept p.one p.is_one p.passes (not-far p.one p.is_one)))

      -- ---- one more state that waits

      abbrev more : Searched S T O
      more = record s { waiting = s.waiting ++ e ∷ [] }

      more-kept : kept more ≡ kept s ++ e ∷ []
      more-kept = sym (append_assoc s.taken s.waiting (e ∷ []))

      more-grown : Growth s more
      more-grown = record { found = λ x i. i; jams = λ x i. i; kept_still = λ x i. subst (λ l. IsOneOf l x) (sym more-kept) (in-left (kept s) (e ∷ []) x i) }

      -- what is true of those that waited and of e is true of all that wait
      each-waiting : (P : Kept S T → Type 0) → ((w : Kept S T) → IsOneOf s.waiting w → P w) → P e → (w : Kept S T) → IsOneOf more.waiting w → P w
      each-waiting P old new w i = elim (in-either s.waiting (e ∷ []) w i) [
        | inl a ↦ old w a
        | inr a ↦ subst P (only-one e w a) new
      ]

      more-lines : (Claim : O → List T → Type 0) (d : ℕ) (fs : List (Found T O)) → AreLines space m Claim d s.waiting fs → AreLines space m Claim d more.waiting fs
      more-lines Claim d fs lines = record {
        right = lines.right;
        once = lines.once;
        near = λ w f i j. each-waiting (λ y. length f.schedule ≤ size y + d) (λ y a. lines.near y f a j) (let near : length f.schedule ≤ size k + d = lines.near k f k-waits j in omega (arith, near, e-size)) w i;
      }

      e-most : (w : Kept S T) → IsOneOf s.waiting w → size w ≤ size e
      e-most w i = let near : size w ≤ size k + 1 = sound.near k w k-waits i in omega (arith, near, e-size)

      e-near : (w : Kept S T) → IsOneOf s.waiting w → size e ≤ size w + 1
      e-near w i = let least : size k ≤ size w = k-least w i in omega (arith, least, e-size)

      more-near : (v w : Kept S T) → IsOneOf more.waiting v → IsOneOf more.waiting w → size w ≤ size v + 1
      more-near v w i j = each-waiting (λ y. size w ≤ size y + 1)
          (λ y a. each-waiting (λ z. size z ≤ size y + 1) (λ z b. sound.near y z a b) (e-near y a) w j)
          (each-waiting (λ z. size z ≤ size e + 1) (λ z b. let under : size z ≤ size e = e-most z b in omega (arith, under)) (omega arith) w j) v i

      more-looked : space.ended e.state ≡ false → nat_lt (length (kept s)) most ≡ true → Looked s k (SawTurn k t) more
      more-looked runs place = record {
        sound = record {
          start = more-grown.kept_still _ sound.start;
          real = λ w i. elim (in-either (kept s) (e ∷ []) w (subst (λ l. IsOneOf l w) more-kept i)) [
            | inl a ↦ sound.real w a
            | inr a ↦ subst (IsReal space m) (only-one e w a) (record { leads = e-leads; runs = runs })
          ];
          closed = λ w i. closed-still space s more w more-grown (sound.closed w i);
          found = more-lines (EndsWith space m) 1 s.found sound.found;
          jams = more-lines (JamsWith space m) 0 s.jams sound.jams;
          ascending = ascending-more s.waiting e sound.ascending e-most;
          near = more-near;
          before = λ w v i j. each-waiting (λ y. size w ≤ size y) (λ y a. sound.before w y i a) (let b : size w ≤ size k = sound.before w k i k-waits in omega (arith, b, e-size)) v j;
          places =
              let many : length (kept more) ≡ length (kept s) + 1 = ap length more-kept ∙ length-append (kept s) (e ∷ []) in
              let room : length (kept s) < most = ltb-true (length (kept s)) most place in
              omega (arith, many, room);
        };
        rest = rest ++ e ∷ [];
        first = ap (λ l. l ++ e ∷ []) first;
        taken = refl;
        grown = more-grown;
        saw = inr (seen_kept e (subst (λ l. IsOneOf l e) (sym more-kept) (in-right (kept s) (e ∷ []) e (inl refl))) (keeps.found_same e.state e.state (keeps.itself e.state)) (omega (arith, e-size)));
      }

      -- nothing but that a state had no place
      full-looked : Looked s k (SawTurn k t) (record s { full = true })
      full-looked = record {
        sound = record {
          start = sound.start;
          real = sound.real;
          closed = λ w i. closed-still space s (record s { full = true }) w (record { found = λ x j. j; jams = λ x j. j; kept_still = λ x j. j }) (sound.closed w i);
          found = sound.found;
          jams = sound.jams;
          ascending = sound.ascending;
          near = sound.near;
          before = sound.before;
          places = sound.places;
        };
        rest = rest;
        first = first;
        taken = refl;
        grown = record { found = λ x j. j; jams = λ x j. j; kept_still = λ x j. j };
        saw = inl refl;
      }

      pub turn-looked : Looked s k (SawTurn k t) (looked_at space most e s)
      turn-looked = if-either (Looked s k (SawTurn k t)) s.full s _ (λ full. unchanged (SawTurn k t) (inl full))
          (λ room. if-either (Looked s k (SawTurn k t)) (space.ended e.state) (record s { found = with_found space (found_at space e) s.found }) (with_state space most e s) end-looked
          (λ runs. if-either (Looked s k (SawTurn k t)) (list_any (λ (w : Kept S T). space.same e.state w.state) (kept s)) s (with_place space most e s) old-looked
          (λ new. if-either (Looked s k (SawTurn k t)) (nat_lt (length (kept s)) most) more (record s { full = true }) (more-looked runs) (λ none. full-looked))))

  -- ---- all its turns

  pub stays-full : (k : Kept S T) (ts : List T) (s : Searched S T O) → s.full ≡ true → (looked_through space most k ts s).full ≡ true
  stays-full k [] s full = full
  stays-full k (t ∷ ts) s full = stays-full k ts (looked_at space most (after_turn space t k) s)
      (if-either (λ (r : Searched S T O). r.full ≡ true) s.full s _ (λ still. full) (λ room. absurd-bool s.full full room))

  pub through-looked : (ts : List T) (s : Searched S T O) (k : Kept S T) (rest : List (Kept S T)) → s.waiting ≡ k ∷ rest → Sound space m most s → Looked s k (λ q. AllSeen space q k ts) (looked_through space most k ts s)
  through-looked [] s k rest first sound = unchanged s k rest first sound (λ q. AllSeen space q k []) (inr (λ t i. absurd i))
  through-looked (t ∷ ts) s k rest first sound =
      let one = turn-looked s k rest first sound t in
      let next = looked_at space most (after_turn space t k) s in
      let others = through-looked ts next k one.rest one.first one.sound in
      record {
        sound = others.sound;
        rest = others.rest;
        first = others.first;
        taken = others.taken ∙ one.taken;
        grown = grown-then s next (looked_through space most k ts next) one.grown others.grown;
        saw = elim others.saw [
          | inl full ↦ inl full
          | inr all ↦ elim one.saw [
            | inl full ↦ inl (stays-full k ts next full)
            | inr seen ↦ inr (λ u i. elim i [
              | inl same ↦ subst (λ y. Seen space (looked_through space most k ts next) (size k + 1) (space.step y k.state)) same (seen-still space next (looked_through space most k ts next) (size k + 1) (space.step t k.state) others.grown seen)
              | inr j ↦ all u j
            ])
          ]
        ];
      }
