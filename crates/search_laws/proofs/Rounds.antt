-- A search is sound after each state that it takes up, and takes up states until none waits or one has no place.
-- Letters: s and r are searches, k is the first state that waits, rest are the others, n counts states that are taken up.
use Rattle.std.proofs.Common.{◌≡◌, ℕ, zero, suc, ◌+◌, ◌<◌, ◌≤◌, true, false, List, [], ◌∷◌, ◌++◌, length, refl, sym, ap, subst, ◌∙◌, ◌⊎◌, inl, inr, arith, append_assoc, length-append}
use Rattle.std.specs.Prelude.{if◌then◌else◌}
use Rattle.search_laws.specs.Space.{Space, IsOneOf}
use Rattle.search_laws.specs.Search.{Kept, Found, Searched, kept, looked_through, with_jam, moved_on, unless_full, first_taken_up, next_taken_up, taken_up, begun, searched}
use Rattle.search_laws.specs.Rules.{KeepsAlike}
use Rattle.search_laws.specs.Claims.{EndsWith, JamsWith}
use Rattle.search_laws.proofs.Lists.{if-either, absurd-bool, in-either, only-one}
use Rattle.search_laws.proofs.Sound.{size, Ascending, Growth, line-still, Closed, closed-still, IsReal, AreLines, Sound}
use Rattle.search_laws.proofs.Looking.{jam-looked, through-looked, stays-full}

module _ {S T O : Type 0} (space : Space S T O) (Alike : S → S → Type 0) (keeps : KeepsAlike space Alike) (m : S) (most : ℕ) where
  -- it won't go on
  abbrev pub IsDone : Searched S T O → Type 0
  IsDone s = (s.full ≡ true) ⊎ (s.waiting ≡ [])

  -- after one more state
  record Next (s r : Searched S T O) : Type 0 where
    sound : Sound space m most r
    progress : IsDone r ⊎ (length r.taken ≡ length s.taken + 1)

  -- ---- the first that waits was looked through

  module _ (s : Searched S T O) (k : Kept S T) (rest : List (Kept S T)) (first : s.waiting ≡ k ∷ rest) (sound : Sound space m most s) (closed : Closed space s k) where
    abbrev on : Searched S T O
    on = record s { taken = s.taken ++ k ∷ []; waiting = rest }

    on-kept : kept on ≡ kept s
    on-kept = append_assoc s.taken (k ∷ []) rest ∙ ap (λ l. s.taken ++ l) (sym first)

    on-grown : Growth s on
    on-grown = record { found = λ x i. i; jams = λ x i. i; kept_still = λ x i. subst (λ l. IsOneOf l x) (sym on-kept) i }

    rest-waits : (w : Kept S T) → IsOneOf rest w → IsOneOf s.waiting w
    rest-waits w i = subst (λ l. IsOneOf l w) (sym first) (inr i)

    rest-lines : (Claim : O → List T → Type 0) (d : ℕ) (fs : List (Found T O)) → AreLines space m Claim d s.waiting fs → AreLines space m Claim d rest fs
    rest-lines Claim d fs lines = record { right = lines.right; once = lines.once; near = λ w f i j. lines.near w f (rest-waits w i) j }

    on-sound : Sound space m most on
    on-sound =
        let up : Ascending (k ∷ rest) = subst Ascending first sound.ascending in
        record {
          start = on-grown.kept_still _ sound.start;
          real = λ e i. sound.real e (subst (λ l. IsOneOf l e) on-kept i);
          closed = λ e i. elim (in-either s.taken (k ∷ []) e i) [
            | inl a ↦ closed-still space s on e on-grown (sound.closed e a)
            | inr a ↦ subst (Closed space on) (only-one k e a) (closed-still space s on k on-grown closed)
          ];
          found = rest-lines (EndsWith space m) 1 s.found sound.found;
          jams = rest-lines (JamsWith space m) 0 s.jams sound.jams;
          ascending = up.1;
          near = λ v w i j. sound.near v w (rest-waits v i) (rest-waits w j);
          before = λ e w i j. elim (in-either s.taken (k ∷ []) e i) [
            | inl a ↦ sound.before e w a (rest-waits w j)
            | inr a ↦ subst (λ y. size y ≤ size w) (only-one k e a) (up.0 w j)
          ];
          places = subst (λ l. length l ≤ most) (sym on-kept) sound.places;
        }

    moved-on : Next s (moved_on space most s.waiting s)
    moved-on = subst (λ l. Next s (moved_on space most l s)) (sym first) (record { sound = on-sound; progress = inr (length-append s.taken (k ∷ [])) })

  -- ---- one more state

  first-next : (s : Searched S T O) (k : Kept S T) (rest : List (Kept S T)) → s.waiting ≡ k ∷ rest → Sound space m most s → Next s (unless_full space most (looked_through space most k (space.choices k.state) (with_jam space most k s)))
  first-next s k rest first sound =
      let jam = jam-looked space Alike keeps m most s k rest first sound in
      let a : Searched S T O = with_jam space most k s in
      let through = through-looked space Alike keeps m most (space.choices k.state) a k jam.rest jam.first jam.sound in
      let r : Searched S T O = looked_through space most k (space.choices k.state) a in
      if-either (Next s) r.full r (moved_on space most r.waiting r)
      (λ full. record { sound = through.sound; progress = inl (inl full) })
      (λ room.
      let closed : Closed space r k = record {
        turns = elim through.saw [ inl full ↦ absurd-bool r.full full room | inr all ↦ all ];
        jam = elim jam.saw [
          | inl full ↦ absurd-bool r.full (stays-full space Alike keeps m most k (space.choices k.state) a full) room
          | inr seen ↦ λ none. line-still a.jams r.jams (space.outcome k.state) (size k) through.grown.jams (seen none)
        ];
      } in
      let moved = moved-on r k through.rest through.first through.sound closed in
      let same : r.taken ≡ s.taken = through.taken ∙ jam.taken in
      record {
        sound = moved.sound;
        progress = elim moved.progress [ inl done ↦ inl done | inr more ↦ inr (more ∙ ap (λ l. length l + 1) same) ];
      })

  next-sound : (s : Searched S T O) → Sound space m most s → Next s (next_taken_up space most s)
  next-sound s sound = if-either (Next s) s.full s (first_taken_up space most s.waiting s)
      (λ full. record { sound = sound; progress = inl (inl full) })
      (λ room. elim s.waiting as (λ l. s.waiting ≡ l → Next s (first_taken_up space most l s)) [
        | [] ↦ λ none. record { sound = sound; progress = inl (inr none) }
        | k ∷ rest ↦ λ first. first-next s k rest first sound
      ] refl)

  -- ---- so many states

  pub all-sound : (n : ℕ) (s : Searched S T O) → Sound space m most s → Sound space m most (taken_up space most n s)
  all-sound zero s sound = sound
  all-sound (suc n) s sound = all-sound n (next_taken_up space most s) ((next-sound s sound).sound)

  done-next : (s : Searched S T O) → IsDone s → next_taken_up space most s ≡ s
  done-next s (inl full) = ap (λ b. if b then s else first_taken_up space most s.waiting s) full
  done-next s (inr none) = if-either (λ (r : Searched S T O). r ≡ s) s.full s (first_taken_up space most s.waiting s) (λ full. refl) (λ room. ap (λ l. first_taken_up space most l s) none)

  done-stays : (n : ℕ) (s : Searched S T O) → IsDone s → IsDone (taken_up space most n s)
  done-stays zero s done = done
  done-stays (suc n) s done = subst (λ r. IsDone (taken_up space most n r)) (sym (done-next s done)) (done-stays n s done)

  goes-far : (n : ℕ) (s : Searched S T O) → Sound space m most s → IsDone (taken_up space most n s) ⊎ (length s.taken + n ≤ length (taken_up space most n s).taken)
  goes-far zero s sound = inr (omega arith)
  goes-far (suc n) s sound =
      let next = next-sound s sound in
      let r : Searched S T O = next_taken_up space most s in
      elim next.progress [
        | inl done ↦ inl (done-stays n r done)
        | inr one ↦ elim (goes-far n r next.sound) [
          | inl done ↦ inl done
          | inr far ↦ inr (omega (arith, far, one))
        ]
      ]

  -- ---- the whole search

  begun-sound : 0 < most → space.ended m ≡ false → Sound space m most (begun space most m)
  begun-sound some runs = record {
    start = inl refl;
    real = λ e i. subst (IsReal space m) (only-one _ e i) (record { leads = refl; runs = runs });
    closed = λ e i. absurd i;
    found = record { right = λ f i. absurd i; once = λ f g i j e. absurd i; near = λ w f i j. absurd j };
    jams = record { right = λ f i. absurd i; once = λ f g i j e. absurd i; near = λ w f i j. absurd j };
    ascending = (λ w i. absurd i, tt);
    near = λ v w i j. subst (λ (y : Kept S T). size y ≤ size v + 1) (only-one _ w j) (omega arith);
    before = λ e w i j. absurd i;
    places = omega (arith, some);
  }

  no-length : {X : Type 0} (xs : List X) → length xs ≤ 0 → xs ≡ []
  no-length [] none = refl
  no-length (x ∷ xs) none = absurd (omega (arith, none))

  pub searched-sound : 0 < most → space.ended m ≡ false → Sound space m most (searched space most m)
  unfolding searched
  searched-sound some runs = all-sound most (begun space most m) (begun-sound some runs)

  pub searched-done : 0 < most → space.ended m ≡ false → IsDone (searched space most m)
  unfolding searched
  searched-done some runs =
      let s : Searched S T O = taken_up space most most (begun space most m) in
      let start = begun-sound some runs in
      elim (goes-far most (begun space most m) start) [
        | inl done ↦ done
        | inr far ↦
            let places : length (kept s) ≤ most = (all-sound most (begun space most m) start).places in
            let both : length (kept s) ≡ length s.taken + length s.waiting = length-append s.taken s.waiting in
            inr (no-length s.waiting (omega (arith, far, places, both)))
      ]
