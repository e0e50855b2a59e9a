-- The turns of a tree by their places, and the draws of a seed.
-- Letters: g is a generator, w its next word and the generator after it, ts turns.
use Rattle.std.proofs.Common.{◌≡◌, ◌≤◌, ◌<◌, append_assoc, append-nil, zero-add, All, drop, ℕ, zero, suc, ◌+◌, ◌*◌, ◌-◌, ◌%◌, Bool, true, false, List, [], ◌∷◌, ◌++◌, length, map, take, sum_by, nat_lt, refl, sym, ap, ◌∙◌, take_all, ltb-true, ltb-false, arith}
use Rattle.std.specs.Prelude.{slice_index_or, slice_set}
use Rattle.std.specs.List.{range_with_len}
use Rattle.std.proofs.lemmas.List.{drop_all, drop_more, get_or-take, get_or_past, length-map, length-take, take_more, take_more_set}
use Rattle.std.proofs.lemmas.List.FromFn.{get_or-map-range_with_len, length-map-range_with_len}
use Rattle.std.proofs.lemmas.List.Elements.{All-cons, All-head, All-nil, All-tail}
use Rattle.std.proofs.lemmas.List.Sums.{sum_by-append}
use Rattle.rand_pcg.specs.Lcg.{Lcg}
use Rattle.rand_pcg.specs.Pcg.{pcg32}
use Rattle.seed_draws.specs.DdmTypes.declared.turns.Turn.{Turn}
use Rattle.seed_draws.specs.TextModel.Schedule.{ShapeView}
use Rattle.seed_draws.specs.TextModel.ReadBack.{IsTurnOf}
use Rattle.seed_draws.specs.TextModel.Seeded.{seeded_turns}
use Rattle.recording_model.specs.declared.SeedKind.{SeedKind}
use Rattle.recording_model.specs.LetBy.{Draw, Skew, draws_of, seed_draws, skew_of, even_draw, let_by_rate, rate_of, rate_of_word, skew_from, skewed_draws, turns_before, turns_of_bus, turns_of_tree}
use Rattle.seed_draws.specs.Parts.{ArePlaces, DrawsView, SkewView, draws_left, turns_in_block}

-- ---- places

before-beyond : (shape : ShapeView) (bus : ℕ) → length shape.buses ≤ bus → turns_before shape bus ≡ turns_of_tree shape
before-beyond shape bus past = ap (λ ws. shape.harts + sum_by turns_of_bus ws) (take_all bus shape.buses past ∙ sym (take_all (length shape.buses) shape.buses (omega arith)))

pub before-at : (shape : ShapeView) (places : List ℕ) (all bus : ℕ) → ArePlaces shape places all → slice_index_or places bus all ≡ turns_before shape bus
before-at shape places all bus are = ap (λ xs. slice_index_or xs bus all) are.before ∙ by_bus (nat_lt bus (length shape.buses)) refl where
  by_bus : (b : Bool) → nat_lt bus (length shape.buses) ≡ b → slice_index_or (map (turns_before shape) (range_with_len 0 (length shape.buses))) bus all ≡ turns_before shape bus
  by_bus true is = get_or-map-range_with_len (turns_before shape) 0 (length shape.buses) bus bus all (ltb-true bus (length shape.buses) is) (zero-add bus)
  by_bus false is =
      let past = ltb-false bus (length shape.buses) is in
      let few : length (map (turns_before shape) (range_with_len 0 (length shape.buses))) ≤ bus = omega (arith, past, length-map-range_with_len (turns_before shape) 0 (length shape.buses)) in
      get_or_past (map (turns_before shape) (range_with_len 0 (length shape.buses))) bus all few ∙ are.count ∙ sym (before-beyond shape bus past)

-- one bus more
pub before-more : (shape : ShapeView) (k n : ℕ) → k < length shape.buses → n ≡ slice_index_or shape.buses k 0 → turns_before shape k + (1 + 3 * n) ≡ turns_before shape (k + 1)
before-more shape k n inside is =
    let more : sum_by turns_of_bus (take (k + 1) shape.buses) ≡ sum_by turns_of_bus (take k shape.buses) + (0 + (1 + 3 * slice_index_or shape.buses k 0)) =
    ap (sum_by turns_of_bus) (take_more shape.buses k 0 inside) ∙ sum_by-append turns_of_bus (take k shape.buses) (slice_index_or shape.buses k 0 ∷ [])
    in
    omega (arith, more, is)

-- ---- rates

-- each is one of the four
rate-few : (k : ℕ) → slice_index_or (0 ∷ 0 ∷ 3 ∷ 6 ∷ []) k 0 ≤ 6
rate-few zero = omega arith
rate-few (suc zero) = omega arith
rate-few (suc (suc zero)) = omega arith
rate-few (suc (suc (suc zero))) = omega arith
rate-few (suc (suc (suc (suc k)))) = omega (arith, get_or_past {X = ℕ} (0 ∷ 0 ∷ 3 ∷ 6 ∷ []) (suc (suc (suc (suc k)))) 0 (omega arith))

pub skew-few : (n : ℕ) (g : Lcg) → All (λ (r : ℕ). r ≤ 6) (skew_from n g).rates
unfolding skew_from
skew-few zero g = All-nil (λ (r : ℕ). r ≤ 6)
skew-few (suc n) g = let w = pcg32 g in All-cons (λ (r : ℕ). r ≤ 6) (rate_of_word w.0) (skew_from n w.1).rates (rate-few (w.0 % 4)) (skew-few n w.1)

-- a slice that is the whole list was written
pub whole-written : {X : Type 0} (new old : List X) (len : ℕ) → length new ≡ len → length old ≡ len → take len (new ++ drop (length new) old) ≡ new
whole-written new old len same was =
    let none : drop (length new) old ≡ [] = drop_all (length new) old (omega (arith, same, was)) in
    ap (λ xs. take len (new ++ xs)) none ∙ ap (take len) (append-nil new) ∙ take_all len new (omega (arith, same))

-- one rate more
pub skew-more : (rates : List ℕ) (k n a : ℕ) (g g' : Lcg) (all : Skew) → k < n → length rates ≡ n → (a, g') ≡ pcg32 g → take k rates ++ (skew_from (n - k) g).rates ≡ all.rates → (skew_from (n - k) g).words ≡ all.words
    → (take (k + 1) (slice_set rates k (rate_of_word a)) ++ (skew_from (n - (k + 1)) g').rates ≡ all.rates) × ((skew_from (n - (k + 1)) g').words ≡ all.words)
unfolding skew_from
skew-more rates k n a g g' all inside many step front words =
    let left : n - k ≡ suc (n - (k + 1)) = omega (arith, inside) in
    let within : k < length rates = omega (arith, inside, many) in
    let next : skew_from (n - k) g ≡ after (a, g') (n - (k + 1)) = ap (λ i. skew_from i g) left ∙ ap (λ w. after w (n - (k + 1))) (sym step) in (
      ap (λ xs. xs ++ (skew_from (n - (k + 1)) g').rates) (take_more_set rates k (rate_of_word a) within) ∙ append_assoc (take k rates) (rate_of_word a ∷ []) (skew_from (n - (k + 1)) g').rates
          ∙ sym (ap (λ (s : Skew). take k rates ++ s.rates) next) ∙ front,
      sym (ap (λ (s : Skew). s.words) next) ∙ words,
    )
  where
    after : ℕ × Lcg → ℕ → Skew
    after w i = record (skew_from i w.1) { rates = rate_of_word w.0 ∷ (skew_from i w.1).rates }

-- all rates
pub skew-done : (rates : List ℕ) (k n : ℕ) (g : Lcg) (all : Skew) → n ≤ k → length rates ≡ n → take k rates ++ (skew_from (n - k) g).rates ≡ all.rates → (skew_from (n - k) g).words ≡ all.words → (rates ≡ all.rates) × (g ≡ all.words)
unfolding skew_from
skew-done rates k n g all past many front words =
    let none : n - k ≡ 0 = omega (arith, past) in
    let whole : take k rates ≡ rates = take_all k rates (omega (arith, past, many)) in
    (sym (append-nil rates) ∙ ap (λ xs. xs ++ []) (sym whole) ∙ ap (λ i. take k rates ++ (skew_from i g).rates) (sym none) ∙ front, ap (λ i. (skew_from i g).words) (sym none) ∙ words)

-- ---- draws

skewed-length : (shape : ShapeView) (rates : List ℕ) (g : Lcg) (ts : List Turn) → length (skewed_draws shape rates g ts) ≡ length ts
unfolding skewed_draws
skewed-length shape rates g [] = refl
skewed-length shape rates g (t ∷ ts) = ap suc (skewed-length shape rates (let_by_rate (rate_of shape rates t) g).1 ts)

pub draws-length : (kind : SeedKind) (shape : ShapeView) (skew : SkewView) (ts : List Turn) → length (draws_left kind shape skew ts) ≡ length ts
draws-length SeedKind.Even shape skew ts = length-map ts even_draw
draws-length SeedKind.Skewed shape skew ts = skewed-length shape skew.rates skew.words ts

-- the next draw of a skewed seed
pub skewed-next : (kind : SeedKind) (before after : SkewView) (t : Turn) (by : Bool) (later : List Turn) → kind ≡ SeedKind.Skewed → after.rates ≡ before.rates → (by, after.words) ≡ let_by_rate (rate_of before.shape before.rates t) before.words
    → draws_left kind before.shape before (t ∷ later) ≡ record { turn = t; let_by = by } ∷ draws_left kind before.shape after later
unfolding skewed_draws
skewed-next kind before after t by later is rates step = rw is (
    ap (λ (p : Bool × Lcg). drawn p.0 ∷ skewed_draws before.shape before.rates p.1 later) (sym step) ∙ ap (λ (rs : List ℕ). drawn by ∷ skewed_draws before.shape rs after.words later) (sym rates))
  where
    drawn : Bool → Draw
    drawn by = record { turn = t; let_by = by }

-- ---- one turn of a block is taken

pub one-taken : (n end : ℕ) (block later : List Turn) (d : Turn) → n < end → end ≤ length block
    → turns_in_block n end block later ≡ slice_index_or block n d ∷ turns_in_block (n + 1) end block later
one-taken n end block later d before inside =
    let long = length-take end block in
    ap (λ (ts : List Turn). ts ++ later)
    (drop_more (take end block) n d (omega (arith, long, before, inside)) ∙ ap (λ (t : Turn). t ∷ drop (n + 1) (take end block)) (get_or-take end block n d before))

-- ---- a seed begins

abbrev pub viewed : ShapeView → List Draw → DrawsView
viewed shape left = record { shape = shape; left = left }

module _ (shape : ShapeView) where
  even-known : (ts : List Turn) → All (IsTurnOf shape) ts → All (λ (d : Draw). IsTurnOf shape d.turn) (map even_draw ts)
  even-known [] known = All-nil (λ (d : Draw). IsTurnOf shape d.turn)
  even-known (t ∷ ts) known = All-cons (λ (d : Draw). IsTurnOf shape d.turn) (even_draw t) (map even_draw ts) (All-head (IsTurnOf shape) t ts known) (even-known ts (All-tail (IsTurnOf shape) t ts known))

  skewed-known : (of : ShapeView) (rates : List ℕ) (g : Lcg) (ts : List Turn) → All (IsTurnOf shape) ts → All (λ (d : Draw). IsTurnOf shape d.turn) (skewed_draws of rates g ts)
  unfolding skewed_draws
  skewed-known of rates g [] known = All-nil (λ (d : Draw). IsTurnOf shape d.turn)
  skewed-known of rates g (t ∷ ts) known =
      let by = let_by_rate (rate_of of rates t) g in
      All-cons (λ (d : Draw). IsTurnOf shape d.turn) (record { turn = t; let_by = by.0 }) (skewed_draws of rates by.1 ts) (All-head (IsTurnOf shape) t ts known) (skewed-known of rates by.1 ts (All-tail (IsTurnOf shape) t ts known))

  pub draws-known : (kind : SeedKind) (of : ShapeView) (skew : SkewView) (ts : List Turn) → All (IsTurnOf shape) ts → All (λ (d : Draw). IsTurnOf shape d.turn) (draws_left kind of skew ts)
  draws-known SeedKind.Even of skew ts known = even-known ts known
  draws-known SeedKind.Skewed of skew ts known = skewed-known of skew.rates skew.words ts known

draws-of-seed : (kind : SeedKind) (shape : ShapeView) (skew : SkewView) (seed : ℕ) (ts : List Turn) → skew.rates ≡ (skew_of shape seed).rates → skew.words ≡ (skew_of shape seed).words → draws_left kind shape skew ts ≡ draws_of kind shape seed ts
unfolding draws_of
draws-of-seed SeedKind.Even shape skew seed ts rates words = refl
draws-of-seed SeedKind.Skewed shape skew seed ts rates words = ap (λ (rs : List ℕ). skewed_draws shape rs skew.words ts) rates ∙ ap (λ (g : Lcg). skewed_draws shape (skew_of shape seed).rates g ts) words

-- the tree's parts are the same
pub begun : (kind : SeedKind) (shape of : ShapeView) (skew : SkewView) (seed count : ℕ) (ts : List Turn) → of ≡ shape → skew.rates ≡ (skew_of shape seed).rates → skew.words ≡ (skew_of shape seed).words → ts ≡ seeded_turns shape seed count
    → viewed of (draws_left kind of skew ts) ≡ viewed shape (seed_draws kind shape seed count)
begun kind shape of skew seed count ts same rates words turns =
    ap (λ (s : ShapeView). viewed s (draws_left kind s skew ts)) same ∙ ap (λ (us : List Turn). viewed shape (draws_left kind shape skew us)) turns
    ∙ ap (viewed shape) (draws-of-seed kind shape skew seed (seeded_turns shape seed count) rates words)
