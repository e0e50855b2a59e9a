-- The turns of a generator's words, turn by turn.
use Rattle.std.proofs.Common.{◌≡◌, ℕ, zero, suc, ◌+◌, ◌-◌, ◌*◌, ◌<◌, ◌≤◌, List, [], ◌∷◌, ◌++◌, length, take, drop, refl, sym, ap, ◌∙◌, arith}
use Rattle.std.specs.Prelude.{slice_index_or, slice_set}
use Rattle.std.proofs.lemmas.List.{length-set, take-set-le, take_more_set}
use Rattle.schedule_log.specs.DdmTypes.declared.turns.Turn.{Turn}
use Rattle.rand_pcg.specs.Lcg.{Lcg}
use Rattle.rand_pcg.specs.Pcg.{pcg32}
use Rattle.text_model.specs.Schedule.{ShapeView}
use Rattle.text_model.specs.Seeded.{seeded_turn, turns_of_words, words_of}
use Rattle.schedule_log.specs.Seeding.{SeededView, turns_left}

-- a turn, and those behind it
pub first_turn : (shape : ShapeView) (g : Lcg) (n : ℕ) → turns_left shape g (suc n) ≡ (let a = pcg32 g in let b = pcg32 a.1 in seeded_turn shape a.0 b.0 ∷ turns_left shape b.1 n)
unfolding turns_of_words words_of
first_turn shape g n =
    let two : 2 * suc n ≡ suc (suc (2 * n)) = omega arith in
    ap (λ (m : ℕ). turns_of_words shape (words_of g m)) two

-- no words to come
pub none_left : (shape : ShapeView) (g : Lcg) → turns_left shape g 0 ≡ []
unfolding turns_of_words words_of
none_left shape g = refl

-- there are as many as is said
pub left_counted : (shape : ShapeView) (g : Lcg) (n : ℕ) → length (turns_left shape g n) ≡ n
left_counted shape g zero = ap length (none_left shape g)
left_counted shape g (suc n) = ap length (first_turn shape g n) ∙ ap suc (left_counted shape (pcg32 (pcg32 g).1).1 n)

-- the next turn, of the next two words
pub next_left : (shape : ShapeView) (g g' g'' : Lcg) (a b left : ℕ) → 0 < left → (a, g') ≡ pcg32 g → (b, g'') ≡ pcg32 g' → turns_left shape g left ≡ seeded_turn shape a b ∷ turns_left shape g'' (left - 1)
next_left shape g g' g'' a b left some first second =
    let n : left ≡ suc (left - 1) = omega (arith, some) in
    ap (turns_left shape g) n ∙ first_turn shape g (left - 1)
    ∙ ap (λ (w : ℕ × Lcg). seeded_turn shape w.0 (pcg32 w.1).0 ∷ turns_left shape (pcg32 w.1).1 (left - 1)) (sym first)
    ∙ ap (λ (w : ℕ × Lcg). seeded_turn shape a w.0 ∷ turns_left shape w.1 (left - 1)) (sym second)

-- ---- a block

-- what is left behind one turn more
pub left_behind : (made : ℕ) (all : List Turn) (t : Turn) (rest : List Turn) → drop made all ≡ t ∷ rest → rest ≡ drop (made + 1) all
left_behind zero [] t rest is = cc
left_behind zero (u ∷ all) t rest is = cc
left_behind (suc n) [] t rest is = cc
left_behind (suc n) (u ∷ all) t rest is = left_behind n all t rest is ∙ ap (λ k. drop k (u ∷ all)) (shift n)
  where
    shift : (n : ℕ) → suc (n + 1) ≡ suc n + 1
    shift n = omega arith

-- and what was before
pub left_before : (made : ℕ) (all : List Turn) (t : Turn) (rest : List Turn) → drop made all ≡ t ∷ rest → take made all ++ t ∷ [] ≡ take (made + 1) all
left_before zero [] t rest is = cc
left_before zero (u ∷ all) t rest is = let same : u ≡ t = cc in rw same refl
left_before (suc n) [] t rest is = cc
left_before (suc n) (u ∷ all) t rest is = ap (λ (ts : List Turn). u ∷ ts) (left_before n all t rest is) ∙ ap (λ k. take k (u ∷ all)) (shift n)
  where
    shift : (n : ℕ) → suc (n + 1) ≡ suc n + 1
    shift n = omega arith

-- a turn is put at a place and another one at the next, or over it
pub put_either : (block : List Turn) (place k : ℕ) (first second other : Turn) → k < 2 → place + 1 < length block → take (place + 1) (slice_set (slice_set block place first) (place + 1 - k) second) ≡ take place block ++ slice_index_or (first ∷ second ∷ []) k other ∷ []
put_either block place zero first second other few inside =
    take-set-le (place + 1) (slice_set block place first) (place + 1 - 0) second (omega arith) ∙ take_more_set block place first (omega (arith, inside))
put_either block place (suc zero) first second other few inside =
    let here : place + 1 - 1 ≡ place = omega arith in
    let within : place < length (slice_set block place first) = omega (arith, inside, length-set block place first) in
    ap (λ (n : ℕ). take (place + 1) (slice_set (slice_set block place first) n second)) here
    ∙ take_more_set (slice_set block place first) place second within
    ∙ ap (λ (ts : List Turn). ts ++ second ∷ []) (take-set-le place block place first (omega arith))
put_either block place (suc (suc k)) first second other few inside = absurd (omega (arith, few))

-- these turns are left
pub left_as : (after before : SeededView) (left : List Turn) → after.shape ≡ before.shape → after.left ≡ left → after ≡ record before { left = left }
left_as after before left of is = ap (λ (s : ShapeView). viewed s after.left) of ∙ ap (λ (ts : List Turn). viewed before.shape ts) is where
  viewed : ShapeView → List Turn → SeededView
  viewed shape turns = record { shape = shape; left = turns }

-- those that stand in front of a block, and the others
front_split : (made : ℕ) (block rest all : List Turn) → made ≤ length block → take made block ++ rest ≡ all → (take made block ≡ take made all) × (drop made all ≡ rest)
front_split zero block rest all few is = (refl, sym is)
front_split (suc made) [] rest all few is = absurd (omega (arith, few))
front_split (suc made) (t ∷ block) rest [] few is = cc
front_split (suc made) (t ∷ block) rest (u ∷ all) few is =
    let first : t ≡ u = cc in
    let others : take made block ++ rest ≡ all = cc in
    let split = front_split made block rest all (omega (arith, few)) others in
    (ap (λ (v : Turn). v ∷ take made block) first ∙ ap (λ (ts : List Turn). u ∷ ts) split.0, split.1)

-- and those are of the generator as it is then
pub front_drawn : (shape : ShapeView) (before after : Lcg) (left made : ℕ) (block all : List Turn) → turns_left shape before left ≡ all → made < left → made ≤ length block
    → take made block ++ turns_left shape after (left - made) ≡ turns_left shape before (made + (left - made))
    → (take made block ≡ take made all) × (drop made all ≡ turns_left shape after (left - made))
front_drawn shape before after left made block all is fewer inside front =
    let whole : made + (left - made) ≡ left = omega (arith, fewer) in
    front_split made block (turns_left shape after (left - made)) all inside (front ∙ ap (turns_left shape before) whole ∙ is)

-- the last one is put there
pub last_before : (made : ℕ) (block all : List Turn) (t : Turn) (rest : List Turn) → made < length block → take made block ≡ take made all → drop made all ≡ t ∷ rest → take (made + 1) (slice_set block made t) ≡ take (made + 1) all
last_before made block all t rest inside front here = take_more_set block made t inside ∙ ap (λ us. us ++ t ∷ []) front ∙ left_before made all t rest here
