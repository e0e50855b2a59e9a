-- A run that ended before all turns were drawn is the same where more turns may be drawn.
-- Letters: t is a turn, ts and us turns, d a drawn turn, ds drawn turns, g a generator, m a machine, o why a run ends before the next
-- turn is drawn, if it does.
use Rattle.std.proofs.Common.{◌≡◌, ◌≤◌, ℕ, zero, suc, ◌+◌, ◌-◌, ◌*◌, List, [], ◌∷◌, ◌++◌, Option, Some, None, map, refl, sym, ap, ◌∙◌, if◌then◌else◌, arith}
use Rattle.std.proofs.lemmas.List.{map-append}
use Rattle.rand_pcg.specs.Lcg.{Lcg}
use Rattle.rand_pcg.specs.Pcg.{pcg32}
use Rattle.recording_model.specs.DdmTypes.declared.turns.Turn.{Turn}
use Rattle.recording_model.specs.TreeModel.State.Values.{MachineValue}
use Rattle.recording_model.specs.TextModel.Schedule.{ShapeView}
use Rattle.recording_model.specs.TextModel.Seeded.{seeded_generator, seeded_turn, seeded_turns, turns_of_words, words_of}
use Rattle.recording_model.specs.declared.RunEnd.{RunEnd}
use Rattle.recording_model.specs.declared.SeedKind.{SeedKind}
use Rattle.recording_model.specs.LetBy.{Draw, draws_of, even_draw, let_by_rate, rate_of, seed_draws, skew_of, skewed_draws}
use Rattle.recording_model.specs.Recording.{Recording, after_draw, draw_does, drawn_limit, end_before, ended, recording_from, recording_of, recording_within, unless_ended, with_draw}

-- ---- a run

abbrev EndsBefore : Recording → Type 0
EndsBefore r = r.end ≡ RunEnd.Drawn → ⊥

unless-more : (o : Option RunEnd) (m : MachineValue) (r s : Recording) → EndsBefore (unless_ended o m s) → (EndsBefore s → r ≡ s) → unless_ended o m r ≡ unless_ended o m s
unless-more None m r s before same = same before
unless-more (Some e) m r s before same = refl

-- where no turn is left to be drawn
unless-none : (o : Option RunEnd) (m : MachineValue) (r : Recording) → EndsBefore (unless_ended o m (ended RunEnd.Drawn m)) → unless_ended o m r ≡ unless_ended o m (ended RunEnd.Drawn m)
unless-none o m r before = unless-more o m r (ended RunEnd.Drawn m) before (λ other. absurd (other refl))

run-more : (ds more : List Draw) (left idle : ℕ) (m : MachineValue) → EndsBefore (recording_from left idle ds m) → recording_from left idle (ds ++ more) m ≡ recording_from left idle ds m
unfolding recording_from
run-more [] [] left idle m before = refl
run-more [] (d ∷ ds) left idle m before =
    let did = draw_does d m in
    unless-none (end_before left idle m) m (with_draw d did (recording_from (if did then left - 1 else left) (if did then 0 else idle + 1) ds (after_draw d m))) before
run-more (d ∷ ds) more left idle m before =
    let did = draw_does d m in
    let now-left = if did then left - 1 else left in
    let now-idle = if did then 0 else idle + 1 in
    let with = with_draw d did in
    unless-more (end_before left idle m) m (with (recording_from now-left now-idle (ds ++ more) (after_draw d m))) (with (recording_from now-left now-idle ds (after_draw d m))) before
    (λ later. ap with (run-more ds more now-left now-idle (after_draw d m) later))

-- ---- the turns of a seed

-- these draws, and others behind
record Begins (all first : List Draw) : Type 0 where
  behind : List Draw
  whole : all ≡ first ++ behind

even-begins : (ts us : List Turn) → Begins (map even_draw (ts ++ us)) (map even_draw ts)
even-begins ts us = record { behind = map even_draw us; whole = map-append even_draw ts us }

skewed-begins : (shape : ShapeView) (rates : List ℕ) (ts us : List Turn) (g : Lcg) → Begins (skewed_draws shape rates g (ts ++ us)) (skewed_draws shape rates g ts)
unfolding skewed_draws
skewed-begins shape rates [] us g = record { behind = skewed_draws shape rates g us; whole = refl }
skewed-begins shape rates (t ∷ ts) us g =
    let by = let_by_rate (rate_of shape rates t) g in
    let d : Draw = record { turn = t; let_by = by.0 } in
    let rest = skewed-begins shape rates ts us by.1 in
    record { behind = rest.behind; whole = ap (λ (ds : List Draw). d ∷ ds) rest.whole }

draws-begin : (kind : SeedKind) (shape : ShapeView) (seed : ℕ) (ts us : List Turn) → Begins (draws_of kind shape seed (ts ++ us)) (draws_of kind shape seed ts)
unfolding draws_of
draws-begin SeedKind.Even shape seed ts us = even-begins ts us
draws-begin SeedKind.Skewed shape seed ts us = let skew = skew_of shape seed in skewed-begins shape skew.rates ts us skew.words

abbrev turns_from : ShapeView → Lcg → ℕ → List Turn
turns_from shape g n = turns_of_words shape (words_of g (2 * n))

turn-first : (shape : ShapeView) (g : Lcg) (n : ℕ) → turns_from shape g (suc n) ≡ (let a = pcg32 g in let b = pcg32 a.1 in seeded_turn shape a.0 b.0 ∷ turns_from shape b.1 n)
unfolding turns_of_words words_of
turn-first shape g n =
    let two : 2 * suc n ≡ suc (suc (2 * n)) = omega arith in
    ap (λ (k : ℕ). turns_of_words shape (words_of g k)) two

-- so many turns of a generator, and others behind
record BeginsTurns (all first : List Turn) : Type 0 where
  behind : List Turn
  whole : all ≡ first ++ behind

turns-begin : (shape : ShapeView) (few more : ℕ) (g : Lcg) → BeginsTurns (turns_from shape g (few + more)) (turns_from shape g few)
unfolding turns_of_words words_of
turns-begin shape zero more g = record { behind = turns_from shape g (zero + more); whole = refl }
turns-begin shape (suc n) more g =
    let a = pcg32 g in
    let b = pcg32 a.1 in
    let t = seeded_turn shape a.0 b.0 in
    let rest = turns-begin shape n more b.1 in
    let next : suc n + more ≡ suc (n + more) = omega arith in
    record { behind = rest.behind; whole = ap (turns_from shape g) next ∙ turn-first shape g (n + more) ∙ ap (λ (ts : List Turn). t ∷ ts) rest.whole ∙ sym (ap (λ (ts : List Turn). ts ++ rest.behind) (turn-first shape g n)) }

seed-begins : (kind : SeedKind) (shape : ShapeView) (seed few more : ℕ) → Begins (seed_draws kind shape seed (few + more)) (seed_draws kind shape seed few)
unfolding seeded_turns
seed-begins kind shape seed few more =
    let turns = turns-begin shape few more (seeded_generator seed) in
    let draws = draws-begin kind shape seed (turns_from shape (seeded_generator seed) few) turns.behind in
    record { behind = draws.behind; whole = ap (draws_of kind shape seed) turns.whole ∙ draws.whole }

-- however many turns more
more-turns : (kind : SeedKind) (shape : ShapeView) (seed turns few more all : ℕ) (m : MachineValue) → few + more ≡ all → EndsBefore (recording_within few kind shape seed turns m) → recording_within all kind shape seed turns m ≡ recording_within few kind shape seed turns m
more-turns kind shape seed turns few more all m sum before =
    let draws = seed-begins kind shape seed few more in
    ap (λ n. recording_within n kind shape seed turns m) (sym sum) ∙ ap (λ (ds : List Draw). recording_from turns 0 ds m) draws.whole ∙ run-more (seed_draws kind shape seed few) draws.behind turns 0 m before

-- a seed that draws so many turns at most
run-most : (most : ℕ) (kind : SeedKind) (shape : ShapeView) (seed turns count : ℕ) (m : MachineValue) → count ≤ most → EndsBefore (recording_within count kind shape seed turns m) → recording_within most kind shape seed turns m ≡ recording_within count kind shape seed turns m
run-most most kind shape seed turns count m few before = more-turns kind shape seed turns count (most - count) most m (omega (arith, few)) before

pub first-turns-suffice : (kind : SeedKind) (shape : ShapeView) (seed turns count : ℕ) (m : MachineValue) → count ≤ drawn_limit → EndsBefore (recording_within count kind shape seed turns m) → recording_of kind shape seed turns m ≡ recording_within count kind shape seed turns m
unfolding recording_of
first-turns-suffice kind shape seed turns count m few before = run-most drawn_limit kind shape seed turns count m few before
