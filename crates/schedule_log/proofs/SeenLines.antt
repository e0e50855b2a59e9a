-- Lines that are told by the front of a text.
-- Letters: turn is a turn, used how many bytes its line has with its line feed, rest and more what is behind them.
use Rattle.std.proofs.Common.{◌≡◌, ℕ, ◌+◌, ◌-◌, ◌<◌, ◌≤◌, true, List, ◌++◌, length, take, drop, Option, None, Some, refl, sym, ap, subst, ◌∙◌, arith}
use Rattle.std.specs.Prelude.{codes, is_none}
use Rattle.std.proofs.lemmas.Bool.{lt-ltb}
use Rattle.std.proofs.lemmas.List.{length-append, take-append-drop}
use Rattle.std.proofs.Math.Seq.{take-add, take-append_seam, take-take}
use Rattle.schedule_log.specs.DdmTypes.declared.turns.Turn.{Turn}
use Rattle.text_model.specs.Schedule.{ShapeView, refusal_of_turn, turn_fault, turn_text}
use Rattle.schedule_log.specs.Seen.{IsFrontOf, IsSeen, IsSeenLine}
use Rattle.schedule_log.specs.Spelled.{BeginsWithLine}
use Rattle.schedule_log.specs.declared.front.Front.{Front}
use Rattle.schedule_log.specs.declared.steps.Step.{Step}
use Rattle.schedule_log.specs.Steps.{BeginsWithTurn, StepGives, step_by}
use Rattle.schedule_log.proofs.FirstLines.{lengths, spelled_step}

pub none-is : {A : Type 0} (o : Option A) → is_none o ≡ true → o ≡ None
none-is None e = refl
none-is (Some a) e = cc

-- the step of a line that isn't remembered
pub new-step : (shape parts : ShapeView) (lines made : ℕ) (text : List ℕ) (turn : Turn) (rest : List ℕ) (step : Step) → parts ≡ shape → BeginsWithLine text turn rest → step ≡ step_by (refusal_of_turn parts made turn) lines turn (length text - length rest) → StepGives shape lines made text step
new-step shape parts lines made text turn rest step same begins is =
    subst (StepGives shape lines made text) (sym (is ∙ ap (λ p. step_by (refusal_of_turn p made turn) lines turn (length text - length rest)) same)) (spelled_step shape lines made text turn rest _ _ begins refl refl)

-- a text that begins with a line that is remembered begins with its turn
pub seen-step : (shape : ShapeView) (lines made : ℕ) (text : List ℕ) (turn : Turn) (used : ℕ) → made < 1048576 → IsSeenLine shape text turn used → BeginsWithTurn shape lines made text turn used
seen-step shape lines made text turn used room seen =
    let behind : used ≡ length text - length (drop used text) = omega (arith, seen.many, lengths text turn (drop used text) seen.line) in
    let judged : refusal_of_turn shape made turn ≡ None = rw (lt-ltb made 1048576 room) seen.fault in
    spelled_step shape lines made text turn (drop used text) used None seen.line behind judged

-- ---- a line that is remembered anew

-- the first eight bytes and the last four are all
front-told : (xs ys : List ℕ) (n : ℕ) → 4 ≤ n → n ≤ 12 → take 8 xs ≡ take 8 ys → take 4 (drop (n - 4) xs) ≡ take 4 (drop (n - 4) ys) → take n xs ≡ take n ys
front-told xs ys n some few head last =
    cut xs ∙ ap (λ (t : List ℕ). take (n - 4) t ++ take 4 (drop (n - 4) xs)) head ∙ ap (λ (t : List ℕ). take (n - 4) (take 8 ys) ++ t) last ∙ sym (cut ys)
  where
    both : n ≡ n - 4 + 4
    both = omega (arith, some)

    inside : n - 4 ≤ 8
    inside = omega (arith, few)

    cut : (xs : List ℕ) → take n xs ≡ take (n - 4) (take 8 xs) ++ take 4 (drop (n - 4) xs)
    cut xs = ap (λ m. take m xs) both ∙ take-add (n - 4) 4 xs ∙ ap (λ (t : List ℕ). t ++ take 4 (drop (n - 4) xs)) (sym (take-take (n - 4) 8 xs inside))

pub seen-anew : (shape : ShapeView) (text : List ℕ) (front : Front) (turn : Turn) (rest : List ℕ) (used : ℕ) → IsFrontOf text front → BeginsWithLine text turn rest → used ≡ length text - length rest → used ≡ front.used → used ≤ 12 → turn_fault shape turn ≡ None
    → IsSeen shape front turn
seen-anew shape text front turn rest used own begins so_many same few known other there =
    let line = turn_text turn ++ codes "\n" in
    let many : used ≡ length (turn_text turn) + 1 = omega (arith, so_many, lengths text turn rest begins) in
    let whole : front.used ≡ length line = sym same ∙ many ∙ sym (length-append (turn_text turn) (codes "\n")) in
    let here : take front.used text ≡ line = ap (λ n. take n text) whole ∙ ap (λ t. take (length line) t) begins.front.is ∙ take-append_seam line rest in
    let told = front-told other text front.used (omega (arith, own.some)) (omega (arith, same, few)) (sym there.head ∙ own.head) (sym there.last ∙ own.last) in
    record {
      line = record { front = record { is = sym (take-append-drop front.used other) ∙ ap (λ t. t ++ drop front.used other) (told ∙ here) }; says = begins.says; lacks = begins.lacks };
      many = sym same ∙ many;
      fault = known;
    }
