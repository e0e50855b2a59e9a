-- Steps stay sound, and few of each thread, while cells and rows are added.
use Rattle.std.proofs.Common.{◌≡◌, ℕ, ◌+◌, ◌≤◌, List, [], ◌∷◌, ◌++◌, All, refl, arith}
use Rattle.std.specs.Prelude.{Bool, true, false, nat_eq, nat_lt, OnOk, Result, Ok, Err, if◌then◌else◌}
use Rattle.std.proofs.lemmas.Bool.Decides.{nat_tests}
use Rattle.std.proofs.lemmas.List.Elements.{All-nil, All-cons, All-append, filter-append}
use Rattle.litmus_model.specs.declared.parts.Step.{Step}
use Rattle.litmus_model.specs.declared.parts.Step.TheVariants.{Label, Plain, Branch, Jump}
use Rattle.litmus_model.specs.declared.parts.PlacedStep.{PlacedStep}
use Rattle.litmus_model.specs.Image.{count_of}
use Rattle.litmus_model.specs.Program.{placed, steps_of}
use Rattle.litmus_model.specs.Sound.{IsSoundStep, instruction_count}
use Rattle.litmus_text.specs.declared.judged.Unread.{Unread}
use Rattle.litmus_steps.specs.Made.{IsMade}
use Rattle.litmus_read.specs.Kept.{IsKept}

abbrev IsSoundPlaced : PlacedStep → Type 0
IsSoundPlaced s = IsSoundStep s.step

count_append : (xs ys : List PlacedStep) → instruction_count (xs ++ ys) ≡ instruction_count xs + instruction_count ys
unfolding instruction_count
count_append [] ys = omega arith
count_append (s ∷ xs) ys = rw (count_append xs ys) (omega arith)

counted_append : (k : ℕ) (xs ys : List PlacedStep) → instruction_count (steps_of k (xs ++ ys)) ≡ instruction_count (steps_of k xs) + instruction_count (steps_of k ys)
unfolding steps_of
counted_append k xs ys =
    rw (filter-append (λ (s : PlacedStep). nat_eq s.thread k) xs ys)
    (count_append (steps_of k xs) (steps_of k ys))

label_counted : (b : Bool) (k thread line : ℕ) (name : List ℕ) → nat_eq thread k ≡ b → instruction_count (steps_of k (placed thread line (Label name ∷ []))) ≡ 0
unfolding steps_of instruction_count
label_counted true k thread line name is = rw is refl
label_counted false k thread line name is = rw is refl

count_small : (s : Step) → count_of s ≤ 1
count_small (Label name) = omega arith
count_small (Plain i) = omega arith
count_small (Branch op rs1 rs2 label) = omega arith
count_small (Jump label) = omega arith

made_counted : (b : Bool) (k thread line : ℕ) (made : List Step) → nat_eq thread k ≡ b → IsMade made
    → instruction_count (steps_of k (placed thread line made)) ≤ (if b then 2 else 0)
unfolding steps_of instruction_count
made_counted b k thread line [] is made = absurd made
made_counted true k thread line (s ∷ []) is made = rw is (omega (arith, count_small s))
made_counted false k thread line (s ∷ []) is made = rw is (omega arith)
made_counted true k thread line (s ∷ t ∷ []) is made = rw is (omega (arith, count_small s, count_small t))
made_counted false k thread line (s ∷ t ∷ []) is made = rw is (omega arith)
made_counted b k thread line (s ∷ t ∷ u ∷ ss) is made = absurd made

made_sound : (thread line : ℕ) (made : List Step) → IsMade made → All IsSoundPlaced (placed thread line made)
made_sound thread line [] made = absurd made
made_sound thread line (s ∷ []) made = All-cons IsSoundPlaced (record { thread = thread; line = line; step = s }) [] made (All-nil IsSoundPlaced)
made_sound thread line (s ∷ t ∷ []) made =
    All-cons IsSoundPlaced (record { thread = thread; line = line; step = s }) (record { thread = thread; line = line; step = t } ∷ []) made.0
    (All-cons IsSoundPlaced (record { thread = thread; line = line; step = t }) [] made.1 (All-nil IsSoundPlaced))
made_sound thread line (s ∷ t ∷ u ∷ ss) made = absurd made

room_at : (b c d : Bool) (k thread : ℕ) → nat_lt k thread ≡ b → nat_eq thread k ≡ c → nat_lt k (thread + 1) ≡ d
    → (if b then 2 else 0) + (if c then 2 else 0) ≤ (if d then 2 else 0)
room_at true true d k thread before same next = absurd (grind (arith, nat_tests))
room_at true false true k thread before same next = omega arith
room_at true false false k thread before same next = absurd (grind (arith, nat_tests))
room_at false true true k thread before same next = omega arith
room_at false true false k thread before same next = absurd (grind (arith, nat_tests))
room_at false false d k thread before same next = omega arith

room : (k thread : ℕ) → (if nat_lt k thread then 2 else 0) + (if nat_eq thread k then 2 else 0) ≤ (if nat_lt k (thread + 1) then 2 else 0)
room k thread = room_at (nat_lt k thread) (nat_eq thread k) (nat_lt k (thread + 1)) k thread refl refl refl

pub kept_label : (rows thread t line : ℕ) (name : List ℕ) (steps : List PlacedStep) → IsKept rows thread steps → IsKept rows thread (steps ++ placed t line (Label name ∷ []))
kept_label rows thread t line name steps kept = record {
  sound =
      All-append IsSoundPlaced steps (placed t line (Label name ∷ [])) kept.sound
      (All-cons IsSoundPlaced (record { thread = t; line = line; step = Label name }) [] tt (All-nil IsSoundPlaced));
  near = λ k. rw (counted_append k steps (placed t line (Label name ∷ [])), label_counted (nat_eq t k) k t line name refl) (omega (arith, kept.near k));
}

pub kept_made : (rows thread line : ℕ) (made : List Step) (steps : List PlacedStep) → IsMade made → IsKept rows thread steps → IsKept rows (thread + 1) (steps ++ placed thread line made)
kept_made rows thread line made steps is kept = record {
  sound = All-append IsSoundPlaced steps (placed thread line made) kept.sound (made_sound thread line made is);
  near = λ k. rw (counted_append k steps (placed thread line made)) (omega (arith, kept.near k, made_counted (nat_eq thread k) k thread line made refl is, room k thread));
}

pub kept_nothing : (rows thread : ℕ) (steps : List PlacedStep) → IsKept rows thread steps → IsKept rows (thread + 1) steps
kept_nothing rows thread steps kept = record {
  sound = kept.sound;
  near = λ k. omega (arith, kept.near k, room k thread);
}

pub kept_behind : (r : Result (Unit {0}) Unread) (thread : ℕ) (first mid last : List PlacedStep) → ((before k : ℕ) → IsKept before k first → IsKept before k mid)
    → OnOk r ((before : ℕ) → IsKept before thread mid → IsKept before (thread + 1) last) → OnOk r ((before : ℕ) → IsKept before thread first → IsKept before (thread + 1) last)
kept_behind (Ok done) thread first mid last labels made = λ before kept. made before (labels before thread kept)
kept_behind (Err e) thread first mid last labels made = tt

at_most_two : (b : Bool) → (if b then 2 else 0) ≤ 2
at_most_two true = omega arith
at_most_two false = omega arith

pub kept_row : (rows threads : ℕ) (steps : List PlacedStep) → IsKept rows threads steps → IsKept (rows + 1) 0 steps
kept_row rows threads steps kept = record {
  sound = kept.sound;
  near = λ k. omega (arith, kept.near k, at_most_two (nat_lt k threads));
}

pub kept_none : IsKept 0 0 []
unfolding steps_of instruction_count
kept_none = record { sound = All-nil IsSoundPlaced; near = λ k. omega arith }

pub kept_few : (rows : ℕ) (steps : List PlacedStep) → rows ≤ 256 → IsKept rows 0 steps → IsKept 256 0 steps
kept_few rows steps few kept = record {
  sound = kept.sound;
  near = λ k. omega (arith, kept.near k, few);
}
