-- The labels of threads, one step or thread more at a time.
use Rattle.std.proofs.Common.{◌≡◌, ℕ, suc, ◌+◌, ◌-◌, ◌<◌, ◌≤◌, List, [], ◌∷◌, length, take, drop, get_or, refl, arith}
use Rattle.std.specs.Prelude.{true, false, ◌||◌, bytes_eq, Some, None, Ok, Err}
use Rattle.std.specs.List.{list_any, range_with_len}
use Rattle.std.proofs.lemmas.List.{drop_all, drop_more, take_more}
use Rattle.litmus_model.specs.declared.parts.PlacedStep.{PlacedStep}
use Rattle.litmus_model.specs.declared.refusal.Fault.TheVariants.{SameLabel, NoLabel}
use Rattle.litmus_model.specs.declared.refusal.TestRefusal.{TestRefusal}
use Rattle.litmus_model.specs.declared.refusal.TestRefusal.TheVariants.{InLine}
use Rattle.litmus_model.specs.Refusing.{and_then}
use Rattle.litmus_model.specs.Program.{goal_of, goals_are_there, is_new, is_there, label_of, labels_differ, labels_of, program_labels, steps_of, thread_labels}

pub no_label : (s : PlacedStep) (w : List ℕ) (others : List PlacedStep) → label_of s.step ≡ None → list_any (bytes_eq w) (labels_of (s ∷ others)) ≡ list_any (bytes_eq w) (labels_of others)
no_label s w others none = rw none refl

pub some_label : (s : PlacedStep) (w name : List ℕ) (others : List PlacedStep) → label_of s.step ≡ Some name
    → list_any (bytes_eq w) (labels_of (s ∷ others)) ≡ (bytes_eq w name || list_any (bytes_eq w) (labels_of others))
some_label s w name others is = rw is refl

pub labels_begun : (ss : List PlacedStep) → labels_differ [] ss ≡ labels_differ (take 0 ss) (drop 0 ss)
labels_begun ss = refl

pub labels_next : (ss : List PlacedStep) (k : ℕ) (d : PlacedStep) → k < length ss → is_new (labels_of (take k ss)) (label_of (get_or ss k d).step) ≡ true
    → labels_differ (take k ss) (drop k ss) ≡ labels_differ (take (k + 1) ss) (drop (k + 1) ss)
unfolding labels_differ
labels_next ss k d inside new = rw (drop_more ss k d inside, new, take_more ss k d inside) refl

pub labels_refused : (ss : List PlacedStep) (k : ℕ) (d : PlacedStep) → k < length ss → is_new (labels_of (take k ss)) (label_of (get_or ss k d).step) ≡ false
    → labels_differ (take k ss) (drop k ss) ≡ Err (InLine (get_or ss k d).line SameLabel)
unfolding labels_differ
labels_refused ss k d inside old = rw (drop_more ss k d inside, old) refl

pub labels_done : (before ss : List PlacedStep) (k : ℕ) → length ss ≤ k → labels_differ before (drop k ss) ≡ Ok 0
unfolding labels_differ
labels_done before ss k past = rw (drop_all k ss past) refl

pub goals_next : (labels : List (List ℕ)) (ss : List PlacedStep) (k : ℕ) (d : PlacedStep) → k < length ss → is_there labels (goal_of (get_or ss k d).step) ≡ true
    → goals_are_there labels (drop k ss) ≡ goals_are_there labels (drop (k + 1) ss)
unfolding goals_are_there
goals_next labels ss k d inside there = rw (drop_more ss k d inside, there) refl

pub goals_refused : (labels : List (List ℕ)) (ss : List PlacedStep) (k : ℕ) (d : PlacedStep) → k < length ss → is_there labels (goal_of (get_or ss k d).step) ≡ false
    → goals_are_there labels (drop k ss) ≡ Err (InLine (get_or ss k d).line NoLabel)
unfolding goals_are_there
goals_refused labels ss k d inside missing = rw (drop_more ss k d inside, missing) refl

pub goals_done : (labels : List (List ℕ)) (ss : List PlacedStep) (k : ℕ) → length ss ≤ k → goals_are_there labels (drop k ss) ≡ Ok 0
unfolding goals_are_there
goals_done labels ss k past = rw (drop_all k ss past) refl

thread_first : (k n : ℕ) → k < n → range_with_len k (n - k) ≡ k ∷ range_with_len (k + 1) (n - (k + 1))
thread_first k n inside = let count : n - k ≡ suc (n - (k + 1)) = omega (arith, inside) in rw count refl

pub threads_next : (k n : ℕ) (program : List PlacedStep) → k < n → thread_labels (steps_of k program) ≡ Ok 0
    → program_labels (range_with_len k (n - k)) program ≡ program_labels (range_with_len (k + 1) (n - (k + 1))) program
unfolding program_labels and_then
threads_next k n program inside good = rw (thread_first k n inside, good) refl

pub threads_refused : (k n : ℕ) (program : List PlacedStep) (r : TestRefusal) → k < n → thread_labels (steps_of k program) ≡ Err r
    → program_labels (range_with_len k (n - k)) program ≡ Err r
unfolding program_labels and_then
threads_refused k n program r inside bad = rw (thread_first k n inside, bad) refl

pub threads_done : (k n : ℕ) (program : List PlacedStep) → n ≤ k → program_labels (range_with_len k (n - k)) program ≡ Ok program
unfolding program_labels
threads_done k n program past = let count : n - k ≡ 0 = omega (arith, past) in rw count refl

-- The labels of a thread.
pub ruleset label_steps = (labels_begun, labels_next, labels_refused, labels_done)

-- The goals of jumps.
pub ruleset goal_steps = (goals_next, goals_refused, goals_done)

-- One thread after another.
pub ruleset thread_steps = (threads_next, threads_refused, threads_done)
