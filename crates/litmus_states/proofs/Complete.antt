-- Each run of a log is counted once: for the state to which it came, or as one that hadn't ended, or as one in which a hart faulted.
-- Letters: o is an end, l a line of the table.
use Rattle.std.proofs.Common.{◌≡◌, ◌⊎◌, ℕ, ◌+◌, true, false, cond, List, [], ◌∷◌, length, map, refl, ◌∙◌, arith, inl, inr}
use Rattle.std.specs.Prelude.{nat_eq, sum_by, if◌then◌else◌}
use Rattle.std.specs.List.{AllByRecursion, range_with_len}
use Rattle.std.specs.Cmp.Lexicographic.{pointwise}
use Rattle.std.proofs.lemmas.List.FromFn.{length-map-range_with_len}
use Rattle.std.proofs.lemmas.List.Sums.{sum_by-append, sum_by-cons}
use Rattle.outcome_model.specs.Halted.{all_halted}
use Rattle.outcome_model.specs.Table.{OutcomeLine, counted, in_order, is_outcome, placed, stands_before, table_of, tallied}
use Rattle.outcome_model.proofs.Tables.{table-each}
use Rattle.recording_model.specs.TreeModel.State.Values.{MachineValue}
use Rattle.recording_model.specs.TextModel.Schedule.{ShapeView}
use Rattle.recording_model.specs.declared.SeedKind.{SeedKind}
use Rattle.litmus_model.specs.Test.{Test}
use Rattle.litmus_states.specs.Laws.{RunsAreComplete, state_times}
use Rattle.litmus_states.specs.States.{faulted_end, has_faulted, observed_words, run_states, seed_end, state_by, state_of, states_in, states_table, test_end, test_ends, times_of, unfinished_end}

-- ---- how many runs a table counts

abbrev times : OutcomeLine → ℕ
times l = l.times

counted-times : (seed : ℕ) (o : List ℕ) (ls : List OutcomeLine) → sum_by times (counted seed o ls) ≡ sum_by times ls + 1
unfolding counted
counted-times seed o [] = refl
counted-times seed o (l ∷ ls) =
    elim (is_outcome o l) as (λ b. sum_by times (cond b (record l { times = l.times + 1 } ∷ ls) (l ∷ counted seed o ls)) ≡ sum_by times (l ∷ ls) + 1) [
      | true ↦ (let before = sum_by-cons times l ls in let after = sum_by-cons times (record l { times = l.times + 1 }) ls in omega (arith, before, after))
      | false ↦ (let before = sum_by-cons times l ls in let after = sum_by-cons times l (counted seed o ls) in let rest = counted-times seed o ls in omega (arith, before, after, rest))
    ]

tallied-times : (seed : ℕ) (os : List (List ℕ)) (ls : List OutcomeLine) → sum_by times (tallied seed os ls) ≡ sum_by times ls + length os
unfolding tallied
tallied-times seed [] ls = omega arith
tallied-times seed (o ∷ os) ls = (let one = counted-times seed o ls in let rest = tallied-times (seed + 1) os (counted seed o ls) in omega (arith, one, rest))

placed-times : (l : OutcomeLine) (ls : List OutcomeLine) → sum_by times (placed l ls) ≡ l.times + sum_by times ls
unfolding placed
placed-times l [] = sum_by-cons times l []
placed-times l (k ∷ ks) =
    elim (stands_before k l) as (λ b. sum_by times (cond b (k ∷ placed l ks) (l ∷ k ∷ ks)) ≡ l.times + sum_by times (k ∷ ks)) [
      | true ↦ (let before = sum_by-cons times k ks in let after = sum_by-cons times k (placed l ks) in let rest = placed-times l ks in omega (arith, before, after, rest))
      | false ↦ sum_by-cons times l (k ∷ ks)
    ]

in_order-times : (ls : List OutcomeLine) → sum_by times (in_order ls) ≡ sum_by times ls
unfolding in_order
in_order-times [] = refl
in_order-times (l ∷ ls) = (let one = placed-times l (in_order ls) in let rest = in_order-times ls in let total = sum_by-cons times l ls in omega (arith, one, rest, total))

table-times : (first : ℕ) (os : List (List ℕ)) → sum_by times (table_of first os) ≡ length os
unfolding table_of
table-times first os = (let order = in_order-times (tallied first os []) in let total = tallied-times first os [] in omega (arith, order, total))

-- ---- the three kinds of ends

record IsState (o : List ℕ) : Type 0 where
  words : List ℕ
  is : o ≡ 0 ∷ words

abbrev IsEnd : List ℕ → Type 0
IsEnd o = IsState o ⊎ ((o ≡ unfinished_end) ⊎ (o ≡ faulted_end))

end-is : (test : Test) (item_bytes : ℕ) (places : List ℕ) (m : MachineValue) → IsEnd (test_end test item_bytes places m)
unfolding test_end
end-is test item_bytes places m =
    elim (has_faulted m) as (λ b. IsEnd (cond b faulted_end (cond (all_halted m) (0 ∷ observed_words test item_bytes places m) unfinished_end))) [
      | true ↦ inr (inr refl)
      | false ↦ elim (all_halted m) as (λ b. IsEnd (cond b (0 ∷ observed_words test item_bytes places m) unfinished_end)) [
        | true ↦ inl (record { words = observed_words test item_bytes places m; is = refl })
        | false ↦ inr (inl refl)
      ]
    ]

ends-are : (test : Test) (item_bytes : ℕ) (places : List ℕ) (kind : SeedKind) (shape : ShapeView) (turns : ℕ) (m : MachineValue) (seeds : List ℕ)
    → AllByRecursion IsEnd (map (seed_end test item_bytes places kind shape turns m) seeds)
ends-are test item_bytes places kind shape turns m [] = tt
ends-are test item_bytes places kind shape turns m (seed ∷ seeds) = (end-is test item_bytes places _, ends-are test item_bytes places kind shape turns m seeds)

-- ---- each line is of one kind

abbrev share : List ℕ → ℕ → List ℕ → ℕ
share end n o = if pointwise nat_eq o end then n else 0

line-is : (n seed : ℕ) (o : List ℕ) → IsEnd o → sum_by state_times (state_by n seed o) + share unfinished_end n o + share faulted_end n o ≡ n
line-is n seed o (inl state) =
    let one = sum_by-cons state_times (record { times = n; seed = seed; words = state.words }) [] in
    rw state.is (omega (arith, one))
line-is n seed o (inr (inl is)) = rw is (omega arith)
line-is n seed o (inr (inr is)) = rw is (omega arith)

lines-are : (lines : List OutcomeLine) → AllByRecursion (λ (l : OutcomeLine). IsEnd l.outcome) lines
    → sum_by state_times (states_in lines) + times_of unfinished_end lines + times_of faulted_end lines ≡ sum_by times lines
unfolding states_in times_of
lines-are [] all = refl
lines-are (l ∷ ls) all =
    let here = line-is l.times l.seed l.outcome all.0 in
    let rest = lines-are ls all.1 in
    let states = sum_by-append state_times (state_of l) (states_in ls) in
    let unfinished = sum_by-cons (λ (k : OutcomeLine). share unfinished_end k.times k.outcome) l ls in
    let faulted = sum_by-cons (λ (k : OutcomeLine). share faulted_end k.times k.outcome) l ls in
    let total = sum_by-cons times l ls in
    omega (arith, here, rest, states, unfinished, faulted, total)

pub runs-complete : RunsAreComplete
unfolding run_states states_table
runs-complete test item_bytes places kind shape turns m first count =
    let ends = test_ends test item_bytes places kind shape turns m first count in
    lines-are (table_of first ends) (table-each IsEnd first ends (ends-are test item_bytes places kind shape turns m (range_with_len first count))) ∙ table-times first ends
    ∙ length-map-range_with_len (seed_end test item_bytes places kind shape turns m) first count
