-- A thread's own instructions, one step more at a time: what is done and what is left are the whole.
use Rattle.std.proofs.Common.{◌≡◌, ℕ, suc, ◌+◌, ◌<◌, ◌≤◌, List, ◌++◌, length, drop, get_or, refl, sym, add-one, append_assoc}
use Rattle.std.specs.Prelude.{true, false}
use Rattle.std.proofs.Math.Seq.{drop-cons}
use Rattle.std.proofs.Math.ListN.{drop_of_length-le}
use Rattle.std.proofs.lemmas.List.{append-nil}
use Rattle.rv_decode.specs.declared.instructions.Instr.{Instr}
use Rattle.litmus_model.specs.declared.parts.Step.TheVariants.{Label}
use Rattle.litmus_model.specs.declared.parts.PlacedStep.{PlacedStep}
use Rattle.litmus_model.specs.Image.{count_of, is_label_of, label_place, resolved, resolved_from}
use Rattle.litmus_model.specs.Sound.{instruction_count}

-- ---- labels

pub label_found : (name : List ℕ) (ss : List PlacedStep) (i : ℕ) (d : PlacedStep) → i < length ss → is_label_of name (get_or ss i d).step ≡ true → label_place name (drop i ss) ≡ 0
unfolding label_place
label_found name ss i d inside found = rw (drop-cons ss i d inside, found) refl

pub label_next : (name : List ℕ) (ss : List PlacedStep) (i : ℕ) (d : PlacedStep) → i < length ss → is_label_of name (get_or ss i d).step ≡ false
    → label_place name (drop i ss) ≡ count_of (get_or ss i d).step + label_place name (drop (i + 1) ss)
unfolding label_place
label_next name ss i d inside other = rw (add-one, drop-cons ss i d inside, other) refl

pub label_done : (name : List ℕ) (ss : List PlacedStep) (i : ℕ) → length ss ≤ i → label_place name (drop i ss) ≡ 0
unfolding label_place
label_done name ss i past = rw (drop_of_length-le ss past) refl

pub count_next : (ss : List PlacedStep) (i : ℕ) (d : PlacedStep) → i < length ss → instruction_count (drop i ss) ≡ count_of (get_or ss i d).step + instruction_count (drop (i + 1) ss)
unfolding instruction_count
count_next ss i d inside = rw (add-one, drop-cons ss i d inside) refl

pub count_done : (ss : List PlacedStep) (i : ℕ) → length ss ≤ i → instruction_count (drop i ss) ≡ 0
unfolding instruction_count
count_done ss i past = rw (drop_of_length-le ss past) refl

-- ---- instructions

pub none_resolved : (old : List Instr) (steps : List PlacedStep) (at : ℕ) (name : List ℕ) → old ≡ old ++ resolved steps at (Label name)
unfolding resolved
none_resolved old steps at name = sym (append-nil old)

pub own_next : (old : List Instr) (steps ss : List PlacedStep) (at i : ℕ) (d : PlacedStep) → i < length ss
    → old ++ resolved_from steps at (drop i ss) ≡ (old ++ resolved steps at (get_or ss i d).step) ++ resolved_from steps (at + count_of (get_or ss i d).step) (drop (i + 1) ss)
unfolding resolved_from
own_next old steps ss at i d inside =
    rw (add-one, drop-cons ss i d inside)
    (sym (append_assoc old (resolved steps at (get_or ss i d).step) (resolved_from steps (at + count_of (get_or ss i d).step) (drop (suc i) ss))))

pub own_done : (old : List Instr) (steps ss : List PlacedStep) (at i : ℕ) → length ss ≤ i → old ++ resolved_from steps at (drop i ss) ≡ old
unfolding resolved_from
own_done old steps ss at i past = rw (drop_of_length-le ss past) (append-nil old)

-- The place of a label.
pub ruleset label_search = (label_found, label_next, label_done)

-- How many instructions there are.
pub ruleset count_steps = (count_next, count_done)

-- A thread's own instructions.
pub ruleset own_steps = (own_next, own_done)
