-- The steps of a thread, one step more at a time: what is kept and what is left are the whole.
use Rattle.std.proofs.Common.{◌≡◌, ℕ, suc, ◌+◌, ◌<◌, ◌≤◌, List, [], ◌∷◌, ◌++◌, length, drop, get_or, refl, sym, add-one, append_assoc, arith, eq-eqb}
use Rattle.std.specs.Prelude.{nat_eq, false}
use Rattle.std.proofs.Math.Seq.{drop-cons}
use Rattle.std.proofs.Math.ListN.{drop_of_length-le}
use Rattle.std.proofs.lemmas.Bool.Decides.{nat_tests}
use Rattle.std.proofs.lemmas.List.{append-nil}
use Rattle.std.proofs.lemmas.List.Elements.{filter-append}
use Rattle.litmus_model.specs.declared.parts.PlacedStep.{PlacedStep}
use Rattle.litmus_model.specs.Program.{steps_of}

differ : (a b : ℕ) → (a ≡ b → ⊥) → nat_eq a b ≡ false
differ a b h = grind (arith, nat_tests)

pub of_thread : (k : ℕ) (s : PlacedStep) → s.thread ≡ k → steps_of k (s ∷ []) ≡ s ∷ []
unfolding steps_of
of_thread k s same = rw (eq-eqb s.thread k same) refl

pub of_other_thread : (k : ℕ) (s : PlacedStep) (old : List PlacedStep) → (s.thread ≡ k → ⊥) → old ≡ old ++ steps_of k (s ∷ [])
unfolding steps_of
of_other_thread k s old other = rw (differ s.thread k other) (sym (append-nil old))

steps_of-append : (k : ℕ) (ss ts : List PlacedStep) → steps_of k (ss ++ ts) ≡ steps_of k ss ++ steps_of k ts
unfolding steps_of
steps_of-append k ss ts = filter-append (λ (s : PlacedStep). nat_eq s.thread k) ss ts

pub steps_next : (k : ℕ) (old ss : List PlacedStep) (i : ℕ) (d : PlacedStep) → i < length ss
    → old ++ steps_of k (drop i ss) ≡ (old ++ steps_of k (get_or ss i d ∷ [])) ++ steps_of k (drop (i + 1) ss)
steps_next k old ss i d inside =
    rw (add-one, drop-cons ss i d inside, steps_of-append k (get_or ss i d ∷ []) (drop (suc i) ss))
    (sym (append_assoc old (steps_of k (get_or ss i d ∷ [])) (steps_of k (drop (suc i) ss))))

pub steps_done : (k : ℕ) (old ss : List PlacedStep) (i : ℕ) → length ss ≤ i → old ++ steps_of k (drop i ss) ≡ old
unfolding steps_of
steps_done k old ss i past = rw (drop_of_length-le ss past) (append-nil old)
