-- Machines that are alike can't be told apart by a search, and what came out of a machine stays.
-- Letters: m, n and k are machines, t is a turn.
use Rattle.std.proofs.Common.{◌≡◌, ℕ, Bool, true, List, [], ◌∷◌, ◌&&◌, refl, sym, ap, ◌∙◌}
use Rattle.std.specs.Prelude.{nat_eq}
use Rattle.std.specs.Cmp.Lexicographic.{pointwise}
use Rattle.std.proofs.lemmas.Bool.{eqb-true, eq-eqb}
use Rattle.search_model.specs.DdmTypes.declared.turns.Turn.{Turn}
use Rattle.tree_model.specs.State.Values.{MachineValue}
use Rattle.time_laws.specs.Forget.{Alike}
use Rattle.time_laws.proofs.Alike.{turn-alike}
use Rattle.outcome_model.proofs.AlikeOutcomes.{one-outcome, halt-alike}
use Rattle.outcome_model.proofs.Halted.{halted-stays}
use Rattle.search_laws.specs.Rules.{KeepsAlike, EndsStay}
use Rattle.search_laws.proofs.Lists.{and-first, and-second}
use Rattle.search_model.specs.Machines.{IsStateTest, space_by}

same-text : (a b : List ℕ) → pointwise nat_eq a b ≡ true → a ≡ b
same-text [] [] h = refl
same-text [] (y ∷ ys) h = cc
same-text (x ∷ xs) [] h = cc
same-text (x ∷ xs) (y ∷ ys) h =
    let head : x ≡ y = eqb-true x y (and-first (nat_eq x y) (pointwise nat_eq xs ys) h) in
    let rest : xs ≡ ys = same-text xs ys (and-second (nat_eq x y) (pointwise nat_eq xs ys) h) in
    ap (λ z. z ∷ xs) head ∙ ap (λ l. y ∷ l) rest

own-text : (a : List ℕ) → pointwise nat_eq a a ≡ true
own-text [] = refl
own-text (x ∷ xs) = ap (λ b. b && pointwise nat_eq xs xs) (eq-eqb x x refl) ∙ own-text xs

module _ (same : MachineValue → MachineValue → Bool) (test : IsStateTest same) (turns : MachineValue → List Turn) (turns_alike : (m n : MachineValue) → Alike m n → turns m ≡ turns n) where
  pub keeps-alike : KeepsAlike (space_by same turns) Alike
  keeps-alike = record {
    itself = λ m. record { state = refl; puts = refl };
    back = λ m n a. record { state = sym a.state; puts = sym a.puts };
    through = λ m n k a b. record { state = a.state ∙ b.state; puts = a.puts ∙ b.puts };
    step = turn-alike;
    choices = turns_alike;
    ended = halt-alike;
    outcome = one-outcome;
    same = test.alike;
    found_same = test.finds;
    same_outcome = same-text;
    outcome_itself = own-text;
  }

  pub ends-stay : EndsStay (space_by same turns) Alike
  ends-stay = record {
    ended = λ t m h. (halted-stays t m h).1;
    outcome = λ t m h. (halted-stays t m h).0;
  }
