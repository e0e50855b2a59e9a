-- A list without room: its words say that it has no entries, or are refused.
use Rattle.std.proofs.Common.{◌≡◌, ◌∙◌, ap, ℕ, ◌≤◌, List, [], Result, Ok, Err, arith}
use Rattle.top_node.specs.StateReading.declared.StateRefusal.{StateRefusal}
use Rattle.top_node.specs.StateReading.Reading.{Read, times}
use Rattle.top_node.specs.StateReading.Parts.{listed, word_to}
use Rattle.top_node.proofs.StateReading.Steps.{went_on, refused}

module _ {A : Type 0} (step : List A → ℕ → List ℕ → Result (Read (List A)) StateRefusal) where
  pub no_entries : (k : ℕ) (ws : List ℕ) (w j : ℕ) (vs : List ℕ) → w ≤ 0 → word_to 0 k ws ≡ Ok (record { value = w; at = j; rest = vs }) → listed 0 step k ws ≡ Ok (record { value = []; at = j; rest = vs })
  unfolding times
  no_entries k ws w j vs few is =
      let none : w ≡ 0 = omega arith in
      went_on (word_to 0 k ws) (λ count k ws. times step count [] k ws) w j vs is ∙ ap (λ n. times step n [] j vs) none

  pub entries_refused : (k : ℕ) (ws : List ℕ) (e : StateRefusal) → word_to 0 k ws ≡ Err e → listed 0 step k ws ≡ Err e
  entries_refused k ws e is = refused (word_to 0 k ws) (λ count k ws. times step count [] k ws) e is
