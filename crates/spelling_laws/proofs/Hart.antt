-- What is read of a hart is what is spelled of it.
use Rattle.std.specs.Prelude.{◌≡◌, ℕ, List, ◌∷◌, ◌++◌, Ok, refl}
use Rattle.std.proofs.Common.{ap}
use Rattle.spelling_laws.specs.TreeModel.State.Values.{LeafValue}
use Rattle.spelling_laws.specs.StateReading.Reading.{Read, any_word, words_that}
use Rattle.spelling_laws.specs.StateReading.Parts.{read_hart, halt_of, halt_has_number}
use Rattle.spelling_laws.specs.StateWords.Parts.{hart_words}
use Rattle.spelling_laws.specs.Spells.{Spells}
use Rattle.spelling_laws.proofs.Numbers.{halt-spelled}
use Rattle.spelling_laws.proofs.Steps.{is_count, is_to, is_if, step, word-step, ended, many-read, spells-both, spells-as}

-- of a leaf whose hart alone was read
pub record HartRead (v : LeafValue) (k : ℕ) (ws : List ℕ) (q : Read LeafValue) : Type 0 where
  pub spells : Spells k ws (hart_words q.value) q.at q.rest
  pub number : q.value.number ≡ v.number
  pub sizes : q.value.sizes ≡ v.sizes

pub hart-read : (v : LeafValue) (k : ℕ) (ws : List ℕ) (q : Read LeafValue) → read_hart v k ws ≡ Ok q → HartRead v k ws q
unfolding read_hart
hart-read v k ws q e =
    step (words_that any_word 31 k ws) _ q e (λ registers is e.
    word-step any_word registers.at registers.rest _ q e (λ pc k1 ws1 w1 p1 e.
    word-step is_count k1 ws1 _ q e (λ done k2 ws2 w2 p2 e.
    word-step (is_to 9) k2 ws2 _ q e (λ code k3 ws3 w3 p3 e.
    word-step (is_if (halt_has_number code)) k3 ws3 _ q e (λ number k4 ws4 w4 p4 e.
    ended (HartRead v k ws) (record { value = record v { hart = record { registers = 0 ∷ registers.value; pc = pc; halt = halt_of code number }; done = done }; at = k4; rest = ws4 }) q
    (record {
      spells = spells-as (ap (λ h. registers.value ++ pc ∷ done ∷ h) (halt-spelled code number p3 p4))
          (spells-both (many-read any_word 31 k ws registers is) (spells-both w1 (spells-both w2 (spells-both w3 w4))));
      number = refl;
      sizes = refl;
    }) e)))))
