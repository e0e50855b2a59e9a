-- A hart that is spelled is read again.
use Rattle.std.specs.Prelude.{◌≡◌, ℕ, ◌≤◌, true, List, [], ◌∷◌, ◌++◌, length, drop, slice_index, Ok, refl}
use Rattle.std.specs.List.{list_all}
use Rattle.std.proofs.Common.{sym, ap, ◌∙◌, arith}
use Rattle.std.proofs.lemmas.Bool.{le-leb}
use Rattle.spelling_laws.specs.TreeModel.State.Values.{LeafValue}
use Rattle.spelling_laws.specs.StateReading.Reading.{any_word, words_that}
use Rattle.spelling_laws.specs.StateReading.Parts.{most_counted, read_hart, halt_of, halt_has_number}
use Rattle.spelling_laws.specs.StateWords.Parts.{hart_words}
use Rattle.value_laws.specs.Values.{HartHasForm}
use Rattle.spelling_laws.proofs.Codes.{halt-coded}
use Rattle.spelling_laws.proofs.Steps.{is_count, is_to, is_if, spells-as}
use Rattle.spelling_laws.proofs.Taken.{Takes, take-part, take-word, taken-all, words-taken}

any-pass : (us : List ℕ) → list_all any_word us ≡ true
any-pass [] = refl
any-pass (u ∷ us) = any-pass us

-- x0, and the other registers
first-zero : (rs : List ℕ) → length rs ≡ 32 → slice_index rs 0 ≡ 0 → 0 ∷ drop 1 rs ≡ rs
first-zero [] size first = absurd (omega (arith, size))
first-zero (r ∷ rs) size first = ap (λ x. x ∷ rs) (sym first)

others-many : (rs : List ℕ) → length rs ≡ 32 → length (drop 1 rs) ≡ 31
others-many [] size = absurd (omega (arith, size))
others-many (r ∷ rs) size = omega (arith, size)

pub hart-taken : (v w : LeafValue) → HartHasForm w.hart → w.done ≤ most_counted → Takes (read_hart v) (hart_words w) (record v { hart = w.hart; done = w.done })
unfolding read_hart
hart-taken v w form few k at ws rest s =
    let h = halt-coded w.hart.halt in
    let registers = drop 1 w.hart.registers in
    let size = others-many w.hart.registers form.registers.count in
    take-part (words_that any_word 31) k ws _ _ registers registers (words-taken any_word 31 registers size (any-pass registers)) (w.hart.pc ∷ w.done ∷ h.code ∷ h.number ∷ []) at rest
    (spells-as (ap (λ l. registers ++ w.hart.pc ∷ w.done ∷ l) h.words) s) (λ k1 ws1 s1.
    take-word any_word k1 ws1 _ _ w.hart.pc refl (w.done ∷ h.code ∷ h.number ∷ []) at rest s1 (λ k2 ws2 s2.
    take-word is_count k2 ws2 _ _ w.done (le-leb _ _ few) (h.code ∷ h.number ∷ []) at rest s2 (λ k3 ws3 s3.
    take-word (is_to 9) k3 ws3 _ _ h.code h.most (h.number ∷ []) at rest s3 (λ k4 ws4 s4.
    take-word (is_if (halt_has_number h.code)) k4 ws4 _ _ h.number h.fits [] at rest s4 (λ k5 ws5 s5.
    let all = first-zero w.hart.registers form.registers.count form.zero in
    taken-all _ k5 at ws5 rest s5
    ∙ ap (λ rs. Ok (record { value = record v { hart = record { registers = rs; pc = w.hart.pc; halt = halt_of h.code h.number }; done = w.done }; at = at; rest = rest })) all
    ∙ ap (λ o. Ok (record { value = record v { hart = record { registers = w.hart.registers; pc = w.hart.pc; halt = o }; done = w.done }; at = at; rest = rest })) h.back)))))
