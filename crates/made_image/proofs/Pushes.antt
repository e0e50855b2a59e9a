-- Writing a program, one piece more at a time: what is written and what is left are the whole.
use Rattle.std.proofs.Common.{◌≡◌, ℕ, suc, ◌+◌, ◌-◌, ◌<◌, ◌≤◌, List, [], ◌∷◌, ◌++◌, length, drop, get_or, refl, sym, ap, ◌∙◌, arith, add-one, append_assoc}
use Rattle.std.proofs.Math.Seq.{drop-cons}
use Rattle.std.proofs.Math.ListN.{drop_of_length-le}
use Rattle.std.proofs.lemmas.List.{append-nil}
use Rattle.byteorder.specs.Endian.{little_bytes}
use Rattle.rand_pcg.specs.Lcg.{Lcg}
use Rattle.rand_pcg.specs.Pcg.{pcg32}
use Rattle.made_image.specs.RvDecode.declared.instructions.Instr.{Instr}
use Rattle.made_image.specs.RvDecode.Encode.{encode_of}
use Rattle.text_model.specs.Seeded.{seeded_generator, words_of}
use Rattle.made_image.specs.MadeImage.{ending, made_program, opening, program_bytes, round_of, rounds_of}

-- ---- one program

pub instr_next : (old : List ℕ) (is : List Instr) (k : ℕ) (d : Instr) → k < length is
    → old ++ program_bytes (drop k is) ≡ (old ++ little_bytes 4 (encode_of (get_or is k d))) ++ program_bytes (drop (k + 1) is)
unfolding program_bytes
instr_next old is k d inside = rw (add-one, drop-cons is k d inside) (sym (append_assoc old (little_bytes 4 (encode_of (get_or is k d))) (program_bytes (drop (suc k) is))))

pub instrs_done : (old : List ℕ) (is : List Instr) (k : ℕ) → length is ≤ k → old ++ program_bytes (drop k is) ≡ old
unfolding program_bytes
instrs_done old is k past = rw (drop_of_length-le is past) (append-nil old)

-- ---- rounds

program_bytes-append : (is js : List Instr) → program_bytes (is ++ js) ≡ program_bytes is ++ program_bytes js
unfolding program_bytes
program_bytes-append [] js = refl
program_bytes-append (i ∷ is) js =
    let rest = program_bytes-append is js in
    rw rest (sym (append_assoc (little_bytes 4 (encode_of i)) (program_bytes is) (program_bytes js)))

-- the bytes of so many rounds and of what is behind them
abbrev pub rounds_left : Lcg → ℕ → List ℕ
rounds_left g n = program_bytes (rounds_of (words_of g n) ++ ending)

first_round : (g : Lcg) (n : ℕ) → rounds_left g (suc n) ≡ program_bytes (round_of (pcg32 g).0) ++ rounds_left (pcg32 g).1 n
unfolding rounds_of words_of
first_round g n =
    let w = pcg32 g in
    let rest = rounds_of (words_of w.1 n) in
    ap program_bytes (append_assoc (round_of w.0) rest ending) ∙ program_bytes-append (round_of w.0) (rest ++ ending)

pub round_next : (old : List ℕ) (g g' : Lcg) (word rounds i : ℕ) → i < rounds → (word, g') ≡ pcg32 g
    → old ++ rounds_left g (rounds - i) ≡ (old ++ program_bytes (round_of word)) ++ rounds_left g' (rounds - (i + 1))
round_next old g g' word rounds i inside made =
    let n : rounds - i ≡ suc (rounds - (i + 1)) = omega (arith, inside) in
    let rest = rounds - (i + 1) in
    let first : rounds_left g (rounds - i) ≡ program_bytes (round_of word) ++ rounds_left g' rest =
    ap (rounds_left g) n ∙ first_round g rest
    ∙ ap (λ (w : ℕ × Lcg). program_bytes (round_of w.0) ++ rounds_left w.1 rest) (sym made) in
    ap (λ (more : List ℕ). old ++ more) first ∙ sym (append_assoc old (program_bytes (round_of word)) (rounds_left g' rest))

pub rounds_done : (old : List ℕ) (g : Lcg) (rounds i : ℕ) → rounds ≤ i → old ++ rounds_left g (rounds - i) ≡ old ++ program_bytes ending
unfolding rounds_of words_of
rounds_done old g rounds i past =
    let none : rounds - i ≡ 0 = omega (arith, past) in
    ap (λ (n : ℕ). old ++ rounds_left g n) none

-- before the first round
pub rounds_begun : (seed rounds : ℕ) → ([] ++ program_bytes opening) ++ rounds_left (seeded_generator seed) (rounds - 0) ≡ program_bytes (made_program seed rounds)
unfolding made_program
rounds_begun seed rounds =
    let same : rounds - 0 ≡ rounds = omega arith in
    ap (λ (n : ℕ). program_bytes opening ++ rounds_left (seeded_generator seed) n) same
    ∙ sym (program_bytes-append opening (rounds_of (words_of (seeded_generator seed) rounds) ++ ending))
