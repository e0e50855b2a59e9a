-- The rounds that there are: what is kept of them while they are made, and how the round of a word is found.
use Rattle.std.proofs.Common.{◌≡◌, ℕ, ◌+◌, ◌%◌, ◌<◌, List, [], ◌∷◌, ◌++◌, length, get_or, refl, sym, ap, ◌∙◌, arith}
use Rattle.std.proofs.lemmas.List.FromFn.{get_or-map-range_with_len, length-map-range_with_len, map-range_with_len_more}
use Rattle.byteorder.specs.Endian.{little_bytes}
use Rattle.made_image.specs.RvDecode.declared.instructions.Instr.{Instr}
use Rattle.made_image.specs.RvDecode.Encode.{encode_of}
use Rattle.made_image.specs.MadeImage.{kind_of, offset_of, program_bytes, round_of}
use Rattle.made_image.specs.Rounds.{first_rounds, round_bytes}

-- the words of two instructions
pub two_words : (is : List Instr) (d e : Instr) → length is ≡ 2 → program_bytes is ≡ little_bytes 4 (encode_of (get_or is 0 d)) ++ little_bytes 4 (encode_of (get_or is 1 e))
unfolding program_bytes
two_words [] d e two = absurd (omega (arith, two))
two_words (i ∷ []) d e two = absurd (omega (arith, two))
two_words (i ∷ j ∷ []) d e two = refl
two_words (i ∷ j ∷ k ∷ is) d e two = absurd (omega (arith, two))

pub no_round : [] ≡ first_rounds 0
unfolding first_rounds
no_round = refl

pub next_round : (word : ℕ) → first_rounds word ++ round_bytes word ∷ [] ≡ first_rounds (word + 1)
unfolding first_rounds
next_round word = sym (map-range_with_len_more round_bytes 0 word word (omega arith))

pub round_inside : (rounds : List (List ℕ)) (word : ℕ) → rounds ≡ first_rounds 256 → word % 256 < length rounds
unfolding first_rounds
round_inside rounds word are =
    let count = ap length are ∙ length-map-range_with_len round_bytes 0 256 in
    omega (arith, count)

same_round : (word : ℕ) → round_of (word % 256) ≡ round_of word
unfolding round_of
same_round word =
    let offset : offset_of (word % 256) ≡ offset_of word = omega arith in
    let kind : kind_of (word % 256) ≡ kind_of word = omega arith in
    rw (offset, kind) refl

pub round_there : (word : ℕ) (d : List ℕ) → get_or (first_rounds 256) (word % 256) d ≡ round_bytes word
unfolding first_rounds
round_there word d = get_or-map-range_with_len round_bytes 0 256 (word % 256) (word % 256) d (omega arith) (omega arith) ∙ ap program_bytes (same_round word)
