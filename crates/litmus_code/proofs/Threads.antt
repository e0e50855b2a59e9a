-- The instructions of each thread, and the word of each leaf, are at their places in the listing.
-- Letters: k is a thread, b a block of instructions, x an instruction.
use Rattle.std.proofs.Common.{◌≡◌, ℕ, zero, suc, ◌+◌, ◌<◌, List, [], ◌∷◌, ◌++◌, length, map, Some, refl, ap, ◌∙◌, arith}
use Rattle.std.specs.Prelude.{slice_get}
use Rattle.std.specs.List.{range_with_len}
use Rattle.std.proofs.lemmas.List.FromFn.{length-map-range_with_len}
use Rattle.rv_decode.specs.declared.instructions.Instr.{Instr}
use Rattle.litmus_model.specs.Image.{begins_from, block_of, blocks_of, code_of, jump_by_number, leaf_word}
use Rattle.litmus_image.specs.Made.{all_of}
use Rattle.litmus_code.specs.Laws.{LeavesAreThere, ThreadsAreThere}
use Rattle.litmus_code.proofs.Listed.{code-is-there}

-- ---- lists after one another

get-left : {A : Type 0} (xs ys : List A) (i : ℕ) (x : A) → slice_get xs i ≡ Some x → slice_get (xs ++ ys) i ≡ Some x
get-left [] ys i x is = absurd (let wrong : ⊥ = cc in wrong)
get-left (y ∷ xs) ys zero x is = is
get-left (y ∷ xs) ys (suc i) x is = get-left xs ys i x is

get-right : {A : Type 0} (xs ys : List A) (i j : ℕ) → i ≡ length xs + j → slice_get (xs ++ ys) i ≡ slice_get ys j
get-right [] ys i j is = let same : i ≡ j = omega (arith, is) in ap (slice_get ys) same
get-right (x ∷ xs) ys zero j is = absurd (omega (arith, is))
get-right (x ∷ xs) ys (suc i) j is = get-right xs ys i j (omega (arith, is))

numbered : {A : Type 0} (f : ℕ → A) (n count k : ℕ) → k < count → slice_get (map f (range_with_len n count)) k ≡ Some (f (n + k))
numbered f n zero k inside = absurd (omega (arith, inside))
numbered f n (suc count) zero inside = let e : n ≡ n + 0 = omega arith in ap (λ (j : ℕ). Some (f j)) e
numbered f n (suc count) (suc k) inside =
    let e : n + 1 + k ≡ n + suc k = omega arith in
    numbered f (n + 1) count k (omega (arith, inside)) ∙ ap (λ (j : ℕ). Some (f j)) e

-- ---- blocks after one another

record InBlocks (bs : List (List Instr)) (at begin place : ℕ) (x : Instr) : Type 0 where
  behind : ℕ
  place_is : begin + place ≡ at + behind
  there : slice_get (all_of bs) behind ≡ Some x

in-blocks : (at : ℕ) (bs : List (List Instr)) (k begin place : ℕ) (b : List Instr) (x : Instr)
    → slice_get bs k ≡ Some b → slice_get (begins_from at bs) k ≡ Some begin → slice_get b place ≡ Some x → InBlocks bs at begin place x
unfolding begins_from
in-blocks at [] k begin place b x block begins is = absurd (let wrong : ⊥ = cc in wrong)
in-blocks at (c ∷ cs) zero begin place b x block begins is =
    let same : c ≡ b = cc in
    let first : at ≡ begin = cc in
    record { behind = place; place_is = omega (arith, first); there = get-left c (all_of cs) place x (ap (λ (l : List Instr). slice_get l place) same ∙ is) }
in-blocks at (c ∷ cs) (suc k) begin place b x block begins is =
    let next = in-blocks (at + length c) cs k begin place b x block begins is in
    record {
      behind = length c + next.behind;
      place_is = (let e = next.place_is in omega (arith, e));
      there = get-right c (all_of cs) (length c + next.behind) next.behind refl ∙ next.there;
    }

-- ---- the listing

module _ (leaves : ℕ) (places : List ℕ) (blocks : List (List Instr)) where
  abbrev words : List Instr
  words = map (leaf_word places (begins_from (4 + leaves) blocks)) (range_with_len 0 leaves)

  leaf-listed : (leaf : ℕ) → leaf < leaves → slice_get (code_of leaves places blocks) (4 + leaf) ≡ Some (leaf_word places (begins_from (4 + leaves) blocks) leaf)
  unfolding code_of
  leaf-listed leaf inside =
      let number : 0 + leaf ≡ leaf = omega arith in
      get-right jump_by_number (words ++ all_of blocks) (4 + leaf) leaf refl
      ∙ get-left words (all_of blocks) leaf (leaf_word places (begins_from (4 + leaves) blocks) leaf)
      (numbered (leaf_word places (begins_from (4 + leaves) blocks)) 0 leaves leaf inside ∙ ap (λ (j : ℕ). Some (leaf_word places (begins_from (4 + leaves) blocks) j)) number)

  block-listed : (k begin place : ℕ) (b : List Instr) (x : Instr) → slice_get blocks k ≡ Some b → slice_get (begins_from (4 + leaves) blocks) k ≡ Some begin → slice_get b place ≡ Some x
      → slice_get (code_of leaves places blocks) (begin + place) ≡ Some x
  unfolding code_of
  block-listed k begin place b x block begins is =
      let at = in-blocks (4 + leaves) blocks k begin place b x block begins is in
      let long = length-map-range_with_len (leaf_word places (begins_from (4 + leaves) blocks)) 0 leaves in
      let from : begin + place ≡ 4 + (leaves + at.behind) = (let e = at.place_is in omega (arith, e)) in
      get-right jump_by_number (words ++ all_of blocks) (begin + place) (leaves + at.behind) from
      ∙ get-right words (all_of blocks) (leaves + at.behind) at.behind (omega (arith, long)) ∙ at.there

-- ---- the machine's code

pub leaves-are-there : LeavesAreThere
leaves-are-there runs test leaves item_bytes named places file image sound few size are made loads leaf inside =
    code-is-there runs test leaves item_bytes named places file image sound few size are made loads (4 + leaf) _ (leaf-listed leaves places (blocks_of runs test item_bytes) leaf inside)

pub threads-are-there : ThreadsAreThere
unfolding blocks_of
threads-are-there runs test leaves item_bytes named places file image sound few size are made loads k begin place x inside begins is =
    let number : 0 + k ≡ k = omega arith in
    let block = numbered (block_of runs test item_bytes) 0 test.threads k inside ∙ ap (λ (j : ℕ). Some (block_of runs test item_bytes j)) number in
    code-is-there runs test leaves item_bytes named places file image sound few size are made loads (begin + place) x
    (block-listed leaves places (blocks_of runs test item_bytes) k begin place (block_of runs test item_bytes k) x block begins is)
