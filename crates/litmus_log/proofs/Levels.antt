-- Levels of a condition whose innermost is the last; a search among what is observed; chunks taken one by one.
use Rattle.std.proofs.Common.{◌≡◌, ℕ, ◌+◌, ◌<◌, ◌≤◌, List, [], ◌∷◌, ◌++◌, length, drop, get_or, inl, inr, refl, add-one}
use Rattle.std.specs.Prelude.{◌⊎◌, true, false, fold, min}
use Rattle.std.proofs.Math.Seq.{drop-cons}
use Rattle.std.proofs.Math.ListN.{drop_of_length-le}
use Rattle.std.proofs.lemmas.List.{reverse-append}
use Rattle.litmus_model.specs.declared.parts.Chunk.{Chunk}
use Rattle.litmus_model.specs.declared.parts.Target.{Target}
use Rattle.litmus_model.specs.Init.{same_target}
use Rattle.litmus_model.specs.Satisfies.{Level, observed_word, with_chunk}
use Rattle.litmus_model.specs.Test.{Test}
use Rattle.litmus_log.specs.Levels.{levels_in}
use Rattle.litmus_log.proofs.Either.{either}

-- ---- levels

pub pushed : (ls : List Level) (l : Level) → levels_in (ls ++ l ∷ []) ≡ l ∷ levels_in ls
pushed ls l = reverse-append ls (l ∷ [])

pub none : levels_in [] ≡ []
none = refl

-- ---- the word of a target

pub word_here : (ts : List Target) (ws : List ℕ) (target : Target) (k : ℕ) (d : Target) (e : ℕ) → k < length ts → k < length ws → same_target (get_or ts k d) target ≡ true
    → observed_word (drop k ts) (drop k ws) target ≡ get_or ws k e
word_here ts ws target k d e inside within same = rw (drop-cons ts k d inside, drop-cons ws k e within, same) refl

pub word_later : (ts : List Target) (ws : List ℕ) (target : Target) (k : ℕ) (d : Target) (e : ℕ) → k < length ts → k < length ws → same_target (get_or ts k d) target ≡ false
    → observed_word (drop k ts) (drop k ws) target ≡ observed_word (drop (k + 1) ts) (drop (k + 1) ws) target
word_later ts ws target k d e inside within other = rw (add-one, drop-cons ts k d inside, drop-cons ws k e within, other) refl

nothing_left : (ts : List Target) (target : Target) → observed_word ts [] target ≡ 0
nothing_left [] target = refl
nothing_left (t ∷ ts) target = refl

no_target : (ts : List Target) (ws : List ℕ) (target : Target) (k : ℕ) → length ts ≤ k → observed_word (drop k ts) (drop k ws) target ≡ 0
no_target ts ws target k past = rw (drop_of_length-le ts past) refl

no_more_words : (ts : List Target) (ws : List ℕ) (target : Target) (k : ℕ) → length ws ≤ k → observed_word (drop k ts) (drop k ws) target ≡ 0
no_more_words ts ws target k past = rw (drop_of_length-le ws past) (nothing_left (drop k ts) target)

pub no_word : (ts : List Target) (ws : List ℕ) (target : Target) (k : ℕ) → min (length ts) (length ws) ≤ k → observed_word (drop k ts) (drop k ws) target ≡ 0
no_word ts ws target k past = by (either (length ts) (length ws) k past) where
  by : (length ts ≤ k) ⊎ (length ws ≤ k) → observed_word (drop k ts) (drop k ws) target ≡ 0
  by (inl p) = no_target ts ws target k p
  by (inr p) = no_more_words ts ws target k p

-- a target is found here, or later, or nowhere
pub ruleset word_steps = (word_here, word_later, no_word)

-- ---- chunks

module _ (test : Test) (item_bytes : ℕ) (words : List ℕ) where
  pub chunk_next : (levels : List Level) (chunks : List Chunk) (k : ℕ) (d : Chunk) → k < length chunks
      → fold (with_chunk test item_bytes words) levels (drop k chunks) ≡ fold (with_chunk test item_bytes words) (with_chunk test item_bytes words levels (get_or chunks k d)) (drop (k + 1) chunks)
  chunk_next levels chunks k d inside = rw (add-one, drop-cons chunks k d inside) refl

  pub chunks_done : (levels : List Level) (chunks : List Chunk) (k : ℕ) → length chunks ≤ k → fold (with_chunk test item_bytes words) levels (drop k chunks) ≡ levels
  chunks_done levels chunks k past = rw (drop_of_length-le chunks past) refl

-- one chunk more, or none
pub ruleset chunk_steps = (chunk_next, chunks_done)
