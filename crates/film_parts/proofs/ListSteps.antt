-- A list in the words of a part, entry by entry: what is left of its words, and of its text.
-- Letters: x is an entry, xs are entries.
use Rattle.std.proofs.Common.{◌≡◌, ℕ, zero, suc, ◌+◌, ◌<◌, ◌≤◌, List, [], ◌∷◌, ◌++◌, codes, drop, length, flat_map, refl, sym, ap, subst, ◌∙◌, append_assoc, append-nil, drop_at, slice_index, arith}
use Rattle.std.specs.Prelude.{⊤}
use Rattle.std.specs.List.{AllByRecursion}
use Rattle.std.proofs.lemmas.List.{drop_all}
use Rattle.film_model.specs.Part.{listed}
use Rattle.film_parts.specs.StateWords.Parts.{counted}
use Rattle.film_parts.specs.Puts.{Puts}

-- the entry at a place, those after it, and what holds of it
pub record Split {X : Type 0} (P : X → Type 0) (place : ℕ) (xs : List X) : Type 0 where
  pub x : X
  pub is : drop place xs ≡ x ∷ drop (suc place) xs
  pub holds : P x

pub split : {X : Type 0} (P : X → Type 0) (place : ℕ) (xs : List X) → place < length xs → AllByRecursion P xs → Split P place xs
split P place [] inside all = absurd (omega arith)
split P zero (x ∷ xs) inside all = record { x = x; is = refl; holds = all.0 }
split P (suc place) (x ∷ xs) inside all =
    let later = split P place xs (omega arith) all.1 in
    record { x = later.x; is = later.is; holds = later.holds }

all_true : {X : Type 0} (xs : List X) → AllByRecursion (λ x. ⊤) xs
all_true [] = tt
all_true (x ∷ xs) = (tt, all_true xs)

-- how many entries there are, by the first word
pub first_word : {words : List ℕ} {count n : ℕ} {rest : List ℕ} → count ≡ slice_index words 0 → words ≡ n ∷ rest → count ≡ n
first_word word is = word ∙ ap (λ (w : List ℕ). slice_index w 0) is

-- a word that was read, and those after it
pub next_words : {words after : List ℕ} {n : ℕ} {rest : List ℕ} → after ≡ drop 1 words → words ≡ n ∷ rest → after ≡ rest
next_words left is = left ∙ ap (drop 1) is

-- the entries of a list that is passed over
pub passed_next : {X : Type 0} (spell : X → List ℕ) (size : ℕ) (xs : List X) (rest : List ℕ) (place : ℕ) (words after : List ℕ) → words ≡ flat_map spell (drop place xs) ++ rest
    → Split (λ x. length (spell x) ≡ size) place xs → after ≡ drop size words → after ≡ flat_map spell (drop (place + 1) xs) ++ rest
passed_next {X} spell size xs rest place words after now one left =
    let more : List ℕ = flat_map spell (drop (suc place) xs) ++ rest in
    let words_are : words ≡ spell one.x ++ more = now ∙ ap (λ (ys : List X). flat_map spell ys ++ rest) one.is ∙ append_assoc (spell one.x) (flat_map spell (drop (suc place) xs)) rest in
    subst (λ n. after ≡ flat_map spell (drop n xs) ++ rest) {x = suc place} {y = place + 1} (omega arith) (left ∙ ap (drop size) words_are ∙ drop_at (spell one.x) more size one.holds)

pub passed_last : {X : Type 0} (spell : X → List ℕ) (xs : List X) (rest : List ℕ) (place : ℕ) (words : List ℕ) → length xs ≤ place → words ≡ flat_map spell (drop place xs) ++ rest → words ≡ rest
passed_last {X} spell xs rest place words past now = now ∙ ap (λ (ys : List X). flat_map spell ys ++ rest) (drop_all place xs past)

module _ {X : Type 0} (spell text : X → List ℕ) (xs : List X) (rest start : List ℕ) where
  -- before the entry at a place: the words that are left, and the text so far
  pub record At (place : ℕ) (words out : List ℕ) : Type 0 where
    pub words_are : words ≡ flat_map spell (drop place xs) ++ rest
    pub text_is : out ++ listed text (drop place xs) ≡ start ++ listed text xs

  pub at_first : (words : List ℕ) → words ≡ drop 1 (counted spell xs ++ rest) → At 0 words start
  at_first words is = record { words_are = is; text_is = refl }

  pub at_next : (P : X → Type 0) (place : ℕ) (words out after grown : List ℕ) → At place words out → Split P place xs
      → ((x : X) (more : List ℕ) → words ≡ spell x ++ more → P x → Puts out grown (codes " |" ++ text x) after more) → At (suc place) after grown
  unfolding listed
  at_next P place words out after grown now one step =
      let more : List ℕ = flat_map spell (drop (suc place) xs) ++ rest in
      let words_are : words ≡ spell one.x ++ more = now.words_are ∙ ap (λ (ys : List X). flat_map spell ys ++ rest) one.is ∙ append_assoc (spell one.x) (flat_map spell (drop (suc place) xs)) rest in
      let put = step one.x more words_are one.holds in
      record {
        words_are = put.left;
        text_is =
            ap (λ (t : List ℕ). t ++ listed text (drop (suc place) xs)) put.added.is
            ∙ append_assoc out (codes " |" ++ text one.x) (listed text (drop (suc place) xs))
            ∙ ap (λ (ys : List X). out ++ listed text ys) (sym one.is) ∙ now.text_is;
      }

  -- as the code counts
  pub at_next_place : (P : X → Type 0) (place : ℕ) (words out after grown : List ℕ) → At place words out → place < length xs → AllByRecursion P xs
      → ((x : X) (more : List ℕ) → words ≡ spell x ++ more → P x → Puts out grown (codes " |" ++ text x) after more) → At (place + 1) after grown
  at_next_place P place words out after grown now inside all step =
      subst (λ n. At n after grown) {x = suc place} {y = place + 1} (omega arith) (at_next P place words out after grown now (split P place xs inside all) step)

  -- where nothing is asked of an entry
  pub at_next_any : (place : ℕ) (words out after grown : List ℕ) → At place words out → place < length xs
      → ((x : X) (more : List ℕ) → words ≡ spell x ++ more → Puts out grown (codes " |" ++ text x) after more) → At (place + 1) after grown
  at_next_any place words out after grown now inside step = at_next_place (λ x. ⊤) place words out after grown now inside (all_true xs) (λ x more is any. step x more is)

  pub at_last : (place : ℕ) (words out : List ℕ) → length xs ≤ place → At place words out → Puts start out (listed text xs) words rest
  unfolding listed
  at_last place words out past now =
      let none : drop place xs ≡ [] = drop_all place xs past in
      record {
        added = record { is = sym (append-nil out) ∙ ap (λ (ys : List X). out ++ listed text ys) (sym none) ∙ now.text_is };
        left = now.words_are ∙ ap (λ (ys : List X). flat_map spell ys ++ rest) none;
      }
