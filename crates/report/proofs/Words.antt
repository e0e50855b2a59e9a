-- The texts of words, one behind the other.
use Rattle.std.proofs.Common.{◌≡◌, ◌<◌, ◌≤◌, ℕ, ◌+◌, List, [], ◌∷◌, ◌++◌, length, take, get_or, sym, ap, ◌∙◌, append_assoc, arith}
use Rattle.std.specs.Prelude.{codes}
use Rattle.std.proofs.lemmas.Grind.{flat_map-append}
use Rattle.std.proofs.lemmas.List.{append-nil, take_all, take_more}
use Rattle.report.specs.DdmText.Hex.{hex8}
use Rattle.text_model.specs.Report.{word_texts}

abbrev word_text : ℕ → List ℕ
word_text word = codes " " ++ hex8 word

one-word : (words : List ℕ) (k : ℕ) → k < length words → word_texts (take (k + 1) words) ≡ word_texts (take k words) ++ word_text (get_or words k 0)
unfolding word_texts
one-word words k inside =
    ap word_texts (take_more words k 0 inside)
    ∙ flat_map-append word_text (take k words) (get_or words k 0 ∷ [])
    ∙ ap (λ t. word_texts (take k words) ++ t) (append-nil (word_text (get_or words k 0)))

regroup : (s a b : List ℕ) → (s ++ (codes " " ++ a)) ++ (codes " " ++ b) ≡ s ++ (codes " " ++ a ++ codes " " ++ b)
regroup s a b = simp append_assoc

-- those of the first words, and two more
pub two-words : (words : List ℕ) (k : ℕ) → k + 1 < length words → word_texts (take (k + 2) words) ≡ word_texts (take k words) ++ (codes " " ++ hex8 (get_or words k 0) ++ codes " " ++ hex8 (get_or words (k + 1) 0))
two-words words k inside =
    let first = get_or words k 0 in
    let second = get_or words (k + 1) 0 in
    let end : k + 2 ≡ k + 1 + 1 = omega arith in
    ap (λ n. word_texts (take n words)) end
    ∙ one-word words (k + 1) inside
    ∙ ap (λ t. t ++ word_text second) (one-word words k (omega (arith, inside)))
    ∙ regroup (word_texts (take k words)) (hex8 first) (hex8 second)

-- all of them, where one more is the last
pub last-word : (words : List ℕ) (k : ℕ) → k < length words → length words ≤ k + 1 → word_texts words ≡ word_texts (take k words) ++ (codes " " ++ hex8 (get_or words k 0))
last-word words k inside last = ap word_texts (sym (take_all (k + 1) words last)) ∙ one-word words k inside
