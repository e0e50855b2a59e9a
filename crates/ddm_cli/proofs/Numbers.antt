-- Numbers at the end of a line, one more at a time.
use Rattle.std.proofs.Common.{◌≡◌, ℕ, ◌+◌, ◌<◌, List, [], ◌∷◌, ◌++◌, length, take, slice_index_or, sym, ap, ◌∙◌, append_assoc, add-one}
use Rattle.std.specs.Prelude.{codes, decimal}
use Rattle.std.specs.List.{flat_map}
use Rattle.std.proofs.Math.Seq.{take-suc}
use Rattle.std.proofs.lemmas.List.{append-nil}
use Rattle.std.proofs.lemmas.Grind.{flat_map-append}
use Rattle.ddm_cli.specs.TextModel.Faults.{number_text, number_texts}

number_texts_more : (numbers : List ℕ) (k d : ℕ) → k < length numbers → number_texts (take (k + 1) numbers) ≡ number_texts (take k numbers) ++ number_text (slice_index_or numbers k d)
unfolding number_texts
number_texts_more numbers k d inside =
    let n = slice_index_or numbers k d in
    rw (add-one, take-suc numbers k d inside)
    (flat_map-append number_text (take k numbers) (n ∷ [])
    ∙ ap (λ t. flat_map number_text (take k numbers) ++ t) (append-nil (number_text n)))

pub no_numbers : (line : List ℕ) (numbers : List ℕ) → line ≡ line ++ number_texts (take 0 numbers)
unfolding number_texts
no_numbers line numbers = sym (append-nil line)

pub one_number_more : (first line blank new : List ℕ) (numbers : List ℕ) (k d : ℕ) → k < length numbers
    → line ≡ first ++ number_texts (take k numbers) → blank ≡ line ++ codes " " → new ≡ blank ++ decimal (slice_index_or numbers k d)
    → new ≡ first ++ number_texts (take (k + 1) numbers)
one_number_more first line blank new numbers k d inside was a b =
    let n = slice_index_or numbers k d in
    b ∙ ap (λ s. s ++ decimal n) a ∙ append_assoc line (codes " ") (decimal n) ∙ ap (λ l. l ++ number_text n) was
    ∙ append_assoc first (number_texts (take k numbers)) (number_text n)
    ∙ ap (λ t. first ++ t) (sym (number_texts_more numbers k d inside))
