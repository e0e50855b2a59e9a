-- The bytes of words, of each the least first.
use Rattle.std.proofs.Common.{◌≡◌, ℕ, ◌+◌, ◌<◌, List, [], ◌∷◌, ◌++◌, length, take, get_or, sym, ap, ◌∙◌, append_assoc}
use Rattle.std.specs.List.{flat_map}
use Rattle.std.specs.Int.{w32, to_le_bytes}
use Rattle.std.proofs.lemmas.List.{append-nil, take_more}
use Rattle.std.proofs.lemmas.Grind.{flat_map-append}
use Rattle.checkpoint.specs.DdmTypes.declared.operations.Op.{Op}
use Rattle.checkpoint.specs.StateWords.Parts.{op_words}

abbrev pub bytes_of : List ℕ → List ℕ
bytes_of ws = flat_map (to_le_bytes w32) ws

-- words, and others behind them
pub bytes-append : (some more : List ℕ) → bytes_of (some ++ more) ≡ bytes_of some ++ bytes_of more
bytes-append some more = flat_map-append (to_le_bytes w32) some more

-- words, two and more, each put behind what was put before
pub parts-behind : (some : List ℕ) (m n : ℕ) (more line first second third : List ℕ) → first ≡ line ++ bytes_of some → second ≡ first ++ bytes_of (m ∷ n ∷ []) → third ≡ second ++ bytes_of more → third ≡ line ++ bytes_of (some ++ m ∷ n ∷ more)
parts-behind some m n more line first second third a b c =
    let two = m ∷ n ∷ [] in
    c
    ∙ ap (λ l. l ++ bytes_of more) (b ∙ ap (λ l. l ++ bytes_of two) a)
    ∙ append_assoc (line ++ bytes_of some) (bytes_of two) (bytes_of more)
    ∙ ap (λ l. (line ++ bytes_of some) ++ l) (sym (bytes-append two more))
    ∙ append_assoc line (bytes_of some) (bytes_of (two ++ more))
    ∙ ap (λ l. line ++ l) (sym (bytes-append some (two ++ more)))

-- one operation more
pub operation-behind : (ops : List Op) (k : ℕ) (o : Op) (old new : List ℕ) → k < length ops → o ≡ get_or ops k o → old ≡ bytes_of (flat_map op_words (take k ops)) → new ≡ old ++ bytes_of (op_words o) → new ≡ bytes_of (flat_map op_words (take (k + 1) ops))
operation-behind ops k o old new inside here before put =
    let some = flat_map op_words (take k ops) in
    put
    ∙ ap (λ l. l ++ bytes_of (op_words o)) before
    ∙ sym (bytes-append some (op_words o))
    ∙ ap (λ l. bytes_of (some ++ l)) (sym (append-nil (op_words o)))
    ∙ ap bytes_of (sym (flat_map-append op_words (take k ops) (o ∷ [])))
    ∙ ap (λ x. bytes_of (flat_map op_words (take k ops ++ x ∷ []))) here
    ∙ ap (λ os. bytes_of (flat_map op_words os)) (sym (take_more ops k o inside))
