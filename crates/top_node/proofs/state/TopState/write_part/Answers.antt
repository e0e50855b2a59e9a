use Rattle.std.proofs.Common.{◌≡◌, ℕ, true, List, [], ◌∷◌, ◌++◌, refl, ap, ◌∙◌, append_assoc}
use Rattle.top_node.specs.DdmText.Adds.{◌▸◌}
use Rattle.top_node.specs.StateWords.Parts.{counted, dir_words, down_words, records}
use Rattle.top_node.proofs.state.TopState.write_part.Goals as goal

one-by-one : (xs : List ℕ) (a b c d : ℕ) → xs ++ a ∷ [] ++ b ∷ [] ++ c ∷ [] ++ d ∷ [] ≡ xs ++ a ∷ b ∷ c ∷ d ∷ []
one-by-one xs a b c d =
    append_assoc (xs ++ a ∷ [] ++ b ∷ []) (c ∷ []) (d ∷ [])
    ∙ append_assoc (xs ++ a ∷ []) (b ∷ []) (c ∷ d ∷ [])
    ∙ append_assoc xs (a ∷ []) (b ∷ c ∷ d ∷ [])

pub returns-clause-ok : goal.returns-clause-ok
unfolding dir_words
returns-clause-ok g c = rw (← c.self.view_is, one-by-one (records true c.self.inside.kept ++ counted down_words c.self.inside.down.list) 0 0 0 0) (c.in_ok-push_words.ensures.ok ▸ c.in_ok-write.ensures.ok ▸ c.in_ok-write-2.ensures.ok ▸ c.in_ok-push_words-2.ensures.ok)
