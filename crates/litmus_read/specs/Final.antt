-- What the code's answers say of the final section: what is read, and what is left.
use Rattle.std.specs.Prelude.{◌≡◌, ℕ, List, take, drop, Result, Ok, Err, codes, if◌then◌else◌}
use Rattle.std.specs.List.{position_or_len}
use Rattle.litmus_model.specs.declared.parts.Token.{Token}
use Rattle.litmus_model.specs.declared.refusal.TestRefusal.{TestRefusal}
use Rattle.litmus_model.specs.declared.refusal.Fault.TheVariants.{Filter, BadCondition}
use Rattle.litmus_model.specs.declared.test.Quantifier.TheVariants.{Exists, Forall}
use Rattle.litmus_model.specs.Refusing.{Judged, refused}
use Rattle.litmus_model.specs.Tokens.{is_mark, is_part_mark}
use Rattle.litmus_model.specs.Condition.{Observed, Quantified, Final, denied, is_part_word, listed_targets, quantified}
use Rattle.litmus_read.specs.declared.named.Observed as kept
use Rattle.litmus_read.specs.declared.quantifier.Asked as asked
use Rattle.litmus_read.specs.declared.final_section.Final as final

abbrev pub observed_from : List Token → kept.Observed → Observed
observed_from tokens o = record { named = o.named.items; condition = drop o.tokens tokens }

-- what is named up to the first `]`
unfoldable pub listed_in : ℕ → ℕ → List Token → Judged Observed
listed_in threads line tokens =
    listed_targets threads line (take (position_or_len (is_mark 93) tokens) tokens) (drop (position_or_len (is_mark 93) tokens) tokens)

-- what a token asks for, before these others
unfoldable pub asked_by : Token → List Token → Judged Quantified
asked_by t ts =
    if is_part_word (codes "filter") t.part then refused t.line Filter
    else (if is_part_mark 126 t.part then denied t.line ts
    else (if is_part_word (codes "exists") t.part then quantified Exists ts
    else (if is_part_word (codes "forall") t.part then quantified Forall ts
    else refused t.line BadCondition)))

-- what is asked for, with what is left of these tokens
abbrev pub Asks : List Token → Judged Quantified → Result asked.Asked TestRefusal → Type 0
Asks tokens judged (Ok a) = judged ≡ Ok (record { quantifier = a.quantifier; proposition = drop a.tokens tokens })
Asks tokens judged (Err refusal) = judged ≡ Err refusal

abbrev pub final_from : final.Final → Final
final_from f = record { named = f.named.items; quantifier = f.quantifier; chunks = f.chunks.items }
