-- A file that is text, and one that isn't.
use Rattle.std.proofs.Common.{ℕ, ◌≡◌, ◌≤◌, Bool, true, false, List, length, Err, refl, arith}
use Rattle.std.specs.Prelude.{nat_lt}
use Rattle.std.specs.Str.{IsUtf8, is_utf8}
use Rattle.std.proofs.lemmas.Str.{IsUtf8-from_is_utf8, is_utf8-from_IsUtf8}
use Rattle.std.proofs.lemmas.Bool.Decides.{nat_tests}
use Rattle.toml.specs.Parse.{parse_document}
use Rattle.tree_config.specs.declared.refusal.TreeRefusal.TheVariants as refusal
use Rattle.tree_config.specs.TreeFile.{tree_of, tree_of_table}

not_longer : (n : ℕ) → n ≤ 65536 → nat_lt 65536 n ≡ false
not_longer n h = grind (arith, nat_tests)

false_from : (b : Bool) → (b ≡ true → ⊥) → b ≡ false
false_from true h = absurd (h refl)
false_from false h = refl

pub tree_of-text : (bytes : List ℕ) → length bytes ≤ 65536 → IsUtf8 bytes → tree_of bytes ≡ tree_of_table (parse_document bytes)
unfolding tree_of
tree_of-text bytes short text = rw (not_longer (length bytes) short, is_utf8-from_IsUtf8 bytes text)

pub tree_of-not_text : (bytes : List ℕ) → length bytes ≤ 65536 → ¬ (IsUtf8 bytes) → tree_of bytes ≡ Err refusal.NotToml
unfolding tree_of
tree_of-not_text bytes short other = rw (not_longer (length bytes) short, false_from (is_utf8 bytes) (λ h. other (IsUtf8-from_is_utf8 bytes h)))
