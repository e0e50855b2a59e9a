-- The header of a text, one byte more at a time; its first two words.
use Rattle.std.proofs.Common.{◌≡◌, ℕ, ◌+◌, ◌<◌, ◌≤◌, List, [], ◌∷◌, ◌++◌, length, drop, get_or, refl, sym, ◌∙◌, add-one, append_assoc, arith}
use Rattle.std.specs.Prelude.{Bool, true, false, nat_eq, codes, bytes_eq, ◌&&◌, Ok, Err, if◌then◌else◌}
use Rattle.std.specs.List.{list_all}
use Rattle.std.proofs.Math.Seq.{drop-cons}
use Rattle.std.proofs.Math.ListN.{drop_of_length-le}
use Rattle.std.proofs.lemmas.Bool.Decides.{nat_tests}
use Rattle.std.proofs.lemmas.List.{append-nil, drop_more}
use Rattle.litmus_model.specs.declared.refusal.Fault.TheVariants.{BadName, OtherArchitecture}
use Rattle.litmus_model.specs.declared.refusal.TestRefusal.TheVariants.{InLine}
use Rattle.litmus_model.specs.Bytes.{is_between, is_line_feed}
use Rattle.litmus_model.specs.Comments.{next_line}
use Rattle.litmus_model.specs.Sections.{HeadWord, ended_word, head_word, head_word_with, head_words, is_between_words, is_test_name, line_feeds, name_in, name_of}

-- ---- line feeds

feed_case : (b : Bool) (n c : ℕ) (bs : List ℕ) → is_line_feed c ≡ b → n + line_feeds (c ∷ bs) ≡ next_line n c + line_feeds bs
feed_case true n c bs e = rw (e) (omega arith)
feed_case false n c bs e = rw (e) refl

pub feeds_next : (text : List ℕ) (n k d : ℕ) → k < length text → n + line_feeds (drop k text) ≡ next_line n (get_or text k d) + line_feeds (drop (k + 1) text)
feeds_next text n k d inside = rw (drop_more text k d inside) (feed_case (is_line_feed (get_or text k d)) n (get_or text k d) (drop (k + 1) text) refl)

pub feeds_done : (text : List ℕ) (k : ℕ) → length text ≤ k → line_feeds (drop k text) ≡ 0
feeds_done text k past = rw (drop_of_length-le text past) refl

-- ---- words

pub no_word : (old : List HeadWord) (line : ℕ) (word : List ℕ) → length word ≡ 0 → old ≡ old ++ head_word line word
no_word old line [] none = sym (append-nil old)
no_word old line (b ∷ bs) none = absurd (omega (arith, none))

pub one_word : (line : ℕ) (word : List ℕ) → (length word ≡ 0 → ⊥) → head_word line word ≡ record { line = line; bytes = word } ∷ []
one_word line [] some = absurd (some refl)
one_word line (b ∷ bs) some = refl

pub nothing_ends : (old : List HeadWord) (line : ℕ) (word : List ℕ) (b : ℕ) → is_between_words b ≡ false → old ≡ old ++ ended_word line word b
nothing_ends old line word b goes_on = rw goes_on (sym (append-nil old))

pub words_next : (old : List HeadWord) (line : ℕ) (word text : List ℕ) (k d : ℕ) → k < length text
    → old ++ head_words line word (drop k text) ≡ (old ++ ended_word line word (get_or text k d)) ++ head_words (next_line line (get_or text k d)) (head_word_with word (get_or text k d)) (drop (k + 1) text)
unfolding head_words
words_next old line word text k d inside =
    let b = get_or text k d in
    rw (drop_more text k d inside) (sym (append_assoc old (ended_word line word b) (head_words (next_line line b) (head_word_with word b) (drop (k + 1) text))))

pub words_done : (old : List HeadWord) (line : ℕ) (word text : List ℕ) (k : ℕ) → length text ≤ k → old ++ head_words line word (drop k text) ≡ old ++ head_word line word
unfolding head_words
words_done old line word text k past = rw (drop_of_length-le text past) refl

-- ---- bytes of a name

printed : (b : ℕ) → 33 ≤ b → b ≤ 126 → is_between 33 126 b ≡ true
printed b least most = grind (arith, nat_tests)

not_printed : (b : ℕ) → (33 ≤ b → b ≤ 126 → ⊥) → is_between 33 126 b ≡ false
not_printed b other = grind (arith, nat_tests)

pub all_next : (text : List ℕ) (k d : ℕ) → k < length text → 33 ≤ get_or text k d → get_or text k d ≤ 126 → list_all (is_between 33 126) (drop k text) ≡ list_all (is_between 33 126) (drop (k + 1) text)
all_next text k d inside least most = rw (add-one, drop-cons text k d inside, printed (get_or text k d) least most) refl

pub all_failed : (text : List ℕ) (k d : ℕ) → k < length text → (33 ≤ get_or text k d → get_or text k d ≤ 126 → ⊥) → list_all (is_between 33 126) (drop k text) ≡ false
all_failed text k d inside other = rw (drop-cons text k d inside, not_printed (get_or text k d) other) refl

pub all_done : (text : List ℕ) (k : ℕ) → length text ≤ k → list_all (is_between 33 126) (drop k text) ≡ true
all_done text k past = rw (drop_of_length-le text past) refl

-- ---- the name

pub no_name : (line : ℕ) (words : List HeadWord) → length words ≡ 0 → name_in line words ≡ Err (InLine line BadName)
unfolding name_in
no_name line [] none = refl
no_name line (w ∷ ws) none = absurd (omega (arith, none))

name_there : (line : ℕ) (words : List HeadWord) (d : HeadWord) → 0 < length words
    → name_in line words ≡ (if nat_eq (get_or words 0 d).line line && is_test_name (get_or words 0 d).bytes then Ok (get_or words 0 d).bytes else Err (InLine line BadName))
unfolding name_in
name_there line [] d some = absurd (omega (arith, some))
name_there line (w ∷ ws) d some = refl

same_line : (a b : ℕ) → a ≡ b → nat_eq a b ≡ true
same_line a b h = grind (arith, nat_tests)

other_line : (a b : ℕ) → (a ≡ b → ⊥) → nat_eq a b ≡ false
other_line a b h = grind (arith, nat_tests)

pub good_name : (line : ℕ) (words : List HeadWord) (d : HeadWord) → 0 < length words → (get_or words 0 d).line ≡ line → is_test_name (get_or words 0 d).bytes ≡ true
    → name_in line words ≡ Ok (get_or words 0 d).bytes
good_name line words d some here good = name_there line words d some ∙ rw (same_line (get_or words 0 d).line line here, good) refl

pub bad_name : (line : ℕ) (words : List HeadWord) (d : HeadWord) → 0 < length words → is_test_name (get_or words 0 d).bytes ≡ false → name_in line words ≡ Err (InLine line BadName)
bad_name line words d some bad = name_there line words d some ∙ both_false (nat_eq (get_or words 0 d).line line) (is_test_name (get_or words 0 d).bytes) bad where
  both_false : (a b : Bool) → b ≡ false → (if a && b then Ok (get_or words 0 d).bytes else Err (InLine line BadName)) ≡ Err (InLine line BadName)
  both_false true b e = rw e refl
  both_false false b e = refl

pub far_name : (line : ℕ) (words : List HeadWord) (d : HeadWord) → 0 < length words → ((get_or words 0 d).line ≡ line → ⊥) → name_in line words ≡ Err (InLine line BadName)
far_name line words d some other = name_there line words d some ∙ rw (other_line (get_or words 0 d).line line other) refl

pub no_words : (last : ℕ) (words : List HeadWord) → length words ≡ 0 → name_of last words ≡ Err (InLine last OtherArchitecture)
unfolding name_of
no_words last [] none = refl
no_words last (w ∷ ws) none = absurd (omega (arith, none))

pub riscv_word : (last : ℕ) (words : List HeadWord) (d : HeadWord) → 0 < length words → bytes_eq (get_or words 0 d).bytes (codes "RISCV") ≡ true → name_of last words ≡ name_in (get_or words 0 d).line (drop 1 words)
unfolding name_of
riscv_word last [] d some is = absurd (omega (arith, some))
riscv_word last (w ∷ ws) d some is = rw is refl

pub other_word : (last : ℕ) (words : List HeadWord) (d : HeadWord) → 0 < length words → bytes_eq (get_or words 0 d).bytes (codes "RISCV") ≡ false → name_of last words ≡ Err (InLine (get_or words 0 d).line OtherArchitecture)
unfolding name_of
other_word last [] d some is = absurd (omega (arith, some))
other_word last (w ∷ ws) d some is = rw is refl

-- the name, by its first word as the code has it: w as it is opened, v where it is in the list
pub riscv_named : (last : ℕ) (words rest : List HeadWord) (w v : HeadWord) → 0 < length words → w ≡ v → v ≡ get_or words 0 v → bytes_eq w.bytes (codes "RISCV") ≡ true → rest ≡ drop 1 words
    → name_in w.line rest ≡ name_of last words
riscv_named last words rest w v some same there is behind =
    let first : w ≡ get_or words 0 v = same ∙ there in
    let named : bytes_eq (get_or words 0 v).bytes (codes "RISCV") ≡ true = rw (← first) is in
    rw (behind, riscv_word last words v some named, ← first) refl

-- The name of a test.
pub ruleset name_cases = (no_name, good_name, bad_name, far_name)
