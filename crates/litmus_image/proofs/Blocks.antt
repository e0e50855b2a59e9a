-- The threads' instructions, one thread more at a time; how many they are.
use Rattle.std.proofs.Common.{◌≡◌, ℕ, zero, suc, ◌+◌, ◌*◌, ◌<◌, ◌≤◌, List, [], ◌∷◌, ◌++◌, length, map, get_or, refl, sym, ap, ◌∙◌, arith, append_assoc, length-append}
use Rattle.std.specs.Prelude.{Bool, true, false, All, if◌then◌else◌}
use Rattle.std.specs.List.{flat_map, range_with_len}
use Rattle.std.proofs.lemmas.List.{append-nil}
use Rattle.std.proofs.lemmas.List.FromFn.{map-range_with_len_more, length-map-range_with_len}
use Rattle.std.proofs.lemmas.List.Elements.{All-nil, All-cons}
use Rattle.rv_decode.specs.declared.instructions.Instr.{Instr}
use Rattle.rv_decode.specs.declared.instructions.Instr.TheVariants as instr
use Rattle.litmus_model.specs.declared.parts.Value.{Value}
use Rattle.litmus_model.specs.declared.parts.Value.TheVariants.{Number, Address}
use Rattle.litmus_model.specs.declared.parts.Target.TheVariants.{Register}
use Rattle.litmus_model.specs.declared.parts.Step.{Step}
use Rattle.litmus_model.specs.declared.parts.Step.TheVariants.{Label, Plain, Branch, Jump}
use Rattle.litmus_model.specs.declared.parts.PlacedStep.{PlacedStep}
use Rattle.litmus_model.specs.declared.test.Runs.{Runs}
use Rattle.litmus_model.specs.declared.test.Runs.TheVariants.{OfSeeds, All as AllRuns}
use Rattle.litmus_model.specs.Steps.{load_number}
use Rattle.litmus_model.specs.Init.{is_given}
use Rattle.litmus_model.specs.Program.{steps_of}
use Rattle.litmus_model.specs.Image.{begins_from, block_of, blocks_of, count_of, first_value, is_dirty, leaf_word, own_code, prologue, resolved, resolved_from, setting, setting_one, waiting, warming, warming_load, word_of}
use Rattle.litmus_model.specs.Sound.{IsSound, instruction_count}
use Rattle.litmus_model.specs.Test.{Test}
use Rattle.litmus_image.specs.Made.{all_of, leaf_words}
use Rattle.litmus_image.proofs.Ranges.{flat_map-append}

-- ---- one block

pub whole_block : (old : List Instr) (runs : Runs) (test : Test) (item_bytes k : ℕ)
    → ((old ++ prologue runs test item_bytes k) ++ own_code (steps_of k test.program)) ++ instr.Ebreak ∷ [] ≡ old ++ block_of runs test item_bytes k
unfolding block_of
whole_block old runs test item_bytes k = regroup old (prologue runs test item_bytes k) (own_code (steps_of k test.program)) (instr.Ebreak ∷ []) where
  regroup : (o a b c : List Instr) → ((o ++ a) ++ b) ++ c ≡ o ++ (a ++ b ++ c)
  regroup o a b c = simp append_assoc

flat_short : (f : ℕ → List Instr) (a n : ℕ) → ((r : ℕ) → length (f r) ≤ 3) → length (flat_map f (range_with_len a n)) ≤ 3 * n
flat_short f a zero h = omega arith
flat_short f a (suc n) h =
    let rest = flat_short f (a + 1) n h in
    let first = h a in
    let e = length-append (f a) (flat_map f (range_with_len (a + 1) n)) in
    omega (arith, rest, first, e)

short_load : (rd v : ℕ) → length (load_number rd v) ≡ 2
unfolding load_number
short_load rd v = refl

short_warming_load : (item_bytes : ℕ) (test : Test) (value : Value) → length (warming_load item_bytes test value) ≤ 3
unfolding warming_load load_number
short_warming_load item_bytes test (Number n) = omega arith
short_warming_load item_bytes test (Address name) = omega arith

short_warming : (test : Test) (item_bytes k : ℕ) → length (warming test item_bytes k) ≤ 96
unfolding warming
short_warming test item_bytes k =
    flat_short (λ r. warming_load item_bytes test (first_value test (Register k r))) 0 32 (λ r. short_warming_load item_bytes test (first_value test (Register k r)))

short_chosen : (b c : Bool) (is : List Instr) → length is ≤ 3 → length (if b then is else (if c then is else [])) ≤ 3
short_chosen true c is h = h
short_chosen false true is h = h
short_chosen false false is h = omega arith

short_setting_one : (test : Test) (item_bytes k r : ℕ) → length (setting_one test item_bytes k r) ≤ 3
unfolding setting_one
short_setting_one test item_bytes k r =
    let two = short_load r (word_of test item_bytes (first_value test (Register k r))) in
    short_chosen (is_dirty r) (is_given test.init (Register k r)) (load_number r (word_of test item_bytes (first_value test (Register k r)))) (omega (arith, two))

short_setting : (test : Test) (item_bytes k : ℕ) → length (setting test item_bytes k) ≤ 96
unfolding setting
short_setting test item_bytes k = flat_short (setting_one test item_bytes k) 0 32 (short_setting_one test item_bytes k)

short_prologue : (runs : Runs) (test : Test) (item_bytes k : ℕ) → length (prologue runs test item_bytes k) ≤ 195
unfolding prologue
short_prologue OfSeeds test item_bytes k =
    let a = short_warming test item_bytes k in
    let b = short_setting test item_bytes k in
    let e = length-append (warming test item_bytes k ++ waiting) (setting test item_bytes k) in
    let f = length-append (warming test item_bytes k) waiting in
    omega (arith, a, b, e, f)
short_prologue AllRuns test item_bytes k = let b = short_setting test item_bytes k in omega (arith, b)

short_resolved : (steps : List PlacedStep) (at : ℕ) (s : Step) → length (resolved steps at s) ≡ count_of s
unfolding resolved
short_resolved steps at (Label name) = refl
short_resolved steps at (Plain i) = refl
short_resolved steps at (Branch op rs1 rs2 label) = refl
short_resolved steps at (Jump label) = refl

short_own : (steps : List PlacedStep) (at : ℕ) (ss : List PlacedStep) → length (resolved_from steps at ss) ≡ instruction_count ss
unfolding resolved_from instruction_count
short_own steps at [] = refl
short_own steps at (s ∷ ss) =
    let rest = short_own steps (at + count_of s.step) ss in
    let first = short_resolved steps at s.step in
    let e = length-append (resolved steps at s.step) (resolved_from steps (at + count_of s.step) ss) in
    omega (arith, first, rest, e)

pub short_block : (runs : Runs) (test : Test) (item_bytes k : ℕ) → IsSound test → length (block_of runs test item_bytes k) ≤ 708
unfolding block_of
short_block runs test item_bytes k sound =
    let a = short_prologue runs test item_bytes k in
    let b = short_own (steps_of k test.program) 0 (steps_of k test.program) in
    let c = sound.near k in
    let own = own_code (steps_of k test.program) in
    let e = length-append (prologue runs test item_bytes k ++ own) (instr.Ebreak ∷ []) in
    let f = length-append (prologue runs test item_bytes k) own in
    omega (arith, a, b, c, e, f)

-- ---- all blocks

-- those of so many threads
unfoldable pub first_blocks : Runs → Test → ℕ → ℕ → List (List Instr)
first_blocks runs test item_bytes n = map (block_of runs test item_bytes) (range_with_len 0 n)

pub all_blocks : (runs : Runs) (test : Test) (item_bytes : ℕ) → blocks_of runs test item_bytes ≡ first_blocks runs test item_bytes test.threads
unfolding first_blocks blocks_of
all_blocks runs test item_bytes = refl

one_more : (runs : Runs) (test : Test) (item_bytes n : ℕ) → first_blocks runs test item_bytes (n + 1) ≡ first_blocks runs test item_bytes n ++ block_of runs test item_bytes n ∷ []
unfolding first_blocks
one_more runs test item_bytes n = map-range_with_len_more (block_of runs test item_bytes) 0 n n (omega arith)

pub no_blocks : (runs : Runs) (test : Test) (item_bytes : ℕ) → [] ≡ all_of (first_blocks runs test item_bytes 0)
unfolding first_blocks
no_blocks runs test item_bytes = refl

pub no_begins : (first : ℕ) (runs : Runs) (test : Test) (item_bytes : ℕ) → [] ≡ begins_from first (first_blocks runs test item_bytes 0)
unfolding first_blocks begins_from
no_begins first runs test item_bytes = refl

pub more_blocks : (runs : Runs) (test : Test) (item_bytes n : ℕ)
    → all_of (first_blocks runs test item_bytes n) ++ block_of runs test item_bytes n ≡ all_of (first_blocks runs test item_bytes (n + 1))
more_blocks runs test item_bytes n =
    let all = flat_map-append (λ (block : List Instr). block) (first_blocks runs test item_bytes n) (block_of runs test item_bytes n ∷ []) in
    rw (one_more runs test item_bytes n, all, append-nil (block_of runs test item_bytes n)) refl

begins-append : (at : ℕ) (bs : List (List Instr)) (b : List Instr) → begins_from at (bs ++ b ∷ []) ≡ begins_from at bs ++ (at + length (all_of bs)) ∷ []
unfolding begins_from
begins-append at [] b = ap (λ (n : ℕ). n ∷ []) (omega arith)
begins-append at (c ∷ bs) b =
    let rest = begins-append (at + length c) bs b in
    let e : at + length c + length (all_of bs) ≡ at + length (c ++ all_of bs) = omega (arith, length-append c (all_of bs)) in
    ap (λ (ns : List ℕ). at ∷ ns) (rest ∙ ap (λ (n : ℕ). begins_from (at + length c) bs ++ n ∷ []) e)

pub more_begins : (first : ℕ) (runs : Runs) (test : Test) (item_bytes n : ℕ)
    → begins_from first (first_blocks runs test item_bytes n) ++ (first + length (all_of (first_blocks runs test item_bytes n))) ∷ [] ≡ begins_from first (first_blocks runs test item_bytes (n + 1))
more_begins first runs test item_bytes n =
    rw (one_more runs test item_bytes n) (sym (begins-append first (first_blocks runs test item_bytes n) (block_of runs test item_bytes n)))

-- ---- where blocks begin

length-begins : (at : ℕ) (bs : List (List Instr)) → length (begins_from at bs) ≡ length bs
unfolding begins_from
length-begins at [] = refl
length-begins at (b ∷ bs) = let rest = length-begins (at + length b) bs in rw rest refl

pub as_many_begins : (at : ℕ) (runs : Runs) (test : Test) (item_bytes : ℕ) → length (begins_from at (blocks_of runs test item_bytes)) ≡ test.threads
unfolding blocks_of
as_many_begins at runs test item_bytes =
    length-begins at (blocks_of runs test item_bytes) ∙ length-map-range_with_len (block_of runs test item_bytes) 0 test.threads

begins_within : (at most : ℕ) (bs : List (List Instr)) → at + length (all_of bs) ≤ most → All (λ (begin : ℕ). begin ≤ most) (begins_from at bs)
unfolding begins_from
begins_within at most [] h = All-nil (λ (begin : ℕ). begin ≤ most)
begins_within at most (b ∷ bs) h =
    let e = length-append b (all_of bs) in
    let here : at ≤ most = omega (arith, h) in
    let below : at + length b + length (all_of bs) ≤ most = omega (arith, h, e) in
    All-cons (λ (begin : ℕ). begin ≤ most) at (begins_from (at + length b) bs) here (begins_within (at + length b) most bs below)

short_all : (runs : Runs) (test : Test) (item_bytes : ℕ) → IsSound test → (a n : ℕ) → length (all_of (map (block_of runs test item_bytes) (range_with_len a n))) ≤ 708 * n
short_all runs test item_bytes sound a zero = omega arith
short_all runs test item_bytes sound a (suc n) =
    let first = short_block runs test item_bytes a sound in
    let rest = short_all runs test item_bytes sound (a + 1) n in
    let e = length-append (block_of runs test item_bytes a) (all_of (map (block_of runs test item_bytes) (range_with_len (a + 1) n))) in
    omega (arith, first, rest, e)

pub short_blocks : (runs : Runs) (test : Test) (item_bytes : ℕ) → IsSound test → length (all_of (blocks_of runs test item_bytes)) ≤ 708 * test.threads
unfolding blocks_of
short_blocks runs test item_bytes sound = short_all runs test item_bytes sound 0 test.threads

pub near_begins : (at : ℕ) (runs : Runs) (test : Test) (item_bytes : ℕ) → IsSound test → test.threads ≤ 64 → at ≤ 68 → All (λ (begin : ℕ). begin ≤ 65536) (begins_from at (blocks_of runs test item_bytes))
near_begins at runs test item_bytes sound few early =
    let short = short_blocks runs test item_bytes sound in
    begins_within at 65536 (blocks_of runs test item_bytes) (omega (arith, short, few, early))

pub near_begin : (begins : List ℕ) (k : ℕ) → All (λ (begin : ℕ). begin ≤ 65536) begins → k < length begins → get_or begins k 0 ≤ 65536
near_begin begins k near inside = near k 0 inside

-- ---- the words of the leaves

pub no_leaves : (places begins : List ℕ) → [] ≡ leaf_words places begins 0
unfolding leaf_words
no_leaves places begins = refl

pub more_leaves : (places begins : List ℕ) (n : ℕ) → leaf_words places begins n ++ leaf_word places begins n ∷ [] ≡ leaf_words places begins (n + 1)
unfolding leaf_words
more_leaves places begins n = sym (map-range_with_len_more (leaf_word places begins) 0 n n (omega arith))

-- Where blocks begin.
pub ruleset begins_of_blocks = (as_many_begins, near_begins)
