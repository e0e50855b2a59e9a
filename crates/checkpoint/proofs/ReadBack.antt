-- What is saved of a machine that keeps the rules, and whose words are words, is read back.
-- Letters: m is the machine, fresh the one before its first turn, c the counts of the run, ws are words.
use Rattle.std.specs.Prelude.{◌≡◌, ℕ, ◌+◌, ◌*◌, ◌≤◌, true, false, nat_eq, nat_lt, nat_le, List, [], ◌∷◌, ◌++◌, length, Some, None, Ok, Err, refl, if◌then◌else◌}
use Rattle.std.proofs.Common.{ap, sym, ◌∙◌, subst, arith, append-nil}
use Rattle.std.proofs.lemmas.Bool.{eq-eqb, le-leb, le-ltb}
use Rattle.checkpoint.specs.TreeModel.State.Lists.{first_some}
use Rattle.checkpoint.specs.TreeModel.State.Values.{MachineValue}
use Rattle.checkpoint.specs.TreeModel.State.Shape.{frame_of, shape_test, IsShaped}
use Rattle.checkpoint.specs.TextModel.declared.RunCounts.{RunCounts}
use Rattle.checkpoint.specs.StateWords.declared.MachineSizes.{MachineSizes}
use Rattle.checkpoint.specs.StateWords.Machine.{sizes_of, state_words, head_words, checkpoint_words, checkpoint_bytes}
use Rattle.checkpoint.specs.StateReading.Parts.{most_counted}
use Rattle.checkpoint.specs.StateReading.Reading.{and_then}
use Rattle.checkpoint.specs.StateReading.Machine.{read_words}
use Rattle.checkpoint.specs.StateJudging.Judged.{judged, unless_judged, read_state}
use Rattle.checkpoint.specs.StateJudging.Read.{CanRead}
use Rattle.spelling_laws.specs.Small.{IsSmall}
use Rattle.spelling_laws.specs.Spelled.{IsSpelled}
use Rattle.spelling_laws.proofs.MachineTaken.{spelled-read}
use Rattle.spelling_laws.proofs.SmallWords.{checkpoint-small}
use Rattle.checkpoint.specs.declared.ResumeRefusal.{ResumeRefusal}
use Rattle.checkpoint.specs.Saved.{saved}
use Rattle.checkpoint.specs.Fits.{CountsFit}
use Rattle.checkpoint.specs.Resumed.{whole_words, size_words, other_machine, bad_count, bad_head, resumed_by, resumed_unless, bad_name, resumed}
use Rattle.checkpoint.proofs.Accepted.{sizes-framed, frame_sizes}
use Rattle.checkpoint.proofs.Bytes.{words-again}
use Rattle.checkpoint.proofs.FileWords.{bytes-long}

-- ---- the head

own-sizes : (ns : List ℕ) (k : ℕ) (ws : List ℕ) → other_machine ns k (ns ++ ws) ≡ None
own-sizes [] k ws = refl
own-sizes (n ∷ ns) k ws =
    let same : nat_eq n n ≡ true = eq-eqb n n refl in
    ap (λ b. first_some (if b then None else Some (ResumeRefusal.OtherMachine k)) (other_machine ns (k + 1) (ns ++ ws))) same ∙ own-sizes ns (k + 1) ws

count-fits : (k w : ℕ) (ws : List ℕ) → w ≤ most_counted → bad_count k (w ∷ ws) ≡ None
count-fits k w ws fits = let pass : nat_le w most_counted ≡ true = le-leb _ _ fits in ap (λ b. if b then None else Some (ResumeRefusal.BadWord k)) pass

abbrev words_with : MachineSizes → RunCounts → List ℕ → List ℕ
words_with s c state = 0x434d4444 ∷ 1 ∷ s.leaves ∷ s.buses ∷ s.items ∷ s.item_words ∷ s.ways ∷ c.turns ∷ c.retired ∷ c.granted ∷ c.busy ∷ state

head-fits : (s : MachineSizes) (c : RunCounts) (state : List ℕ) → CountsFit c → bad_head s (words_with s c state) ≡ None
head-fits s c state fit =
    let sizes = own-sizes (size_words s) 2 (c.turns ∷ c.retired ∷ c.granted ∷ c.busy ∷ state) in
    let busy = count-fits 10 c.busy state fit.busy in
    let granted = count-fits 9 c.granted (c.busy ∷ state) fit.granted in
    let retired = count-fits 8 c.retired (c.granted ∷ c.busy ∷ state) fit.retired in
    let turns = count-fits 7 c.turns (c.retired ∷ c.granted ∷ c.busy ∷ state) fit.turns in
    ap (λ o. first_some o (first_some (bad_count 7 (c.turns ∷ c.retired ∷ c.granted ∷ c.busy ∷ state)) (first_some (bad_count 8 (c.retired ∷ c.granted ∷ c.busy ∷ state)) (first_some (bad_count 9 (c.granted ∷ c.busy ∷ state)) (bad_count 10 (c.busy ∷ state)))))) sizes
    ∙ ap (λ o. first_some o (first_some (bad_count 8 (c.retired ∷ c.granted ∷ c.busy ∷ state)) (first_some (bad_count 9 (c.granted ∷ c.busy ∷ state)) (bad_count 10 (c.busy ∷ state))))) turns
    ∙ ap (λ o. first_some o (first_some (bad_count 9 (c.granted ∷ c.busy ∷ state)) (bad_count 10 (c.busy ∷ state)))) retired
    ∙ ap (λ o. first_some o (bad_count 10 (c.busy ∷ state))) granted ∙ busy

name-fits : (bytes : ℕ) (s : MachineSizes) (c : RunCounts) (state : List ℕ) → bytes ≤ 536870912 → 8 ≤ bytes → bad_name bytes (words_with s c state) ≡ None
name-fits bytes s c state most least =
    let long : nat_lt 536870912 bytes ≡ false = le-ltb _ _ most in
    let short : nat_lt bytes 8 ≡ false = le-ltb _ _ least in
    ap (λ b. if b then Some ResumeRefusal.TooLong else (if nat_lt bytes 8 then Some ResumeRefusal.NotCheckpoint else None)) long ∙ ap (λ b. if b then Some ResumeRefusal.NotCheckpoint else None) short

-- ---- the state

state-fits : (fresh m : MachineValue) → CanRead fresh → frame_of m ≡ frame_of fresh → IsSpelled m → judged m ≡ None → read_state fresh (length m.ops) 11 (state_words m) ≡ Ok (record { value = m; at = 11 + length (state_words m); rest = [] })
unfolding read_state
state-fits fresh m can frame spelled none =
    let read : read_words fresh (length m.ops) 11 (state_words m) ≡ Ok (record { value = m; at = 11 + length (state_words m); rest = [] }) = ap (read_words fresh (length m.ops) 11) (sym (append-nil (state_words m))) ∙ spelled-read fresh m 11 [] can frame spelled in
    ap (λ r. and_then r (λ m k ws. unless_judged (judged m) m k ws)) read ∙ ap (λ o. unless_judged o m (11 + length (state_words m)) []) none

-- ---- the file

pub saved-read : (fresh m : MachineValue) (c : RunCounts) → CanRead fresh → frame_of m ≡ frame_of fresh → IsSpelled m → IsSmall m → judged m ≡ None → c.retired ≡ length m.ops → CountsFit c
    → length (saved m c) ≤ 536870912 → resumed fresh (saved m c) ≡ Ok (record { machine = m; counts = c })
unfolding resumed checkpoint_bytes checkpoint_words head_words
saved-read fresh m c can frame spelled few none retired fit most =
    let shaped : IsShaped m = record { each = λ r. subst (λ f. shape_test r f ≡ true) (sym frame) (can.shaped.each r) } in
    let small = checkpoint-small m shaped spelled few c.turns c.retired c.granted c.busy fit.turns fit.retired fit.granted fit.busy in
    let s = sizes_of fresh in
    let state = state_words m in
    let size = length (saved m c) in
    let sizes : sizes_of m ≡ s = sizes-framed m ∙ ap frame_sizes frame ∙ sym (sizes-framed fresh) in
    let words : whole_words (saved m c) ≡ words_with s c state = words-again (checkpoint_words m c.turns c.retired c.granted c.busy) small ∙ ap (λ s. words_with s c state) sizes in
    let long : size ≡ 4 * (11 + length state) = bytes-long (checkpoint_words m c.turns c.retired c.granted c.busy) ∙ omega arith in
    let refused : first_some (bad_name size (words_with s c state)) (bad_head s (words_with s c state)) ≡ None = ap (λ o. first_some o (bad_head s (words_with s c state))) (name-fits size s c state most (omega (arith, long))) ∙ head-fits s c state fit in
    let read : read_state fresh c.retired 11 state ≡ Ok (record { value = m; at = 11 + length state; rest = [] }) = ap (λ n. read_state fresh n 11 state) retired ∙ state-fits fresh m can frame spelled none in
    let end : nat_lt (4 * (11 + length state)) size ≡ false = le-ltb _ _ (omega (arith, long)) in
    ap (λ ws. resumed_unless (first_some (bad_name size ws) (bad_head s ws)) fresh size ws) words ∙ ap (λ o. resumed_unless o fresh size (words_with s c state)) refused ∙ ap (resumed_by size c) read
    ∙ ap (λ b. if b then Err ResumeRefusal.AfterEnd else Ok (record { machine = m; counts = c })) end
