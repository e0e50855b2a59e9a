-- The text of a table is read back.
-- Letters: o is an outcome, l is a line, n the number of a line, t a table.
use Rattle.std.proofs.Common.{◌≡◌, ℕ, zero, suc, ◌+◌, ◌-◌, ◌^◌, ◌<◌, ◌≤◌, Bool, true, false, cond, List, [], ◌∷◌, ◌++◌, length, Option, Some, Ok, Err, refl, sym, ap, ◌∙◌, append_assoc, append-nil, arith}
use Rattle.std.specs.Prelude.{codes, decimal, flat_map, nat_eq, sum_by}
use Rattle.std.specs.List.{AllByRecursion}
use Rattle.std.specs.Result.{result_ok}
use Rattle.std.proofs.lemmas.Bool.{eqb-true, le-ltb}
use Rattle.std.proofs.lemmas.List.Sums.{sum_by-cons}
use Rattle.text_model.specs.Lines.{Lacks}
use Rattle.text_model.specs.Schedule.{pieces_at, with_byte_before}
use Rattle.text_model.proofs.DdmText.Spellings.{number_of-decimal}
use Rattle.text_model.proofs.Pieces.{Lacks-append, Lacks-decimal, pieces_at-append, pieces_at-whole, some_piece}
use Rattle.outcome_model.specs.Table.{OutcomeLine, line_text}
use Rattle.join_model.specs.Table.{Heading, Table, heading_of_words, heading_with, kind_name, kind_named, line_of_words, line_with, lines_from, most_bytes, most_number, number_in, on_line, outcome_in, table_behind, table_in, table_of_pieces, table_with, text_of, with_line_before}
use Rattle.join_model.specs.TextLaws.{BeginsWithSpace, IsPrintedLine, PrintedTables}
use Rattle.join_model.specs.declared.table.TableKind.{TableKind}
use Rattle.join_model.specs.declared.table.TableKind.TheVariants.{Outcomes, Survey}
use Rattle.join_model.specs.declared.table.TableRefusal.{TableRefusal}

abbrev pub times : OutcomeLine → ℕ
times l = l.times

-- ---- a line

abbrev pub line_bytes : OutcomeLine → List ℕ
line_bytes l = codes "outcome" ++ 32 ∷ (decimal l.times ++ 32 ∷ (decimal l.seed ++ l.outcome))

nested : (t s o more : List ℕ) → (((t ++ 32 ∷ []) ++ s) ++ o ++ 10 ∷ []) ++ more ≡ (t ++ 32 ∷ (s ++ o)) ++ 10 ∷ more
nested t s o more =
    append_assoc (((t ++ 32 ∷ []) ++ s) ++ o) (10 ∷ []) more
    ∙ ap (λ x. x ++ 10 ∷ more) (append_assoc (t ++ 32 ∷ []) s o ∙ append_assoc t (32 ∷ []) (s ++ o))

line_text-more : (l : OutcomeLine) (more : List ℕ) → line_text l ++ more ≡ line_bytes l ++ 10 ∷ more
unfolding line_text
line_text-more l more = ap (λ x. codes "outcome " ++ x) (nested (decimal l.times) (decimal l.seed) l.outcome more)

Lacks-line : (l : OutcomeLine) → l.times < 2 ^ 64 → IsPrintedLine l → Lacks 10 (line_bytes l)
Lacks-line l small is =
    Lacks-append 10 (codes "outcome") (32 ∷ (decimal l.times ++ 32 ∷ (decimal l.seed ++ l.outcome))) refl
    (Lacks-append 10 (decimal l.times) (32 ∷ (decimal l.seed ++ l.outcome)) (Lacks-decimal 10 l.times refl small)
    (Lacks-append 10 (decimal l.seed) l.outcome (Lacks-decimal 10 l.seed refl (omega (arith, is.seed))) is.outcome.one_line))

-- the words of a text, each with a space before it
outcome_by : (d : Bool) (byte : ℕ) (piece : List ℕ) (pieces : List (List ℕ)) → nat_eq byte 32 ≡ d → outcome_in (cond d ([] ∷ piece ∷ pieces) ((byte ∷ piece) ∷ pieces)) ≡ 32 ∷ byte ∷ (piece ++ outcome_in pieces)
unfolding outcome_in
outcome_by true byte piece pieces same = ap (λ b. 32 ∷ b ∷ (piece ++ outcome_in pieces)) (sym (eqb-true byte 32 same))
outcome_by false byte piece pieces other = refl

outcome_in-first : (piece : List ℕ) (pieces : List (List ℕ)) → outcome_in (piece ∷ pieces) ≡ 32 ∷ (piece ++ outcome_in pieces)
unfolding outcome_in
outcome_in-first piece pieces = refl

outcome_in-one : outcome_in ([] ∷ []) ≡ 32 ∷ []
unfolding outcome_in
outcome_in-one = refl

tail-same : (xs ys : List ℕ) → 32 ∷ xs ≡ 32 ∷ ys → xs ≡ ys
tail-same xs ys same = cc

pub outcome_in-pieces : (text : List ℕ) → outcome_in (pieces_at 32 text) ≡ 32 ∷ text
unfolding pieces_at
outcome_in-pieces [] = outcome_in-one
outcome_in-pieces (byte ∷ text) =
    let some = some_piece 32 text in
    let rest : some.0 ++ outcome_in some.1 ≡ text = tail-same (some.0 ++ outcome_in some.1) text (sym (outcome_in-first some.0 some.1) ∙ ap outcome_in (sym some.2) ∙ outcome_in-pieces text) in
    ap (λ ps. outcome_in (with_byte_before 32 byte ps)) some.2
    ∙ outcome_by (nat_eq byte 32) byte some.0 some.1 refl
    ∙ ap (λ x. 32 ∷ byte ∷ x) rest

-- a word with an outcome behind it
pub record Split (s o : List ℕ) : Type 0 where
  pub words : List (List ℕ)
  pub pieces : pieces_at 32 (s ++ o) ≡ s ∷ words
  pub outcome : outcome_in words ≡ o

no-words : outcome_in [] ≡ []
unfolding outcome_in
no-words = refl

split-of : (s o : List ℕ) → Lacks 32 s → BeginsWithSpace o → Split s o
split-of s [] lacks begins = record { words = []; pieces = ap (pieces_at 32) (append-nil s) ∙ pieces_at-whole 32 s lacks; outcome = no-words }
split-of s (byte ∷ bytes) lacks begins = record {
  words = pieces_at 32 bytes;
  pieces = ap (λ b. pieces_at 32 (s ++ b ∷ bytes)) begins ∙ pieces_at-append 32 s bytes refl lacks;
  outcome = outcome_in-pieces bytes ∙ ap (λ b. b ∷ bytes) (sym begins);
}

line_with-some : (n seed : ℕ) (o : List ℕ) → 1 ≤ n → line_with (Some n) (Some seed) o ≡ Some (record { times = n; seed = seed; outcome = o })
line_with-some n seed o some = grind arith

line_with-both : (a b : Option ℕ) (p : List ℕ) (l : OutcomeLine) → a ≡ Some l.times → b ≡ Some l.seed → p ≡ l.outcome → 1 ≤ l.times → line_with a b p ≡ Some l
line_with-both a b p l first second third some =
    ap (λ x. line_with x b p) first ∙ ap (λ x. line_with (Some l.times) x p) second ∙ ap (λ x. line_with (Some l.times) (Some l.seed) x) third ∙ line_with-some l.times l.seed l.outcome some

line-read : (left : ℕ) (l : OutcomeLine) → l.times ≤ left → left ≤ most_number → IsPrintedLine l → line_of_words left (pieces_at 32 (line_bytes l)) ≡ Some l
unfolding line_of_words
line-read left l within small is =
    let after : Split (decimal l.seed) l.outcome = split-of (decimal l.seed) l.outcome (Lacks-decimal 32 l.seed refl (omega (arith, is.seed))) is.outcome.begins in
    let words : pieces_at 32 (line_bytes l) ≡ codes "outcome" ∷ decimal l.times ∷ decimal l.seed ∷ after.words =
    pieces_at-append 32 (codes "outcome") (decimal l.times ++ 32 ∷ (decimal l.seed ++ l.outcome)) refl refl
    ∙ ap (λ ps. codes "outcome" ∷ ps) (pieces_at-append 32 (decimal l.times) (decimal l.seed ++ l.outcome) refl (Lacks-decimal 32 l.times refl (omega (arith, within, small)))
    ∙ ap (λ ps. decimal l.times ∷ ps) after.pieces) in
    ap (line_of_words left) words
    ∙ line_with-both (number_in left (decimal l.times)) (number_in most_number (decimal l.seed)) (outcome_in after.words) l
    (ap result_ok (number_of-decimal l.times left within (omega (arith, small)))) (ap result_ok (number_of-decimal l.seed most_number is.seed (omega arith))) after.outcome is.some

-- ---- lines

abbrev all_pieces : List OutcomeLine → List (List ℕ)
all_pieces [] = codes "end" ∷ [] ∷ []
all_pieces (l ∷ ls) = line_bytes l ∷ all_pieces ls

lines-pieces : (ls : List OutcomeLine) → AllByRecursion IsPrintedLine ls → sum_by times ls ≤ most_number → pieces_at 10 (flat_map line_text ls ++ codes "end\n") ≡ all_pieces ls
unfolding pieces_at
lines-pieces [] all small = refl
lines-pieces (l ∷ ls) all small =
    let total = sum_by-cons times l ls in
    ap (pieces_at 10) (append_assoc (line_text l) (flat_map line_text ls) (codes "end\n") ∙ line_text-more l (flat_map line_text ls ++ codes "end\n"))
    ∙ pieces_at-append 10 (line_bytes l) (flat_map line_text ls ++ codes "end\n") refl (Lacks-line l (omega (arith, total, small)) all.0)
    ∙ ap (λ ps. line_bytes l ∷ ps) (lines-pieces ls all.1 (omega (arith, total, small)))

line-first : (n count left rest : ℕ) (l : OutcomeLine) (next : List ℕ) (pieces : List (List ℕ)) → line_of_words left (pieces_at 32 (line_bytes l)) ≡ Some l → left - l.times ≡ rest → lines_from n (suc count) left (line_bytes l ∷ next ∷ pieces) ≡ with_line_before l (lines_from (n + 1) count rest (next ∷ pieces))
unfolding lines_from
line-first n count left rest l next pieces is less =
    ap (λ o. on_line n o (λ k. lines_from (n + 1) count (left - k) (next ∷ pieces))) is ∙ ap (λ k. with_line_before l (lines_from (n + 1) count k (next ∷ pieces))) less

lines-none : (n : ℕ) → lines_from n zero 0 (codes "end" ∷ [] ∷ []) ≡ Ok []
unfolding lines_from
lines-none n = refl

lines-read : (n : ℕ) (ls : List OutcomeLine) → AllByRecursion IsPrintedLine ls → sum_by times ls ≤ most_number → lines_from n (length ls) (sum_by times ls) (all_pieces ls) ≡ Ok ls
lines-read n [] all small = lines-none n
lines-read n (l ∷ []) all small =
    line-first n zero (sum_by times (l ∷ [])) 0 l (codes "end") ([] ∷ []) (line-read (sum_by times (l ∷ [])) l (let total = sum_by-cons times l [] in omega (arith, total)) small all.0) (let total = sum_by-cons times l [] in omega (arith, total))
    ∙ ap (with_line_before l) (lines-none (n + 1))
lines-read n (l ∷ k ∷ ls) all small =
    let total : sum_by times (l ∷ k ∷ ls) ≡ l.times + sum_by times (k ∷ ls) = sum_by-cons times l (k ∷ ls) in
    line-first n (suc (length ls)) (sum_by times (l ∷ k ∷ ls)) (sum_by times (k ∷ ls)) l (line_bytes k) (all_pieces ls) (line-read (sum_by times (l ∷ k ∷ ls)) l (omega (arith, total)) small all.0) (omega (arith, total))
    ∙ ap (with_line_before l) (lines-read (n + 1) (k ∷ ls) all.1 (omega (arith, total, small)))

-- there are no more lines than runs
pub few-lines : (ls : List OutcomeLine) → AllByRecursion IsPrintedLine ls → length ls ≤ sum_by times ls
few-lines [] all = omega arith
few-lines (l ∷ ls) all = (let total = sum_by-cons times l ls in let rest = few-lines ls all.1 in let some = all.0.some in omega (arith, total, rest, some))

-- ---- the first line

abbrev heading_bytes : TableKind → ℕ → ℕ → List ℕ
heading_bytes kind count runs = kind_name kind ++ 32 ∷ (decimal count ++ 32 ∷ (codes "runs" ++ 32 ∷ decimal runs))

head-nested : (k a r x e : List ℕ) → (((((k ++ 32 ∷ []) ++ a) ++ codes " runs ") ++ r) ++ 10 ∷ [] ++ x) ++ e ≡ (k ++ 32 ∷ (a ++ 32 ∷ (codes "runs" ++ 32 ∷ r))) ++ 10 ∷ (x ++ e)
head-nested k a r x e =
    let w = codes " runs " in
    append_assoc (((((k ++ 32 ∷ []) ++ a) ++ w) ++ r) ++ 10 ∷ []) x e
    ∙ append_assoc ((((k ++ 32 ∷ []) ++ a) ++ w) ++ r) (10 ∷ []) (x ++ e)
    ∙ ap (λ d. d ++ 10 ∷ (x ++ e)) (append_assoc ((k ++ 32 ∷ []) ++ a) w r ∙ append_assoc (k ++ 32 ∷ []) a (w ++ r) ∙ append_assoc k (32 ∷ []) (a ++ (w ++ r)))

text_of-head : (t : Table) → text_of t ≡ heading_bytes t.kind (length t.lines) t.runs ++ 10 ∷ (flat_map line_text t.lines ++ codes "end\n")
unfolding text_of
text_of-head t = head-nested (kind_name t.kind) (decimal (length t.lines)) (decimal t.runs) (flat_map line_text t.lines) (codes "end\n")

kind-lacks : (kind : TableKind) → Lacks 32 (kind_name kind)
kind-lacks Outcomes = refl
kind-lacks Survey = refl

kind-one_line : (kind : TableKind) → Lacks 10 (kind_name kind)
kind-one_line Outcomes = refl
kind-one_line Survey = refl

kind-read : (kind : TableKind) → kind_named (kind_name kind) ≡ Some kind
kind-read Outcomes = refl
kind-read Survey = refl

Lacks-heading : (kind : TableKind) (count runs : ℕ) → count < 2 ^ 64 → runs < 2 ^ 64 → Lacks 10 (heading_bytes kind count runs)
Lacks-heading kind count runs small few =
    Lacks-append 10 (kind_name kind) (32 ∷ (decimal count ++ 32 ∷ (codes "runs" ++ 32 ∷ decimal runs))) (kind-one_line kind)
    (Lacks-append 10 (decimal count) (32 ∷ (codes "runs" ++ 32 ∷ decimal runs)) (Lacks-decimal 10 count refl small)
    (Lacks-append 10 (codes "runs") (32 ∷ decimal runs) refl (Lacks-decimal 10 runs refl few)))

heading-words : (kind : TableKind) (count runs : ℕ) → count < 2 ^ 64 → runs < 2 ^ 64 → pieces_at 32 (heading_bytes kind count runs) ≡ kind_name kind ∷ decimal count ∷ codes "runs" ∷ decimal runs ∷ []
heading-words kind count runs small few =
    pieces_at-append 32 (kind_name kind) (decimal count ++ 32 ∷ (codes "runs" ++ 32 ∷ decimal runs)) refl (kind-lacks kind)
    ∙ ap (λ ps. kind_name kind ∷ ps) (pieces_at-append 32 (decimal count) (codes "runs" ++ 32 ∷ decimal runs) refl (Lacks-decimal 32 count refl small)
    ∙ ap (λ ps. decimal count ∷ ps) (pieces_at-append 32 (codes "runs") (decimal runs) refl refl
    ∙ ap (λ ps. codes "runs" ∷ ps) (pieces_at-whole 32 (decimal runs) (Lacks-decimal 32 runs refl few))))

heading_with-all : (a : Option TableKind) (b c : Option ℕ) (kind : TableKind) (count runs : ℕ) → a ≡ Some kind → b ≡ Some count → c ≡ Some runs → heading_with a b c ≡ Some (record { kind = kind; lines = count; runs = runs })
heading_with-all a b c kind count runs first second third = ap (λ x. heading_with x b c) first ∙ ap (λ x. heading_with (Some kind) x c) second ∙ ap (λ x. heading_with (Some kind) (Some count) x) third

heading-read : (kind : TableKind) (count runs : ℕ) → count ≤ most_number → runs ≤ most_number → heading_of_words (pieces_at 32 (heading_bytes kind count runs)) ≡ Some (record { kind = kind; lines = count; runs = runs })
unfolding heading_of_words
heading-read kind count runs small few =
    ap heading_of_words (heading-words kind count runs (omega (arith, small)) (omega (arith, few)))
    ∙ heading_with-all (kind_named (kind_name kind)) (number_in most_number (decimal count)) (number_in most_number (decimal runs)) kind count runs
    (kind-read kind) (ap result_ok (number_of-decimal count most_number small (omega arith))) (ap result_ok (number_of-decimal runs most_number few (omega arith)))

-- ---- a table

some-piece-of : (ls : List OutcomeLine) → (next : List ℕ) × (pieces : List (List ℕ)) × (all_pieces ls ≡ next ∷ pieces)
some-piece-of [] = (codes "end", [] ∷ [], refl)
some-piece-of (l ∷ ls) = (line_bytes l, all_pieces ls, refl)

of_pieces : (h : Heading) (head : List ℕ) (ls : List OutcomeLine) → heading_of_words (pieces_at 32 head) ≡ Some h → table_of_pieces (head ∷ all_pieces ls) ≡ table_with h.kind h.runs (lines_from 2 h.lines h.runs (all_pieces ls))
unfolding table_of_pieces
of_pieces h head ls is =
    let some = some-piece-of ls in
    ap (λ ps. table_of_pieces (head ∷ ps)) some.2 ∙ ap (λ x. table_behind x (some.0 ∷ some.1)) is ∙ ap (λ ps. table_with h.kind h.runs (lines_from 2 h.lines h.runs ps)) (sym some.2)

pub printed-read : PrintedTables
unfolding table_in
printed-read t is =
    let ls = t.lines in
    let each : sum_by times ls ≡ t.runs = is.each in
    let count : length ls ≤ most_number = (let few = few-lines ls is.lines in let runs = is.runs in omega (arith, few, each, runs)) in
    let total : sum_by times ls ≤ most_number = (let runs = is.runs in omega (arith, each, runs)) in
    let head = heading_bytes t.kind (length ls) t.runs in
    let pieces : pieces_at 10 (text_of t) ≡ head ∷ all_pieces ls =
    ap (pieces_at 10) (text_of-head t)
    ∙ pieces_at-append 10 head (flat_map line_text ls ++ codes "end\n") refl (Lacks-heading t.kind (length ls) t.runs (omega (arith, count)) (let runs = is.runs in omega (arith, runs)))
    ∙ ap (λ ps. head ∷ ps) (lines-pieces ls is.lines total) in
    let read : lines_from 2 (length ls) t.runs (all_pieces ls) ≡ Ok ls = ap (λ n. lines_from 2 (length ls) n (all_pieces ls)) (sym each) ∙ lines-read 2 ls is.lines total in
    ap (λ d. cond d (Err TableRefusal.TooLong) (table_of_pieces (pieces_at 10 (text_of t)))) (le-ltb most_bytes (length (text_of t)) is.short)
    ∙ ap table_of_pieces pieces
    ∙ of_pieces (record { kind = t.kind; lines = length ls; runs = t.runs }) head ls (heading-read t.kind (length ls) t.runs count is.runs)
    ∙ ap (table_with t.kind t.runs) read
