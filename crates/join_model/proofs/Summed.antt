-- The texts of tables put together.
-- Letters: s is what the tables so far come to, t is a table.
use Rattle.std.proofs.Common.{◌≡◌, ℕ, ◌+◌, ◌≤◌, Bool, true, false, not, cond, ◌&&◌, List, [], ◌∷◌, map, Ok, Err, refl, sym, ap, ◌∙◌, arith}
use Rattle.std.specs.Prelude.{fold, nat_lt, sum_by}
use Rattle.std.specs.List.{AllByRecursion}
use Rattle.std.proofs.lemmas.Bool.{le-ltb}
use Rattle.std.proofs.lemmas.List.Sums.{sum_by-cons}
use Rattle.outcome_model.specs.Table.{OutcomeLine, in_order}
use Rattle.join_model.specs.Joined.{joined, with_tables}
use Rattle.join_model.specs.JoinLaws.{all_runs}
use Rattle.join_model.specs.Table.{Table, most_number, table_in, text_of}
use Rattle.join_model.specs.Files.{Sum, added, in_file, joined_text, no_tables, same_kind, sum_of, sum_text, sum_with, text_with, with_file, with_read}
use Rattle.join_model.specs.TextLaws.{IsPrintedAs, JoinedTexts}
use Rattle.join_model.specs.declared.table.TableKind.{TableKind}
use Rattle.join_model.specs.declared.table.TableKind.TheVariants.{Outcomes, Survey}
use Rattle.join_model.specs.declared.table.TableRefusal.TheVariants.{OtherKind, TooManyRuns}
use Rattle.join_model.proofs.Joining.{joined-right}
use Rattle.join_model.proofs.OneTable.{one-table}
use Rattle.join_model.proofs.ReadBack.{printed-read}

abbrev pub runs_of : Table → ℕ
runs_of t = t.runs

abbrev pub lines_of : Table → List OutcomeLine
lines_of t = t.lines

-- the next table may be of this kind
abbrev Takes : Sum → TableKind → Type 0
Takes s kind = (nat_lt 0 s.tables && not (same_kind s.kind kind)) ≡ false

own-kind : (kind : TableKind) → same_kind kind kind ≡ true
own-kind Outcomes = refl
own-kind Survey = refl

and-no : (b c : Bool) → c ≡ true → (b && not c) ≡ false
and-no true c is = ap not is
and-no false c is = refl

takes-next : (s : Sum) (t : Table) (kind : TableKind) → t.kind ≡ kind → Takes (sum_with s t) kind
takes-next s t kind is = and-no (nat_lt 0 (s.tables + 1)) (same_kind t.kind kind) (ap (λ k. same_kind k kind) is ∙ own-kind kind)

added-ok : (s : Sum) (t : Table) → Takes s t.kind → s.runs + t.runs ≤ most_number → added s t ≡ Ok (sum_with s t)
unfolding added
added-ok s t takes few =
    ap (λ b. cond b (Err OtherKind) (cond (nat_lt most_number (s.runs + t.runs)) (Err TooManyRuns) (Ok (sum_with s t)))) takes
    ∙ ap (λ b. cond b (Err TooManyRuns) (Ok (sum_with s t))) (le-ltb most_number (s.runs + t.runs) few)

file-more : (s : Sum) (t : Table) → table_in (text_of t) ≡ Ok t → Takes s t.kind → s.runs + t.runs ≤ most_number → with_file (Ok s) (text_of t) ≡ Ok (sum_with s t)
file-more s t read takes few = ap (with_read s) read ∙ ap (in_file (s.tables + 1)) (added-ok s t takes few)

-- ---- many tables

abbrev sum_over : Sum → List Table → Sum
sum_over s ts = fold sum_with s ts

summed : (kind : TableKind) (s : Sum) (ts : List Table) → AllByRecursion (IsPrintedAs kind) ts → Takes s kind → s.runs + sum_by runs_of ts ≤ most_number → fold with_file (Ok s) (map text_of ts) ≡ Ok (sum_over s ts)
summed kind s [] all takes few = refl
summed kind s (t ∷ ts) all takes few =
    let total = sum_by-cons runs_of t ts in
    ap (λ r. fold with_file r (map text_of ts)) (file-more s t (printed-read t all.0.printed) (ap (λ k. nat_lt 0 s.tables && not (same_kind s.kind k)) all.0.kind_is ∙ takes) (omega (arith, total, few)))
    ∙ summed kind (sum_with s t) ts all.1 (takes-next s t kind all.0.kind_is) (omega (arith, total, few))

over-lines : (s : Sum) (ts : List Table) → (sum_over s ts).lines ≡ with_tables (map lines_of ts) s.lines
unfolding with_tables
over-lines s [] = refl
over-lines s (t ∷ ts) = over-lines (sum_with s t) ts

over-runs : (s : Sum) (ts : List Table) → (sum_over s ts).runs ≡ s.runs + sum_by runs_of ts
over-runs s [] = omega arith
over-runs s (t ∷ ts) = (let total = sum_by-cons runs_of t ts in let rest = over-runs (sum_with s t) ts in omega (arith, total, rest))

over-kind : (kind : TableKind) (s : Sum) (ts : List Table) → AllByRecursion (IsPrintedAs kind) ts → s.kind ≡ kind → (sum_over s ts).kind ≡ kind
over-kind kind s [] all is = is
over-kind kind s (t ∷ ts) all is = over-kind kind (sum_with s t) ts all.1 all.0.kind_is

table-same : (a b : Table) → a.kind ≡ b.kind → a.runs ≡ b.runs → a.lines ≡ b.lines → text_of a ≡ text_of b
table-same a b first second third =
    ap (λ k. text_of (record { kind = k; runs = a.runs; lines = a.lines })) first
    ∙ ap (λ n. text_of (record { kind = b.kind; runs = n; lines = a.lines })) second
    ∙ ap (λ ls. text_of (record { kind = b.kind; runs = b.runs; lines = ls })) third

sum_text-is : (s : Sum) → sum_text s ≡ text_of (record { kind = s.kind; runs = s.runs; lines = in_order s.lines })
unfolding sum_text
sum_text-is s = refl

joined-is : (ts : List (List OutcomeLine)) → joined ts ≡ in_order (with_tables ts [])
unfolding joined
joined-is ts = refl

pub texts-joined : (kind : TableKind) (t : Table) (ts : List Table) → AllByRecursion (IsPrintedAs kind) (t ∷ ts) → sum_by runs_of (t ∷ ts) ≤ most_number
    → joined_text (map text_of (t ∷ ts)) ≡ Ok (text_of (record { kind = kind; runs = sum_by runs_of (t ∷ ts); lines = joined (map lines_of (t ∷ ts)) }))
unfolding sum_of
texts-joined kind t ts all few =
    let tables = t ∷ ts in
    let s = sum_over no_tables tables in
    let kinds : s.kind ≡ kind = over-kind kind (sum_with no_tables t) ts all.1 all.0.kind_is in
    let runs : s.runs ≡ sum_by runs_of tables = (let over = over-runs no_tables tables in omega (arith, over)) in
    let lines : in_order s.lines ≡ joined (map lines_of tables) = ap in_order (over-lines no_tables tables) ∙ sym (joined-is (map lines_of tables)) in
    ap text_with (summed kind no_tables tables all refl (omega (arith, few)))
    ∙ ap (λ x. Ok x) (sum_text-is s ∙ table-same (record { kind = s.kind; runs = s.runs; lines = in_order s.lines }) (record { kind = kind; runs = sum_by runs_of tables; lines = joined (map lines_of tables) }) kinds runs lines)

pub joined-texts : JoinedTexts
joined-texts kind runs t ts of lines is =
    let tables = map lines_of (t ∷ ts) in
    texts-joined kind t ts of.printed of.few
    ∙ ap (λ ls. Ok (text_of (record { kind = kind; runs = sum_by runs_of (t ∷ ts); lines = ls }))) (one-table (all_runs runs) of.one (joined tables) lines (joined-right runs tables of.of_runs) is)
