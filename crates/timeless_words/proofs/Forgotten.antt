-- What is struck out is the time: the words are those of the part without it.
-- Letters: v is a leaf, d a directory, e an entry of its down list, ws are words, x is an item.
use Rattle.std.proofs.Common.{◌≡◌, ℕ, suc, ◌+◌, ◌-◌, ◌*◌, ◌<◌, Bool, true, false, List, [], ◌∷◌, ◌++◌, map, length, drop, take, refl, sym, ap, ◌∙◌, arith, append_assoc, length-append}
use Rattle.std.specs.Prelude.{count_by, flat_map, slice_index, if◌then◌else◌, Result, Ok, Err, OnOk}
use Rattle.std.specs.List.{AllByRecursion}
use Rattle.std.proofs.Math.Seq.{take-append_seam, drop-append_seam}
use Rattle.std.proofs.lemmas.List.{length-map, length-drop}
use Rattle.std.proofs.lemmas.List.Sums.{sum_by-cons}
use Rattle.tree_model.specs.State.Values.{DownValue, LeafValue, DirItem, Note, no_note, local, up_read, up_erase, DirValue}
use Rattle.tree_model.specs.State.Directory.{is_top}
use Rattle.tree_model.specs.Turns.Machine.{no_traffic}
use Rattle.state_words.specs.Numbers.{note_words, halt_words}
use Rattle.state_words.specs.Parts.{counted, hart_words, is_recorded, record_of, record_words, records_from, records, down_words, request_words, item_and_words, dir_words, traffic_words}
use Rattle.time_laws.specs.Forget.{forget_entry, forget_leaf, forget_dir}
use Rattle.timeless_words.specs.Struck.{IsWide, hart_struck, entries_struck, list_struck, records_struck, bus_struck}

-- ---- lists of which the length of the first part is known

taken : (n : ℕ) (front rest : List ℕ) → length front ≡ n → take n (front ++ rest) ≡ front
taken n front rest count = ap (λ k. take k (front ++ rest)) (sym count) ∙ take-append_seam front rest

dropped : (n : ℕ) (front rest : List ℕ) → length front ≡ n → drop n (front ++ rest) ≡ rest
dropped n front rest count = ap (λ k. drop k (front ++ rest)) (sym count) ∙ drop-append_seam front rest

-- lists one behind the other, in other groups
grouped : (a b c d e : List ℕ) → (((a ++ b) ++ c) ++ d) ++ e ≡ a ++ (((b ++ c) ++ d) ++ e)
grouped [] b c d e = refl
grouped (x ∷ a) b c d e = ap (λ l. x ∷ l) (grouped a b c d e)

first-apart : (a b c d e f : List ℕ) → ((((a ++ b) ++ c) ++ d) ++ e) ++ f ≡ a ++ ((((b ++ c) ++ d) ++ e) ++ f)
first-apart [] b c d e f = refl
first-apart (x ∷ a) b c d e f = ap (λ l. x ∷ l) (first-apart a b c d e f)

both-apart : (a b c d e f : List ℕ) → ((((a ++ b) ++ c) ++ d) ++ e) ++ f ≡ a ++ (b ++ (((c ++ d) ++ e) ++ f))
both-apart a b c d e f = first-apart a b c d e f ∙ ap (λ l. a ++ l) (grouped b c d e f)

-- what is so where there is no fault
pub when-ok : {T E : Type 0} {P Q : Type 0} (r : Result T E) → OnOk r P → (P → Q) → OnOk r Q
when-ok (Ok x) is goes = goes is
when-ok (Err e) is goes = is

-- ---- a hart

pub hart-forgotten : (v : LeafValue) (ws : List ℕ) → length v.hart.registers ≡ 32 → ws ≡ hart_words v → hart_struck ws ≡ hart_words (forget_leaf v)
hart-forgotten v ws count is =
    let front = drop 1 v.hart.registers ++ v.hart.pc ∷ [] in
    let long : length front ≡ 32 = omega (arith, length-append (drop 1 v.hart.registers) (v.hart.pc ∷ []), length-drop 1 v.hart.registers, count) in
    let same : ws ≡ front ++ v.done ∷ halt_words v.hart.halt = is ∙ sym (append_assoc (drop 1 v.hart.registers) (v.hart.pc ∷ []) (v.done ∷ halt_words v.hart.halt)) in
    ap hart_struck same
    ∙ ap (λ a. a ++ 0 ∷ drop 1 (drop 32 (front ++ v.done ∷ halt_words v.hart.halt))) (taken 32 front (v.done ∷ halt_words v.hart.halt) long)
    ∙ ap (λ b. front ++ 0 ∷ drop 1 b) (dropped 32 front (v.done ∷ halt_words v.hart.halt) long)
    ∙ append_assoc (drop 1 v.hart.registers) (v.hart.pc ∷ []) (0 ∷ halt_words v.hart.halt)

-- ---- the entries of a down list

pub entries-forgotten : (width : ℕ) (down : List DownValue) (rest : List ℕ) → AllByRecursion (IsWide width) down
    → entries_struck width (length down) (flat_map down_words down ++ rest) ≡ flat_map down_words (map forget_entry down) ++ rest
unfolding entries_struck
entries-forgotten width [] rest wide = refl
entries-forgotten width (e ∷ es) rest wide =
    let more = flat_map down_words es ++ rest in
    let begins : flat_map down_words (e ∷ es) ++ rest ≡ down_words e ++ more = append_assoc (down_words e) (flat_map down_words es) rest in
    let behind : drop 4 (drop 2 (down_words e ++ more)) ≡ e.words ++ more = refl in
    ap (entries_struck width (suc (length es))) begins
    ∙ ap (λ a. take 2 (down_words e ++ more) ++ (0 ∷ 0 ∷ 0 ∷ 0 ∷ []) ++ a ++ entries_struck width (length es) (drop width (e.words ++ more))) (taken width e.words more wide.0)
    ∙ ap (λ b. take 2 (down_words e ++ more) ++ (0 ∷ 0 ∷ 0 ∷ 0 ∷ []) ++ e.words ++ entries_struck width (length es) b) (dropped width e.words more wide.0)
    ∙ ap (λ c. take 2 (down_words e ++ more) ++ (0 ∷ 0 ∷ 0 ∷ 0 ∷ []) ++ e.words ++ c) (entries-forgotten width es rest wide.1)
    ∙ sym (append_assoc (down_words (forget_entry e)) (flat_map down_words (map forget_entry es)) rest)

-- one more of them is put there
pub entries-step : (width count i : ℕ) (out new left : List ℕ) → i < count → new ≡ ((out ++ take 2 left) ++ (0 ∷ 0 ∷ 0 ∷ 0 ∷ [])) ++ take width (drop 4 (drop 2 left))
    → new ++ entries_struck width (count - (i + 1)) (drop width (drop 4 (drop 2 left))) ≡ out ++ entries_struck width (count - i) left
unfolding entries_struck
entries-step width count i out new left more is =
    let rest = entries_struck width (count - (i + 1)) (drop width (drop 4 (drop 2 left))) in
    let one : count - i ≡ suc (count - (i + 1)) = omega (arith, more) in
    ap (λ a. a ++ rest) is ∙ grouped out (take 2 left) (0 ∷ 0 ∷ 0 ∷ 0 ∷ []) (take width (drop 4 (drop 2 left))) rest ∙ sym (ap (λ n. out ++ entries_struck width n left) one)

-- none is left
pub ends : (width count : ℕ) (out left : List ℕ) → count ≡ 0 → out ++ left ≡ out ++ entries_struck width count left
unfolding entries_struck
ends width count out left none = ap (λ n. out ++ entries_struck width n left) (sym none)

pub list-forgotten : (width : ℕ) (down : List DownValue) (rest : List ℕ) → AllByRecursion (IsWide width) down
    → list_struck width (counted down_words down ++ rest) ≡ counted down_words (map forget_entry down) ++ rest
list-forgotten width down rest wide =
    ap (λ a. length down ∷ a) (entries-forgotten width down rest wide) ∙ ap (λ n. n ∷ flat_map down_words (map forget_entry down) ++ rest) (sym (length-map down forget_entry))

-- ---- the records of items

note-long : (note : Note) → length (note_words note) ≡ 3
note-long no_note = refl
note-long (local first joined) = refl
note-long (up_read first joined) = refl
note-long (up_erase child) = refl

record-long : (top : Bool) (x : ℕ) (i : DirItem) → length (record_of top x i) ≡ 6 * (if is_recorded top i then 1 else 0)
record-long top x i = elim (is_recorded top i) as (λ b. length (if b then record_words x i else []) ≡ 6 * (if b then 1 else 0)) [
  | true ↦ ap (λ n. suc (suc n)) (length-append (note_words i.note) _ ∙ ap (λ n. n + 1) (note-long i.note))
  | false ↦ refl
]

counted-more : (top : Bool) (i : DirItem) (more : List DirItem) → count_by (is_recorded top) (i ∷ more) ≡ (if is_recorded top i then 1 else 0) + count_by (is_recorded top) more
counted-more top i more = sum_by-cons (λ e. if is_recorded top e then 1 else 0) i more

records-long : (top : Bool) (x : ℕ) (items : List DirItem) → length (records_from top x items) ≡ 6 * count_by (is_recorded top) items
unfolding records_from
records-long top x [] = refl
records-long top x (i ∷ more) =
    let one = record-long top x i in
    let rest = records-long top (x + 1) more in
    let both = length-append (record_of top x i) (records_from top (x + 1) more) in
    let count = counted-more top i more in
    omega (arith, one, rest, both, count)

-- ---- a directory, and its bus

-- a part that says by its first word how long it is
headed : (width : ℕ) (own behind : List ℕ) → length own ≡ 1 + 6 * slice_index (own ++ behind) 0 → records_struck width (own ++ behind) ≡ own ++ list_struck width behind
headed width own behind long =
    let n = 1 + 6 * slice_index (own ++ behind) 0 in
    ap (λ a. a ++ list_struck width (drop n (own ++ behind))) (taken n own behind long) ∙ ap (λ b. own ++ list_struck width b) (dropped n own behind long)

records-headed : (top : Bool) (items : List DirItem) (behind : List ℕ) → length (records top items) ≡ 1 + 6 * slice_index (records top items ++ behind) 0
unfolding records
records-headed top items behind = omega (arith, records-long top 0 items)

records-forgotten : (width : ℕ) (top : Bool) (items : List DirItem) (down : List DownValue) (rest : List ℕ) → AllByRecursion (IsWide width) down
    → records_struck width (records top items ++ (counted down_words down ++ rest)) ≡ records top items ++ (counted down_words (map forget_entry down) ++ rest)
records-forgotten width top items down rest wide =
    let behind = counted down_words down ++ rest in
    headed width (records top items) behind (records-headed top items behind) ∙ ap (λ c. records top items ++ c) (list-forgotten width down rest wide)

pub bus-forgotten : (width : ℕ) (d : DirValue) (ws : List ℕ) → AllByRecursion (IsWide width) d.down → ws ≡ dir_words d → bus_struck width ws ≡ dir_words (forget_dir d) ++ traffic_words no_traffic
unfolding dir_words
bus-forgotten width d ws wide is =
    let a = records (is_top d) d.items in
    let b = counted down_words d.down in
    let c = counted request_words d.requests in
    let e = counted item_and_words d.replies in
    let f = counted item_and_words d.parked in
    let g : List ℕ = d.reserved ∷ [] in
    let after = counted down_words (map forget_entry d.down) in
    let zeros : List ℕ = 0 ∷ 0 ∷ 0 ∷ 0 ∷ 0 ∷ 0 ∷ [] in
    ap (bus_struck width) is
    ∙ ap (λ l. ((0 ∷ 0 ∷ 0 ∷ 0 ∷ 0 ∷ []) ++ records_struck width l) ++ zeros) (both-apart a b c e f g)
    ∙ ap (λ l. ((0 ∷ 0 ∷ 0 ∷ 0 ∷ 0 ∷ []) ++ l) ++ zeros) (records-forgotten width (is_top d) d.items d.down (((c ++ e) ++ f) ++ g) wide)
    ∙ ap (λ l. ((0 ∷ 0 ∷ 0 ∷ 0 ∷ 0 ∷ []) ++ l) ++ zeros) (sym (both-apart a after c e f g))
