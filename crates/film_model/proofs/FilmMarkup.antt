-- Films have no markup.
-- Letters: p is a part, v a leaf, d a directory, m a machine, x an item.
use Rattle.std.proofs.Common.{ℕ, ◌+◌, Bool, true, false, cond, nat_eq, List, [], ◌∷◌, ◌++◌, drop, take, length, map, filter, Option, Some, None, decimal, bytes_eq, refl}
use Rattle.std.specs.Prelude.{codes, flat_map}
use Rattle.std.specs.List.{range_with_len}
use Rattle.film_model.specs.DdmTypes.ItemTable.{ItemRow, item_count}
use Rattle.film_model.specs.DdmTypes.Keys.{stamp_numbers}
use Rattle.film_model.specs.DdmTypes.declared.operations.HaltCause.{HaltCause}
use Rattle.film_model.specs.DdmTypes.declared.answers.TxKind.{TxKind}
use Rattle.film_model.specs.DdmTypes.declared.keys.Stamp.{Stamp}
use Rattle.film_model.specs.DdmTypes.declared.sizes.Hold.{Hold}
use Rattle.film_model.specs.DdmTypes.declared.sizes.LeafState.{LeafState}
use Rattle.film_model.specs.DdmTypes.declared.turns.Turn.{Turn}
use Rattle.film_model.specs.TreeModel.declared.CopyPlace.{CopyPlace}
use Rattle.film_model.specs.TreeModel.Start.Sources.{TreeValue, bus_widths}
use Rattle.film_model.specs.TreeModel.State.Directory.{in_set, stamp_of}
use Rattle.film_model.specs.TreeModel.State.Kinds.{brings_copy}
use Rattle.film_model.specs.TreeModel.State.Place.{Where, at_top, where_path, at_child, spot_in}
use Rattle.film_model.specs.TreeModel.State.Values.{RequestValue, CopyValue, DownValue, WayValue, BufferValue, LeafValue, Note, no_note, local, up_read, up_erase, DirItem, DirValue, Node, Nodes, leaf_node, dir_node, no_nodes, more_nodes, children, MachineValue, root_of}
use Rattle.film_model.specs.TreeModel.Turns.Found.{found_place}
use Rattle.film_model.specs.TreeModel.Turns.Machine.{machine_leaves, turn_of, run_of}
use Rattle.film_model.specs.TreeModel.Turns.Tree.{Name, bus_of_number, is_named, has_node, read_in, read_among, of_dir}
use Rattle.text_model.specs.Report.{word_texts}
use Rattle.text_model.specs.Run.{report_text_of, view_of, counts_of}
use Rattle.film_model.specs.Part.{Part, part_line, key_of, item_key_of, number_text, stamp_text, listed, numbered, has_value, valued, changes, changed}
use Rattle.film_model.specs.Leaf.{stopped_text, register_text, entry_words, way_text, buffer_text, request_text, slot_text, copy_text, reservation_text, leaf_parts}
use Rattle.film_model.specs.Directory.{hold_text, set_text, note_text, answering_text, dir_item_text, told_stamp, down_words, down_text, count_text, dir_parts}
use Rattle.film_model.specs.Still.{parts_or_none, bus_parts, place_text, place_part, still}
use Rattle.film_model.specs.Film.{tree_line, sizes_line, writable_text, item_line, item_lines, head_of, turn_film, turns_film, film_of}
use Rattle.film_model.proofs.Markup.{Unmarked, text, nothing, ◌▹◌, each, number, eight_digits}
use Rattle.film_model.proofs.ReportMarkup.{space, line_feed, halt, kind, letter, words, trace, report}

-- ---- lists of parts whose lines have none

abbrev AreUnmarked : List Part → Type 0
AreUnmarked [] = Unit {0}
AreUnmarked (p ∷ ps) = Unmarked (part_line p) × AreUnmarked ps

pub record Lines (ps : List Part) : Type 0 where
  pub are : AreUnmarked ps

none : Lines []
none = record { are = tt }

infixr 30 ◌▪◌
◌▪◌ : {p : Part} {ps : List Part} → Unmarked (part_line p) → Lines ps → Lines (p ∷ ps)
◌▪◌ {p} {ps} line lines = record { are = (line, lines.are) }

both_lists : (ps qs : List Part) → AreUnmarked ps → AreUnmarked qs → AreUnmarked (ps ++ qs)
both_lists [] qs are are' = are'
both_lists (p ∷ ps) qs are are' = (are.0, both_lists ps qs are.1 are')

infixl 20 ◌▪▪◌
◌▪▪◌ : {ps qs : List Part} → Lines ps → Lines qs → Lines (ps ++ qs)
◌▪▪◌ {ps} {qs} lines lines' = record { are = both_lists ps qs lines.are lines'.are }

all_lines : (ps : List Part) → AreUnmarked ps → Unmarked (flat_map part_line ps)
all_lines [] are = nothing
all_lines (p ∷ ps) are = are.0 ▹ all_lines ps are.1

kept_if : (b : Bool) (p : Part) (ps : List Part) → Unmarked (part_line p) → AreUnmarked ps → AreUnmarked (cond b (p ∷ ps) ps)
kept_if true p ps line are = (line, are)
kept_if false p ps line are = are

passed_if : (b : Bool) (p : Part) (ps : List Part) → Unmarked (part_line p) → AreUnmarked ps → AreUnmarked (cond b ps (p ∷ ps))
passed_if true p ps line are = are
passed_if false p ps line are = (line, are)

filtered : (test : Part → Bool) (ps : List Part) → AreUnmarked ps → AreUnmarked (filter test ps)
filtered test [] are = tt
filtered test (p ∷ ps) are = kept_if (test p) p (filter test ps) are.0 (filtered test ps are.1)

changed_ones : (ps qs : List Part) → AreUnmarked qs → AreUnmarked (changes ps qs)
changed_ones [] qs are = tt
changed_ones (p ∷ ps) [] are = tt
changed_ones (p ∷ ps) (q ∷ qs) are = passed_if (bytes_eq p.value q.value) q (changes ps qs) are.0 (changed_ones ps qs are.1)

one_each : {X : Type 0} (part : ℕ → X → Part) (x : ℕ) (es : List X) → ((k : ℕ) (e : X) → Unmarked (part_line (part k e))) → AreUnmarked (numbered part x es)
unfolding numbered
one_each part x [] line = tt
one_each part x (e ∷ es) line = (line x e, one_each part (x + 1) es line)

some_each : {X : Type 0} (parts : X → List Part) (xs : List X) → ((x : X) → Lines (parts x)) → AreUnmarked (flat_map parts xs)
some_each parts [] lines = tt
some_each parts (x ∷ xs) lines = both_lists (parts x) (flat_map parts xs) (lines x).are (some_each parts xs lines)

mapped : {X : Type 0} (part : X → Part) (xs : List X) → ((x : X) → Unmarked (part_line (part x))) → AreUnmarked (map part xs)
mapped part [] line = tt
mapped part (x ∷ xs) line = (line x, mapped part xs line)

-- ---- a part

line : {key value : List ℕ} → Unmarked key → Unmarked value → Unmarked (part_line (record { key = key; value = value }))
unfolding part_line
line k v = k ▹ v ▹ line_feed

key : (word : List ℕ) (n : ℕ) → Unmarked word → Unmarked (key_of word n)
unfolding key_of
key word n plain = plain ▹ space ▹ number n

item_key : (word : List ℕ) (n x : ℕ) → Unmarked word → Unmarked (item_key_of word n x)
unfolding item_key_of
item_key word n x plain = key word n plain ▹ space ▹ number x

spaced : (n : ℕ) → Unmarked (number_text n)
unfolding number_text
spaced n = space ▹ number n

stamp : (ns : List ℕ) → Unmarked (stamp_text ns)
unfolding stamp_text
stamp [] = nothing
stamp (n ∷ ns) = spaced n ▹ each (λ k. codes "." ++ decimal k) ns (λ k. text (codes ".") refl ▹ number k)

list : {X : Type 0} (entry : X → List ℕ) (xs : List X) → ((x : X) → Unmarked (entry x)) → Unmarked (listed entry xs)
unfolding listed
list entry xs plain = each (λ x. codes " |" ++ entry x) xs (λ x. text (codes " |") refl ▹ plain x)

-- ---- a leaf

stopped : (cause : Option HaltCause) → Unmarked (stopped_text cause)
unfolding stopped_text
stopped None = nothing
stopped (Some cause) = space ▹ halt cause

unless_zero : (zero_is : Bool) {t : List ℕ} → Unmarked t → Unmarked (cond zero_is [] t)
unless_zero true plain = nothing
unless_zero false plain = plain

register : (word : ℕ) → Unmarked (register_text word)
unfolding register_text
register word = unless_zero (nat_eq word 0) (space ▹ eight_digits word)

entry : (s : LeafState) (ws : List ℕ) → Unmarked (entry_words s ws)
unfolding entry_words
entry LeafState.Shared ws = words ws
entry LeafState.Exclusive ws = words ws
entry LeafState.Waiting ws = words ws
entry LeafState.Reading ws = nothing
entry LeafState.ReadingWaiting ws = nothing

way : (e : Option WayValue) → Unmarked (way_text e)
unfolding way_text
way None = nothing
way (Some e) = space ▹ letter (Some e.state) ▹ spaced e.way ▹ entry e.state e.words

buffered : (e : BufferValue) → Unmarked (buffer_text e)
unfolding buffer_text
buffered e = spaced e.item ▹ space ▹ letter (Some e.state) ▹ entry e.state e.words

request : (r : RequestValue) → Unmarked (request_text r)
unfolding request_text
request r = space ▹ kind r.kind ▹ spaced r.item

slot : (r : Option RequestValue) → Unmarked (slot_text r)
unfolding slot_text
slot None = nothing
slot (Some r) = request r

copy : (c : CopyValue) → Unmarked (copy_text c)
unfolding copy_text
copy c = spaced c.item ▹ words c.words

reservation : (r : Option ℕ) → Unmarked (reservation_text r)
unfolding reservation_text
reservation None = nothing
reservation (Some x) = spaced x

registers_of : (v : LeafValue) → Lines (numbered (λ n word. record { key = item_key_of (codes "reg") v.number n; value = register_text word }) 1 (drop 1 v.hart.registers))
registers_of v = record {
  are = one_each (λ n word. record { key = item_key_of (codes "reg") v.number n; value = register_text word }) 1 (drop 1 v.hart.registers)
      (λ n word. line (item_key (codes "reg") v.number n (text (codes "reg") refl)) (register word));
}

entries_of : (v : LeafValue) → Lines (numbered (λ x e. record { key = item_key_of (codes "entry") v.number x; value = way_text e }) 0 v.ways)
entries_of v = record {
  are = one_each (λ x e. record { key = item_key_of (codes "entry") v.number x; value = way_text e }) 0 v.ways
      (λ x e. line (item_key (codes "entry") v.number x (text (codes "entry") refl)) (way e));
}

leaf : (v : LeafValue) → Lines (leaf_parts v)
unfolding leaf_parts
leaf v =
    (line (key (codes "pc") v.number (text (codes "pc") refl)) (space ▹ eight_digits v.hart.pc)
    ▪ line (key (codes "halt") v.number (text (codes "halt") refl)) (stopped v.hart.halt) ▪ registers_of v)
    ▪▪ entries_of v
    ▪▪ (line (key (codes "buffer") v.number (text (codes "buffer") refl)) (list buffer_text v.buffer buffered)
    ▪ line (key (codes "slot") v.number (text (codes "slot") refl)) (slot v.slot)
    ▪ line (key (codes "leafreplies") v.number (text (codes "leafreplies") refl)) (list copy_text v.replies copy)
    ▪ line (key (codes "reserved") v.number (text (codes "reserved") refl)) (reservation v.reservation) ▪ none)

-- ---- a directory

hold : (h : Hold) → Unmarked (hold_text h)
unfolding hold_text
hold Hold.Invalid = nothing
hold Hold.Shared = text (codes " S") refl
hold Hold.Exclusive = text (codes " E") refl

set : (count s : ℕ) → Unmarked (set_text count s)
unfolding set_text
set count s = each number_text (filter (λ c. in_set c s) (range_with_len 0 count)) spaced

note : (count : ℕ) (n : Note) → Unmarked (note_text count n)
unfolding note_text
note count no_note = nothing
note count (local first joined) = text (codes " local") refl ▹ spaced first ▹ set count joined
note count (up_read first joined) = text (codes " upread") refl ▹ spaced first ▹ set count joined
note count (up_erase child) = text (codes " uperase") refl ▹ spaced child

answering : (b : Bool) → Unmarked (answering_text b)
unfolding answering_text
answering true = text (codes " answering") refl
answering false = nothing

dir_item : (count : ℕ) (i : DirItem) → Unmarked (dir_item_text count i)
unfolding dir_item_text
dir_item count i = hold i.hold ▹ note count i.note ▹ answering i.answering

told : (buses : ℕ) (s : Stamp) → Unmarked (told_stamp buses s)
unfolding told_stamp
told buses s = stamp (take buses (stamp_numbers 3 s))

words_if : (b : Bool) (ws : List ℕ) → Unmarked (cond b (word_texts ws) [])
words_if true ws = words ws
words_if false ws = nothing

carried : (k : TxKind) (ws : List ℕ) → Unmarked (down_words k ws)
unfolding down_words
carried k ws = words_if (brings_copy k) ws

down : (level : ℕ) (e : DownValue) → Unmarked (down_text level e)
unfolding down_text
down level e = space ▹ kind e.kind ▹ spaced e.item ▹ told level e.stamp ▹ carried e.kind e.words

count_shown : (n : ℕ) → Unmarked (count_text n)
unfolding count_text
count_shown n = unless_zero (nat_eq n 0) (spaced n)

items_of : (count : ℕ) (d : DirValue) → Lines (numbered (λ x i. record { key = item_key_of (codes "dir") d.bus x; value = dir_item_text count i }) 0 d.items)
items_of count d = record {
  are = one_each (λ x i. record { key = item_key_of (codes "dir") d.bus x; value = dir_item_text count i }) 0 d.items
      (λ x i. line (item_key (codes "dir") d.bus x (text (codes "dir") refl)) (dir_item count i));
}

directory : (count : ℕ) (d : DirValue) → Lines (dir_parts count d)
unfolding dir_parts
directory count d =
    (line (key (codes "time") d.bus (text (codes "time") refl)) (stamp (stamp_numbers d.level (stamp_of d))) ▪ items_of count d)
    ▪▪ (line (key (codes "down") d.bus (text (codes "down") refl)) (list (down_text d.level) d.down (down d.level))
    ▪ line (key (codes "requests") d.bus (text (codes "requests") refl)) (list request_text d.requests request)
    ▪ line (key (codes "replies") d.bus (text (codes "replies") refl)) (list copy_text d.replies copy)
    ▪ line (key (codes "parked") d.bus (text (codes "parked") refl)) (list copy_text d.parked copy)
    ▪ line (key (codes "kept") d.bus (text (codes "kept") refl)) (count_shown d.reserved) ▪ none)

-- ---- a machine

read_if : (b : Bool) (parts : List Part) (other : Option (List Part)) → Lines parts → Lines (parts_or_none other) → Lines (parts_or_none (cond b (Some parts) other))
read_if true parts other here elsewhere = here
read_if false parts other here elsewhere = elsewhere

read_or : (b : Bool) (first other : Option (List Part)) → Lines (parts_or_none first) → Lines (parts_or_none other) → Lines (parts_or_none (cond b first other))
read_or true first other here elsewhere = here
read_or false first other here elsewhere = elsewhere

module _ (name : Name) (parts : Where → Node → List Part) (lines : (w : Where) (n : Node) → Lines (parts w n)) where
  mutual
    read_lines : (w : Where) (n : Node) → Lines (parts_or_none (read_in name parts w n))
    read_lines w (leaf_node v) = read_if (is_named name (leaf_node v)) (parts w (leaf_node v)) None (lines w (leaf_node v)) none
    read_lines w (dir_node d ns) =
        read_if (is_named name (dir_node d ns)) (parts w (dir_node d ns)) (read_among name parts (where_path w) d 0 ns)
        (lines w (dir_node d ns)) (read_lines_among (where_path w) d 0 ns)

    read_lines_among : (path : List ℕ) (d : DirValue) (i : ℕ) (ns : Nodes) → Lines (parts_or_none (read_among name parts path d i ns))
    read_lines_among path d i no_nodes = none
    read_lines_among path d i (more_nodes n ns) =
        read_or (has_node name n) (read_in name parts (at_child (spot_in path d i)) n) (read_among name parts path d (i + 1) ns)
        (read_lines (at_child (spot_in path d i)) n) (read_lines_among path d (i + 1) ns)

node_lines : (w : Where) (n : Node) → Lines (of_dir (λ w d ns. dir_parts (length ns) d) [] w n)
node_lines w (leaf_node v) = none
node_lines w (dir_node d ns) = directory (length (children ns)) d

bus : (m : MachineValue) (b : ℕ) → Lines (bus_parts m b)
unfolding bus_parts
bus m b = read_lines (bus_of_number b) (of_dir (λ w d ns. dir_parts (length ns) d) []) node_lines at_top (root_of m)

place : (p : Option CopyPlace) → Unmarked (place_text p)
unfolding place_text
place None = nothing
place (Some (CopyPlace.LeafWay l way)) = text (codes " leaf") refl ▹ spaced l
place (Some (CopyPlace.LeafBuffer l at)) = text (codes " leaf") refl ▹ spaced l
place (Some (CopyPlace.Parking b at)) = text (codes " bus") refl ▹ spaced b ▹ text (codes " parking") refl
place (Some (CopyPlace.DownList b at)) = text (codes " bus") refl ▹ spaced b ▹ text (codes " down") refl

place_line : (m : MachineValue) (x : ℕ) → Unmarked (part_line (place_part m x))
unfolding place_part
place_line m x = line (key (codes "copy") x (text (codes "copy") refl)) (place (found_place x m))

still_lines : (m : MachineValue) → Lines (still m)
unfolding still
still_lines m =
    record { are = some_each leaf_parts (machine_leaves m) leaf }
    ▪▪ record { are = some_each (bus_parts m) (range_with_len 0 (length m.traffic)) (bus m) }
    ▪▪ record { are = mapped (place_part m) (range_with_len 0 (item_count m.items)) (place_line m) }

-- ---- a film

tree_of : (tree : TreeValue) → Unmarked (tree_line tree)
unfolding tree_line
tree_of tree = text (codes "tree") refl ▹ spaced (length tree.levels) ▹ each number_text (bus_widths tree) spaced ▹ line_feed

sizes_of : (tree : TreeValue) → Unmarked (sizes_line tree)
unfolding sizes_line
sizes_of tree =
    let s = tree.sizes in
    text (codes "sizes") refl
    ▹ each number_text (tree.way_count ∷ s.sets ∷ s.buffer ∷ s.parking ∷ s.down ∷ s.requests ∷ s.replies ∷ tree.item_bytes ∷ []) spaced ▹ line_feed

writable : (b : Bool) → Unmarked (writable_text b)
unfolding writable_text
writable true = text (codes " w") refl
writable false = nothing

item : (x : ℕ) (row : ItemRow) → Unmarked (item_line x row)
unfolding item_line
item x row = text (codes "item") refl ▹ spaced x ▹ space ▹ eight_digits row.address ▹ writable row.writable ▹ line_feed

items : (x : ℕ) (rows : List ItemRow) → Unmarked (item_lines x rows)
unfolding item_lines
items x [] = nothing
items x (row ∷ rows) = item x row ▹ items (x + 1) rows

head : (tree : TreeValue) (m : MachineValue) → Unmarked (head_of tree m)
unfolding head_of
head tree m = text (codes "film 1\n") refl ▹ tree_of tree ▹ sizes_of tree ▹ items 0 m.items.rows

start : (m : MachineValue) → Unmarked (valued (still m))
unfolding valued
start m = all_lines (filter has_value (still m)) (filtered has_value (still m) (still_lines m).are)

turn_changes : (m n : MachineValue) → Unmarked (changed (still m) (still n))
unfolding changed
turn_changes m n = all_lines (changes (still m) (still n)) (changed_ones (still m) (still n) (still_lines n).are)

turn : (k : ℕ) (t : Turn) (m : MachineValue) → Unmarked (turn_film k t m)
unfolding turn_film
turn k t m = trace k t (turn_of t m).answer ▹ turn_changes m (turn_of t m).machine

turns : (k : ℕ) (ts : List Turn) (m : MachineValue) → Unmarked (turns_film k ts m)
unfolding turns_film
turns k [] m = nothing
turns k (t ∷ ts) m = turn k t m ▹ turns (k + 1) ts (turn_of t m).machine

last_report : (depth : ℕ) (ts : List Turn) (m : MachineValue) → Unmarked (report_text_of depth ts m)
unfolding report_text_of
last_report depth ts m = report (view_of depth (counts_of (run_of ts m).answers) (run_of ts m).machine)

pub film : (tree : TreeValue) (ts : List Turn) (m : MachineValue) → Unmarked (film_of tree ts m)
unfolding film_of
film tree ts m = head tree m ▹ start m ▹ turns 0 ts m ▹ last_report (length tree.levels) ts m
