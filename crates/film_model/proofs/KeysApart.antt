-- No two parts of a still have the same key, where no two leaves have one number: a key begins with its word and the number of its
-- leaf, bus or item.
-- Letters: p and q are parts, v a leaf, d a directory, k a node, m a machine, n a number.
use Rattle.std.proofs.Common.{◌≡◌, ℕ, zero, suc, ◌+◌, ◌<◌, ◌≤◌, Bool, true, false, not, cond, ◌&&◌, ◌||◌, nat_eq, nat_le, List, [], ◌∷◌, ◌++◌, decimal, drop, length, map, take, bytes_eq, Option, Some, refl, sym, ap, ap₂, subst, ◌∙◌, append_assoc, append-nil, arith}
use Rattle.std.specs.Prelude.{codes, flat_map, ⊤}
use Rattle.std.specs.List.{AllByRecursion, list_all, range_with_len}
use Rattle.std.proofs.lemmas.Bool.{eqb-true}
use Rattle.std.proofs.lemmas.Fmt.{decimal_injective}
use Rattle.std.proofs.lemmas.List.{length-drop, length-map}
use Rattle.std.proofs.lemmas.Slice.Eq.{bytes_eq-Decides}
use Rattle.text_model.proofs.Pieces.{Lacks-decimal}
use Rattle.text_model.specs.Lines.{Lacks}
use Rattle.tree_model.proofs.Tests.{and-first, and-second}
use Rattle.film_model.specs.DdmTypes.ItemTable.{item_count}
use Rattle.film_model.specs.TreeModel.State.Place.{Where, at_top, where_path, at_child, spot_in}
use Rattle.film_model.specs.TreeModel.State.Rooms.{all_within, all_within_among, dir_within}
use Rattle.film_model.specs.TreeModel.State.Shape.{count_from, leaf_numbers_of, leaf_numbers_among, skeleton, skeletons}
use Rattle.film_model.specs.TreeModel.State.Values.{LeafValue, DirValue, Node, Nodes, leaf_node, dir_node, no_nodes, more_nodes, children, MachineValue, root_of}
use Rattle.film_model.specs.TreeModel.Turns.Machine.{leaves_of, leaves_among, machine_leaves}
use Rattle.film_model.specs.TreeModel.Turns.Tree.{bus_of_number, has_node, of_dir, read_in, read_among}
use Rattle.film_model.specs.Part.{Part, key_of, item_key_of, numbered}
use Rattle.film_model.specs.Leaf.{register_part, entry_part, hart_parts, entry_parts, leaf_list_parts, leaf_parts}
use Rattle.film_model.specs.Directory.{dir_part, kept_parts, dir_list_parts, dir_parts}
use Rattle.film_model.specs.Still.{parts_or_none, bus_parts, place_part, still}
use Rattle.film_model.specs.Replay.{has_key, has_keys_once, have_registers, have_registers_among}

-- ---- lists of parts whose keys differ

-- no part has this key
abbrev Away : List ℕ → List Part → Type 0
Away key ps = AllByRecursion (λ (p : Part). p.key ≡ key → ⊥) ps

-- no part of the one list has the key of one of the other
abbrev Apart : List Part → List Part → Type 0
Apart ps qs = AllByRecursion (λ (p : Part). Away p.key qs) ps

abbrev Once : List Part → Type 0
Once [] = ⊤
Once (p ∷ ps) = Away p.key ps × Once ps

absent : (key : List ℕ) (ps : List Part) → Away key ps → has_key key ps ≡ false
absent key [] away = refl
absent key (p ∷ ps) away = by (bytes_eq p.key key) refl (absent key ps away.1) where
  by : (b : Bool) → bytes_eq p.key key ≡ b → has_key key ps ≡ false → (b || has_key key ps) ≡ false
  by true same rest = absurd (away.0 ((bytes_eq-Decides p.key key).0 same))
  by false same rest = rest

once_is : (ps : List Part) → Once ps → has_keys_once ps ≡ true
once_is [] once = refl
once_is (p ∷ ps) once = ap₂ (λ a b. not a && b) (absent p.key ps once.0) (once_is ps once.1)

away_both : (key : List ℕ) (ps qs : List Part) → Away key ps → Away key qs → Away key (ps ++ qs)
away_both key [] qs first later = later
away_both key (p ∷ ps) qs first later = (first.0, away_both key ps qs first.1 later)

once_both : (ps qs : List Part) → Once ps → Once qs → Apart ps qs → Once (ps ++ qs)
once_both [] qs first later apart = later
once_both (p ∷ ps) qs first later apart = (away_both p.key ps qs first.0 apart.0, once_both ps qs first.1 later apart.1)

apart_both : (ps qs rs : List Part) → Apart ps qs → Apart ps rs → Apart ps (qs ++ rs)
apart_both [] qs rs first later = tt
apart_both (p ∷ ps) qs rs first later = (away_both p.key qs rs first.0 later.0, apart_both ps qs rs first.1 later.1)

apart_none : (ps : List Part) → Apart ps []
apart_none [] = tt
apart_none (p ∷ ps) = (tt, apart_none ps)

-- ---- by the first three bytes of their words

unfoldable kind_of : List ℕ → ℕ
kind_of word =
    cond (bytes_eq word (codes "pc ")) 0
    (cond (bytes_eq word (codes "hal")) 1
    (cond (bytes_eq word (codes "reg")) 2
    (cond (bytes_eq word (codes "ent")) 3
    (cond (bytes_eq word (codes "buf")) 4
    (cond (bytes_eq word (codes "slo")) 5
    (cond (bytes_eq word (codes "lea")) 6
    (cond (bytes_eq word (codes "res")) 7
    (cond (bytes_eq word (codes "tim")) 8
    (cond (bytes_eq word (codes "dir")) 9
    (cond (bytes_eq word (codes "dow")) 10
    (cond (bytes_eq word (codes "req")) 11
    (cond (bytes_eq word (codes "rep")) 12
    (cond (bytes_eq word (codes "par")) 13
    (cond (bytes_eq word (codes "kep")) 14
    15))))))))))))))

unfoldable kind : Part → ℕ
kind p = kind_of (take 3 p.key)

kind_same : (p q : Part) → p.key ≡ q.key → kind p ≡ kind q
unfolding kind
kind_same p q same = ap (λ (key : List ℕ). kind_of (take 3 key)) same

-- their keys differ, and their kinds are from the one number on, below the other
record Group (low high : ℕ) (ps : List Part) : Type 0 where
  once : Once ps
  kinds : AllByRecursion (λ (p : Part). (low ≤ kind p) × (kind p < high)) ps

away_later : (p : Part) (k high : ℕ) (qs : List Part) → kind p < k → AllByRecursion (λ (q : Part). (k ≤ kind q) × (kind q < high)) qs → Away p.key qs
away_later p k high [] low kinds = tt
away_later p k high (q ∷ qs) low kinds = ((λ same. let e = kind_same q p same in absurd (omega (arith, e, low, kinds.0.0))), away_later p k high qs low kinds.1)

apart_kinds : (low k high : ℕ) (ps qs : List Part) → AllByRecursion (λ (p : Part). (low ≤ kind p) × (kind p < k)) ps → AllByRecursion (λ (q : Part). (k ≤ kind q) × (kind q < high)) qs → Apart ps qs
apart_kinds low k high [] qs first later = tt
apart_kinds low k high (p ∷ ps) qs first later = (away_later p k high qs first.0.1 later, apart_kinds low k high ps qs first.1 later)

wider : (low high low' high' : ℕ) (ps : List Part) → low' ≤ low → high ≤ high' → AllByRecursion (λ (p : Part). (low ≤ kind p) × (kind p < high)) ps → AllByRecursion (λ (p : Part). (low' ≤ kind p) × (kind p < high')) ps
wider low high low' high' [] down up kinds = tt
wider low high low' high' (p ∷ ps) down up kinds = ((omega (arith, down, kinds.0.0), omega (arith, up, kinds.0.1)), wider low high low' high' ps down up kinds.1)

kinds_both : (low high : ℕ) (ps qs : List Part) → AllByRecursion (λ (p : Part). (low ≤ kind p) × (kind p < high)) ps → AllByRecursion (λ (p : Part). (low ≤ kind p) × (kind p < high)) qs → AllByRecursion (λ (p : Part). (low ≤ kind p) × (kind p < high)) (ps ++ qs)
kinds_both low high [] qs first later = later
kinds_both low high (p ∷ ps) qs first later = (first.0, kinds_both low high ps qs first.1 later)

then_group : {low k high : ℕ} (ps qs : List Part) → low ≤ k → k ≤ high → Group low k ps → Group k high qs → Group low high (ps ++ qs)
then_group {low} {k} {high} ps qs down up first later = record {
  once = once_both ps qs first.once later.once (apart_kinds low k high ps qs first.kinds later.kinds);
  kinds = kinds_both low high ps qs (wider low k low high ps (omega arith) up first.kinds) (wider k high low high qs down (omega arith) later.kinds);
}

one_group : (p : Part) (k : ℕ) → kind p ≡ k → Group k (k + 1) (p ∷ [])
one_group p k is = record { once = (tt, tt); kinds = ((omega (arith, is), omega (arith, is)), tt) }

none_group : (k : ℕ) → Group k k []
none_group k = record { once = tt; kinds = tt }

first_group : {p : Part} {qs : List Part} {high : ℕ} (k : ℕ) → kind p ≡ k → k + 1 ≤ high → Group (k + 1) high qs → Group k high (p ∷ qs)
first_group {p} {qs} {high} k is up later = then_group (p ∷ []) qs (omega arith) up (one_group p k is) later

-- ---- parts of one word and leaf or bus, numbered

cut : (front xs ys : List ℕ) → front ++ xs ≡ front ++ ys → xs ≡ ys
cut [] xs ys same = same
cut (b ∷ front) xs ys same = cut front xs ys (cc same)

module _ {X : Type 0} (part : ℕ → X → Part) (front : List ℕ) (keys : (i : ℕ) (e : X) → (part i e).key ≡ front ++ decimal i) where
  numbers_away : (i j : ℕ) (es : List X) → i < j → j + length es ≤ 4294967296 → Away (front ++ decimal i) (numbered part j es)
  unfolding numbered
  numbers_away i j [] below few = tt
  numbers_away i j (e ∷ es) below few = (
    (λ same. let equal : j ≡ i = decimal_injective j i (omega arith) (omega arith) (cut front (decimal j) (decimal i) (sym (keys j e) ∙ same)) in absurd (omega (arith, equal, below))),
    numbers_away i (j + 1) es (omega (arith, below)) (omega (arith, few)),
  )

  numbers_once : (i : ℕ) (es : List X) → i + length es ≤ 4294967296 → Once (numbered part i es)
  unfolding numbered
  numbers_once i [] few = tt
  numbers_once i (e ∷ es) few = (subst (λ key. Away key (numbered part (i + 1) es)) (sym (keys i e)) (numbers_away i (i + 1) es (omega arith) (omega (arith, few))), numbers_once (i + 1) es (omega (arith, few)))

  numbers_kinds : (k i : ℕ) (es : List X) → ((j : ℕ) (e : X) → kind (part j e) ≡ k) → AllByRecursion (λ (p : Part). (k ≤ kind p) × (kind p < k + 1)) (numbered part i es)
  unfolding numbered
  numbers_kinds k i [] is = tt
  numbers_kinds k i (e ∷ es) is = (let here = is i e in (omega (arith, here), omega (arith, here)), numbers_kinds k (i + 1) es is)

  numbers_group : (k i : ℕ) (es : List X) → ((j : ℕ) (e : X) → kind (part j e) ≡ k) → i + length es ≤ 4294967296 → Group k (k + 1) (numbered part i es)
  numbers_group k i es is few = record { once = numbers_once i es few; kinds = numbers_kinds k i es is }

-- ---- by the number after the word

-- what is after the first space, and what is before it
abbrev behind : List ℕ → List ℕ
behind [] = []
behind (b ∷ bs) = cond (nat_eq b 32) bs (behind bs)

abbrev before : List ℕ → List ℕ
before [] = []
before (b ∷ bs) = cond (nat_eq b 32) [] (b ∷ before bs)

-- nothing, or what begins with a space
abbrev IsRest : List ℕ → Type 0
IsRest [] = ⊤
IsRest (b ∷ bs) = b ≡ 32

before_rest : (text rest : List ℕ) → Lacks 32 text → IsRest rest → before (text ++ rest) ≡ text
before_rest [] [] lacks is = refl
before_rest [] (b ∷ rest) lacks is = rw is refl
before_rest (b ∷ text) rest lacks is = by (nat_eq b 32) refl (before_rest text rest (and-second (not (nat_eq b 32)) (list_all (λ byte. not (nat_eq byte 32)) text) lacks) is) where
  by : (t : Bool) → nat_eq b 32 ≡ t → before (text ++ rest) ≡ text → cond t [] (b ∷ before (text ++ rest)) ≡ b ∷ text
  by true space later = absurd (let no = and-first (not (nat_eq b 32)) (list_all (λ byte. not (nat_eq byte 32)) text) lacks in cc (sym no ∙ ap not space))
  by false space later = ap (λ (bs : List ℕ). b ∷ bs) later

record HasNumber (n : ℕ) (p : Part) : Type 0 where
  rest : List ℕ
  is_rest : IsRest rest
  key : behind p.key ≡ decimal n ++ rest

abbrev AllNumbered : ℕ → List Part → Type 0
AllNumbered n ps = AllByRecursion (HasNumber n) ps

before_number : (n : ℕ) (rest : List ℕ) → n < 4294967296 → IsRest rest → before (decimal n ++ rest) ≡ decimal n
before_number n rest small is = before_rest (decimal n) rest (Lacks-decimal 32 n refl (omega (arith, small))) is

number_same : (n k : ℕ) (p q : Part) → n < 4294967296 → k < 4294967296 → HasNumber n p → HasNumber k q → q.key ≡ p.key → n ≡ k
number_same n k p q small small' own other same =
    let keys : decimal n ++ own.rest ≡ decimal k ++ other.rest = sym own.key ∙ ap behind (sym same) ∙ other.key in
    decimal_injective n k (omega (arith, small)) (omega (arith, small')) (sym (before_number n own.rest small own.is_rest) ∙ ap before keys ∙ before_number k other.rest small' other.is_rest)

module _ (n k : ℕ) (small : n < 4294967296) (small' : k < 4294967296) (other : n ≡ k → ⊥) where
  numbers_away_from : (p : Part) (qs : List Part) → HasNumber n p → AllNumbered k qs → Away p.key qs
  numbers_away_from p [] own others = tt
  numbers_away_from p (q ∷ qs) own others = ((λ same. other (number_same n k p q small small' own others.0 same)), numbers_away_from p qs own others.1)

  apart_numbers : (ps qs : List Part) → AllNumbered n ps → AllNumbered k qs → Apart ps qs
  apart_numbers [] qs own others = tt
  apart_numbers (p ∷ ps) qs own others = (numbers_away_from p qs own.0 others, apart_numbers ps qs own.1 others)

numbered_both : (n : ℕ) (ps qs : List Part) → AllNumbered n ps → AllNumbered n qs → AllNumbered n (ps ++ qs)
numbered_both n [] qs first later = later
numbered_both n (p ∷ ps) qs first later = (first.0, numbered_both n ps qs first.1 later)

plain_number : (n : ℕ) (p : Part) → behind p.key ≡ decimal n → HasNumber n p
plain_number n p is = record { rest = []; is_rest = tt; key = is ∙ sym (append-nil (decimal n)) }

item_number : (n x : ℕ) (p : Part) → behind p.key ≡ decimal n ++ codes " " ++ decimal x → HasNumber n p
item_number n x p is = record { rest = codes " " ++ decimal x; is_rest = refl; key = is ∙ append_assoc (decimal n) (codes " ") (decimal x) }

all_numbered : {X : Type 0} (n : ℕ) (part : ℕ → X → Part) → ((i : ℕ) (e : X) → HasNumber n (part i e)) → (i : ℕ) (es : List X) → AllNumbered n (numbered part i es)
unfolding numbered
all_numbered n part each i [] = tt
all_numbered n part each i (e ∷ es) = (each i e, all_numbered n part each (i + 1) es)

-- ---- a leaf

-- of 32 registers, and so few items that they can be counted
abbrev LeafFits : LeafValue → Type 0
LeafFits v = (length v.hart.registers ≡ 32) × (length v.ways ≤ 4294967296)

leaf_group : (v : LeafValue) → LeafFits v → Group 0 8 (leaf_parts v)
unfolding leaf_parts kind kind_of key_of item_key_of
leaf_group v fits =
    let n = v.number in
    let few : 1 + length (drop 1 v.hart.registers) ≤ 4294967296 = omega (arith, fits.0, length-drop 1 v.hart.registers) in
    let registers : Group 2 3 (numbered (register_part n) 1 (drop 1 v.hart.registers)) = numbers_group (register_part n) (key_of (codes "reg") n ++ codes " ") (λ i e. refl) 2 1 (drop 1 v.hart.registers) (λ i e. refl) few in
    let hart : Group 0 3 (hart_parts v) = first_group 0 refl (omega arith) (first_group 1 refl (omega arith) registers) in
    let entries : Group 3 4 (entry_parts v) = numbers_group (entry_part n) (key_of (codes "entry") n ++ codes " ") (λ i e. refl) 3 0 v.ways (λ i e. refl) (omega (arith, fits.1)) in
    let lists : Group 4 8 (leaf_list_parts v) = first_group 4 refl (omega arith) (first_group 5 refl (omega arith) (first_group 6 refl (omega arith) (first_group 7 refl (omega arith) (none_group 8)))) in
    then_group (hart_parts v ++ entry_parts v) (leaf_list_parts v) (omega arith) (omega arith) (then_group (hart_parts v) (entry_parts v) (omega arith) (omega arith) hart entries) lists

leaf_numbered : (v : LeafValue) → AllNumbered v.number (leaf_parts v)
unfolding leaf_parts key_of item_key_of
leaf_numbered v =
    let n = v.number in
    let hart : AllNumbered n (hart_parts v) = (plain_number n _ refl, (plain_number n _ refl, all_numbered n (register_part n) (λ i e. item_number n i _ refl) 1 (drop 1 v.hart.registers))) in
    let entries : AllNumbered n (entry_parts v) = all_numbered n (entry_part n) (λ i e. item_number n i _ refl) 0 v.ways in
    let lists : AllNumbered n (leaf_list_parts v) = (plain_number n _ refl, (plain_number n _ refl, (plain_number n _ refl, (plain_number n _ refl, tt)))) in
    numbered_both n (hart_parts v ++ entry_parts v) (leaf_list_parts v) (numbered_both n (hart_parts v) (entry_parts v) hart entries) lists

-- ---- leaves whose numbers count from one

abbrev AreCounted : ℕ → List LeafValue → Type 0
AreCounted k [] = ⊤
AreCounted k (v ∷ vs) = (v.number ≡ k) × AreCounted (k + 1) vs

later_leaves : (v : LeafValue) (k : ℕ) (vs : List LeafValue) → v.number < k → AreCounted k vs → k + length vs ≤ 4294967296 → Apart (leaf_parts v) (flat_map leaf_parts vs)
later_leaves v k [] below counted few = apart_none (leaf_parts v)
later_leaves v k (u ∷ vs) below counted few =
    apart_both (leaf_parts v) (leaf_parts u) (flat_map leaf_parts vs)
    (apart_numbers v.number u.number (omega (arith, below, few)) (omega (arith, counted.0, few)) (λ same. absurd (omega (arith, same, below, counted.0))) (leaf_parts v) (leaf_parts u) (leaf_numbered v) (leaf_numbered u))
    (later_leaves v (k + 1) vs (omega (arith, below)) counted.1 (omega (arith, few)))

leaves_group : (k : ℕ) (vs : List LeafValue) → AreCounted k vs → AllByRecursion LeafFits vs → k + length vs ≤ 4294967296 → Group 0 8 (flat_map leaf_parts vs)
leaves_group k [] counted fits few = record { once = tt; kinds = tt }
leaves_group k (v ∷ vs) counted fits few =
    let first = leaf_group v fits.0 in
    let later = leaves_group (k + 1) vs counted.1 fits.1 (omega (arith, few)) in
    record {
      once = once_both (leaf_parts v) (flat_map leaf_parts vs) first.once later.once (later_leaves v (k + 1) vs (omega (arith, counted.0)) counted.1 (omega (arith, few)));
      kinds = kinds_both 0 8 (leaf_parts v) (flat_map leaf_parts vs) first.kinds later.kinds;
    }

abbrev number_of : LeafValue → ℕ
number_of v = v.number

mutual
  numbers_of : (k : Node) (rest : List LeafValue) → map number_of (leaves_of k rest) ≡ leaf_numbers_of (skeleton k) (map number_of rest)
  numbers_of (leaf_node v) rest = refl
  numbers_of (dir_node d ns) rest = numbers_among ns rest

  numbers_among : (ns : Nodes) (rest : List LeafValue) → map number_of (leaves_among ns rest) ≡ leaf_numbers_among (skeletons ns) (map number_of rest)
  numbers_among no_nodes rest = refl
  numbers_among (more_nodes k ks) rest = numbers_of k (leaves_among ks rest) ∙ ap (leaf_numbers_of (skeleton k)) (numbers_among ks rest)

counted_of : (k : ℕ) (vs : List LeafValue) → count_from k (map number_of vs) ≡ true → AreCounted k vs
counted_of k [] counted = tt
counted_of k (v ∷ vs) counted = (eqb-true v.number k (and-first (nat_eq v.number k) (count_from (k + 1) (map number_of vs)) counted), counted_of (k + 1) vs (and-second (nat_eq v.number k) (count_from (k + 1) (map number_of vs)) counted))

module _ (n : ℕ) (few : n ≤ 4294967296) where
  mutual
    fits_in : (k : Node) (rest : List LeafValue) → all_within n k ≡ true → have_registers 32 k ≡ true → AllByRecursion LeafFits rest → AllByRecursion LeafFits (leaves_of k rest)
    fits_in (leaf_node v) rest within registers fits =
        let ways : length v.ways ≡ n = eqb-true (length v.ways) n (and-first (nat_eq (length v.ways) n) (nat_le (length v.buffer) v.sizes.buffer_room && nat_le (length v.replies) v.sizes.reply_room) within) in
        ((eqb-true (length v.hart.registers) 32 registers, omega (arith, ways, few)), fits)
    fits_in (dir_node d ns) rest within registers fits = fits_among ns rest (and-second (dir_within n d) (all_within_among n ns) within) registers fits

    fits_among : (ns : Nodes) (rest : List LeafValue) → all_within_among n ns ≡ true → have_registers_among 32 ns ≡ true → AllByRecursion LeafFits rest → AllByRecursion LeafFits (leaves_among ns rest)
    fits_among no_nodes rest within registers fits = fits
    fits_among (more_nodes k ks) rest within registers fits =
        fits_in k (leaves_among ks rest) (and-first (all_within n k) (all_within_among n ks) within) (and-first (have_registers 32 k) (have_registers_among 32 ks) registers)
        (fits_among ks rest (and-second (all_within n k) (all_within_among n ks) within) (and-second (have_registers 32 k) (have_registers_among 32 ks) registers) fits)

-- ---- the directory over a bus

dir_group : (count : ℕ) (d : DirValue) → length d.items ≤ 4294967296 → Group 8 15 (dir_parts count d)
unfolding dir_parts kind kind_of key_of item_key_of
dir_group count d few =
    let items : Group 9 10 (numbered (dir_part d.bus count) 0 d.items) = numbers_group (dir_part d.bus count) (key_of (codes "dir") d.bus ++ codes " ") (λ i e. refl) 9 0 d.items (λ i e. refl) (omega (arith, few)) in
    let kept : Group 8 10 (kept_parts count d) = first_group 8 refl (omega arith) items in
    let lists : Group 10 15 (dir_list_parts d) = first_group 10 refl (omega arith) (first_group 11 refl (omega arith) (first_group 12 refl (omega arith) (first_group 13 refl (omega arith) (first_group 14 refl (omega arith) (none_group 15))))) in
    then_group (kept_parts count d) (dir_list_parts d) (omega arith) (omega arith) kept lists

dir_numbered : (count : ℕ) (d : DirValue) → AllNumbered d.bus (dir_parts count d)
unfolding dir_parts key_of item_key_of
dir_numbered count d =
    let n = d.bus in
    let kept : AllNumbered n (kept_parts count d) = (plain_number n _ refl, all_numbered n (dir_part n count) (λ i e. item_number n i _ refl) 0 d.items) in
    let lists : AllNumbered n (dir_list_parts d) = (plain_number n _ refl, (plain_number n _ refl, (plain_number n _ refl, (plain_number n _ refl, (plain_number n _ refl, tt))))) in
    numbered_both n (kept_parts count d) (dir_list_parts d) kept lists

record IsOfBus (bus : ℕ) (ps : List Part) : Type 0 where
  group : Group 8 15 ps
  numbers : AllNumbered bus ps

nothing_there : (bus : ℕ) → IsOfBus bus []
nothing_there bus = record { group = record { once = tt; kinds = tt }; numbers = tt }

abbrev parts_at : Where → Node → List Part
parts_at w k = of_dir (λ w d ns. dir_parts (length ns) d) [] w k

module _ (n bus : ℕ) (few : n ≤ 4294967296) where
  abbrev IsTold : Option (List Part) → Type 0
  IsTold o = IsOfBus bus (parts_or_none o)

  mutual
    told_in : (w : Where) (k : Node) → all_within n k ≡ true → IsTold (read_in (bus_of_number bus) parts_at w k)
    told_in w (leaf_node v) within = nothing_there bus
    told_in w (dir_node d ns) within = by (nat_eq d.bus bus) refl (told_among (where_path w) d 0 ns (and-second (dir_within n d) (all_within_among n ns) within)) where
      items : length d.items ≡ n
      items = eqb-true (length d.items) n (and-first (nat_eq (length d.items) n) _ (and-first (dir_within n d) (all_within_among n ns) within))

      by : (b : Bool) → nat_eq d.bus bus ≡ b → IsTold (read_among (bus_of_number bus) parts_at (where_path w) d 0 ns) → IsTold (cond b (Some (dir_parts (length (children ns)) d)) (read_among (bus_of_number bus) parts_at (where_path w) d 0 ns))
      by true own below = record {
        group = dir_group (length (children ns)) d (omega (arith, items, few));
        numbers = subst (λ (k : ℕ). AllNumbered k (dir_parts (length (children ns)) d)) (eqb-true d.bus bus own) (dir_numbered (length (children ns)) d);
      }
      by false own below = below

    told_among : (path : List ℕ) (d : DirValue) (i : ℕ) (ns : Nodes) → all_within_among n ns ≡ true → IsTold (read_among (bus_of_number bus) parts_at path d i ns)
    told_among path d i no_nodes within = nothing_there bus
    told_among path d i (more_nodes k ks) within =
        by (has_node (bus_of_number bus) k)
        (told_in (at_child (spot_in path d i)) k (and-first (all_within n k) (all_within_among n ks) within))
        (told_among path d (i + 1) ks (and-second (all_within n k) (all_within_among n ks) within))
      where
        by : (b : Bool) → IsTold (read_in (bus_of_number bus) parts_at (at_child (spot_in path d i)) k) → IsTold (read_among (bus_of_number bus) parts_at path d (i + 1) ks)
            → IsTold (cond b (read_in (bus_of_number bus) parts_at (at_child (spot_in path d i)) k) (read_among (bus_of_number bus) parts_at path d (i + 1) ks))
        by true first later = first
        by false first later = later

module _ (n : ℕ) (m : MachineValue) (few : n ≤ 4294967296) (within : all_within n (root_of m) ≡ true) where
  bus_told : (bus : ℕ) → IsOfBus bus (bus_parts m bus)
  unfolding bus_parts
  bus_told bus = told_in n bus few at_top (root_of m) within

  later_buses : (bus k count : ℕ) → bus < k → k + count ≤ 4294967296 → Apart (bus_parts m bus) (flat_map (bus_parts m) (range_with_len k count))
  later_buses bus k zero below room = apart_none (bus_parts m bus)
  later_buses bus k (suc count) below room =
      apart_both (bus_parts m bus) (bus_parts m k) (flat_map (bus_parts m) (range_with_len (k + 1) count))
      (apart_numbers bus k (omega (arith, below, room)) (omega (arith, room)) (λ same. absurd (omega (arith, same, below))) (bus_parts m bus) (bus_parts m k) (bus_told bus).numbers (bus_told k).numbers)
      (later_buses bus (k + 1) count (omega (arith, below)) (omega (arith, room)))

  buses_group : (k count : ℕ) → k + count ≤ 4294967296 → Group 8 15 (flat_map (bus_parts m) (range_with_len k count))
  buses_group k zero room = record { once = tt; kinds = tt }
  buses_group k (suc count) room =
      let first = (bus_told k).group in
      let later = buses_group (k + 1) count (omega (arith, room)) in
      record {
        once = once_both (bus_parts m k) (flat_map (bus_parts m) (range_with_len (k + 1) count)) first.once later.once (later_buses k (k + 1) count (omega arith) (omega (arith, room)));
        kinds = kinds_both 8 15 (bus_parts m k) (flat_map (bus_parts m) (range_with_len (k + 1) count)) first.kinds later.kinds;
      }

-- ---- the places of copies

module _ (m : MachineValue) where
  copies_away : (x k count : ℕ) → x < k → k + count ≤ 4294967296 → Away (place_part m x).key (map (place_part m) (range_with_len k count))
  unfolding place_part key_of
  copies_away x k zero below room = tt
  copies_away x k (suc count) below room = (
    (λ same. let equal : k ≡ x = decimal_injective k x (omega (arith, room)) (omega (arith, below, room)) (cut (codes "copy ") (decimal k) (decimal x) same) in absurd (omega (arith, equal, below))),
    copies_away x (k + 1) count (omega (arith, below)) (omega (arith, room)),
  )

  copies_once : (k count : ℕ) → k + count ≤ 4294967296 → Once (map (place_part m) (range_with_len k count))
  copies_once k zero room = tt
  copies_once k (suc count) room = (copies_away k (k + 1) count (omega arith) (omega (arith, room)), copies_once (k + 1) count (omega (arith, room)))

  copies_kinds : (k count : ℕ) → AllByRecursion (λ (p : Part). (15 ≤ kind p) × (kind p < 16)) (map (place_part m) (range_with_len k count))
  unfolding place_part kind kind_of key_of
  copies_kinds k zero = tt
  copies_kinds k (suc count) = ((omega arith, omega arith), copies_kinds (k + 1) count)

-- ---- a machine

pub keys_apart : (m : MachineValue) (n : ℕ) → count_from 0 (leaf_numbers_of (skeleton (root_of m)) []) ≡ true → all_within n (root_of m) ≡ true → have_registers 32 (root_of m) ≡ true → n ≤ 4294967296 → length (leaf_numbers_of (skeleton (root_of m)) []) ≤ 4294967296
    → length m.traffic ≤ 4294967296 → item_count m.items ≤ 4294967296 → has_keys_once (still m) ≡ true
unfolding still
keys_apart m n counted within registers few leaves buses items =
    let leaf_list = flat_map leaf_parts (machine_leaves m) in
    let bus_list = flat_map (bus_parts m) (range_with_len 0 (length m.traffic)) in
    let copy_list = map (place_part m) (range_with_len 0 (item_count m.items)) in
    let numbers : count_from 0 (map number_of (machine_leaves m)) ≡ true = ap (count_from 0) (numbers_of (root_of m) []) ∙ counted in
    let many : length (machine_leaves m) ≡ length (leaf_numbers_of (skeleton (root_of m)) []) = sym (length-map (machine_leaves m) number_of) ∙ ap length (numbers_of (root_of m) []) in
    let first : Group 0 8 leaf_list = leaves_group 0 (machine_leaves m) (counted_of 0 (machine_leaves m) numbers) (fits_in n few (root_of m) [] within registers tt) (omega (arith, leaves, many)) in
    let second : Group 8 15 bus_list = buses_group n m few within 0 (length m.traffic) (omega (arith, buses)) in
    let third : Group 15 16 copy_list = record { once = copies_once m 0 (item_count m.items) (omega (arith, items)); kinds = copies_kinds m 0 (item_count m.items) } in
    once_is (leaf_list ++ bus_list ++ copy_list) (then_group (leaf_list ++ bus_list) copy_list (omega arith) (omega arith) (then_group leaf_list bus_list (omega arith) (omega arith) first second) third).once
