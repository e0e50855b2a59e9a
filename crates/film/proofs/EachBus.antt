-- The directory over the bus of a number, and what holds of it.
-- Letters: m is a machine, d a directory over the nodes ns, n how many items there are.
use Rattle.std.proofs.Common.{true≢false, ◌≡◌, ◌≤◌, ◌<◌, ℕ, suc, ◌+◌, Bool, true, false, cond, List, [], ◌∷◌, ◌++◌, flat_map, map, Option, Some, None, drop, drop-cons, length, nat_eq, zero-add, refl, sym, ap, subst, ◌∙◌, arith}
use Rattle.std.specs.Prelude.{is_some, option_map, ◌||◌, nat_le, nat_lt, not}
use Rattle.std.specs.List.{AllByRecursion, list_all, range_with_len}
use Rattle.std.proofs.lemmas.Bool.{and_parts, eqb-true, leb-true, ne_eqb}
use Rattle.std.proofs.lemmas.List.FromFn.{get_or-range_with_len, length-range_with_len}
use Rattle.film.proofs.TreeModel.NamedNode.{read_in-is_some}
use Rattle.film.specs.DdmTypes.ItemTable.{item_count}
use Rattle.film.specs.FilmParts.Records.{IsPlain}
use Rattle.film.specs.FilmParts.Values.{DirHasForm, HasForm, PartsHaveForm, PartsHaveFormAmong}
use Rattle.film.specs.Found.{IsOver}
use Rattle.film.specs.TreeModel.State.Directory.{is_top}
use Rattle.film.specs.TreeModel.State.Place.{Where, at_top, at_child, where_path, spot_in}
use Rattle.film.specs.TreeModel.State.Shape.{IsShaped, are_below, bone_count, buses_of, traffic_counted, tree_counts, levels_fit, levels_fit_among, levels_known, levels_of, skeleton, skeletons, widths_bounded, widths_fit, widths_fit_among}
use Rattle.film.specs.TreeModel.State.States.{is_exclusive}
use Rattle.film.specs.TreeModel.State.Values.{DirItem, DirValue, Node, Nodes, leaf_node, dir_node, no_nodes, more_nodes, children, MachineValue, root_of}
use Rattle.film.specs.TreeModel.Turns.Machine.{ask_bus}
use Rattle.film.specs.TreeModel.Turns.Tree.{bus_of_number, has_among, has_node, of_dir, read_among, read_in}
use Rattle.film.specs.DdmTypes.declared.sizes.Hold.{Hold}
use Rattle.film.specs.DdmTree.Written.{dir_words_of}
use Rattle.film.specs.StateWords.Machine.{words_or_none}
use Rattle.film.specs.FilmParts.Parts.{dir_words}
use Rattle.film.specs.FilmModel.Directory.{dir_parts}
use Rattle.film.specs.TreeModel.Turns.Machine.{machine_leaves}
use Rattle.film.specs.FilmModel.Leaf.{leaf_parts}
use Rattle.film.specs.FilmModel.Part.{Part}
use Rattle.film.specs.FilmModel.Still.{bus_parts, parts_or_none, place_part, still}
use Rattle.film.specs.TreeRules.Bus.Own.{IsTopOk, dir_lists, top_item, top_items, top_level}
use Rattle.film.specs.TreeRules.Bus.Rules.{AreTreesOk, IsMachineOk, IsTreeOk}

-- ---- one read gives all others

module _ {A : Type 0} (f : DirValue → List Node → A) (other : A) (bus : ℕ) where
  abbrev by_pair : Option (DirValue × List Node) → A
  by_pair None = other
  by_pair (Some p) = f p.0 p.1

  mapped_some : (b : Bool) (x : Option (DirValue × List Node)) (o : Option (Option (DirValue × List Node))) → option_map by_pair (cond b (Some x) o) ≡ cond b (Some (by_pair x)) (option_map by_pair o)
  mapped_some true x o = refl
  mapped_some false x o = refl

  mapped_both : (b : Bool) (o p : Option (Option (DirValue × List Node))) → option_map by_pair (cond b o p) ≡ cond b (option_map by_pair o) (option_map by_pair p)
  mapped_both true o p = refl
  mapped_both false o p = refl

  mutual
    read_by : (w : Where) (n : Node) → read_in (bus_of_number bus) (of_dir (λ w d ns. f d ns) other) w n ≡ option_map by_pair (read_in (bus_of_number bus) (of_dir (λ w d ns. Some (d, ns)) None) w n)
    read_by w (leaf_node v) = refl
    read_by w (dir_node d ns) =
        ap (cond (nat_eq d.bus bus) (Some (f d (children ns)))) (among_by (where_path w) d 0 ns)
        ∙ sym (mapped_some (nat_eq d.bus bus) (Some (d, children ns)) (read_among (bus_of_number bus) (of_dir (λ w d ns. Some (d, ns)) None) (where_path w) d 0 ns))

    among_by : (path : List ℕ) (d : DirValue) (i : ℕ) (ns : Nodes)
        → read_among (bus_of_number bus) (of_dir (λ w d ns. f d ns) other) path d i ns ≡ option_map by_pair (read_among (bus_of_number bus) (of_dir (λ w d ns. Some (d, ns)) None) path d i ns)
    among_by path d i no_nodes = refl
    among_by path d i (more_nodes n ns) =
        ap (λ o. cond (has_node (bus_of_number bus) n) o (read_among (bus_of_number bus) (of_dir (λ w d ns. f d ns) other) path d (i + 1) ns)) (read_by (at_child (spot_in path d i)) n)
        ∙ ap (λ o. cond (has_node (bus_of_number bus) n) (option_map by_pair (read_in (bus_of_number bus) (of_dir (λ w d ns. Some (d, ns)) None) (at_child (spot_in path d i)) n)) o) (among_by path d (i + 1) ns)
        ∙ sym (mapped_both (has_node (bus_of_number bus) n) (read_in (bus_of_number bus) (of_dir (λ w d ns. Some (d, ns)) None) (at_child (spot_in path d i)) n) (read_among (bus_of_number bus) (of_dir (λ w d ns. Some (d, ns)) None) path d (i + 1) ns))

  pub read_over : (m : MachineValue) (d : DirValue) (ns : List Node) → IsOver bus d ns m → ask_bus bus (λ w e ks. f e ks) other m ≡ Some (f d ns)
  read_over m d ns over = read_by at_top (root_of m) ∙ ap (option_map by_pair) over

-- ---- what holds of it

-- its values, its lists, its children, and where it is
pub record IsDirFilmed (n width most above : ℕ) (d : DirValue) (ns : List Node) : Type 0 where
  pub form : DirHasForm width most d
  pub items : length d.items ≡ n
  pub few : length ns ≤ 16
  pub low : above ≤ d.level
  pub high : d.level ≤ 3

-- the read gives a directory of which this holds
pub record GivesDir (n width most bus above : ℕ) (o : Option (Option (DirValue × List Node))) : Type 0 where
  pub d : DirValue
  pub ns : List Node
  pub is : o ≡ Some (Some (d, ns))
  pub number : d.bus ≡ bus
  pub filmed : IsDirFilmed n width most above d ns

bones_are : (ns : Nodes) → bone_count (skeletons ns) ≡ length (children ns)
bones_are no_nodes = refl
bones_are (more_nodes n ns) = let more = bones_are ns in omega (arith, more)

module _ (n width most depth bus : ℕ) where
  abbrev over_in : Where → Node → Option (Option (DirValue × List Node))
  over_in w node = read_in (bus_of_number bus) (of_dir (λ w d ns. Some (d, ns)) None) w node

  own_filmed : (above : ℕ) (d : DirValue) (ns : Nodes) → IsTreeOk n (dir_node d ns) → PartsHaveForm width most (dir_node d ns) → widths_fit (skeleton (dir_node d ns)) ≡ true
      → levels_fit depth above (skeleton (dir_node d ns)) ≡ true → IsDirFilmed n width most above d (children ns)
  own_filmed above d ns ok form wide level =
      let lists = and_parts (nat_eq (length d.items) n) _ (ok.0.own.each dir_lists) in
      let widths = and_parts (nat_lt 0 (bone_count (skeletons ns))) _ wide in
      let most_wide = and_parts (nat_le (bone_count (skeletons ns)) 16) _ widths.1 in
      let own_level = and_parts (nat_eq d.level above) _ level in
      let above_few = and_parts (nat_le above 3) _ own_level.1 in
      let same : d.level ≡ above = eqb-true d.level above own_level.0 in
      let few : above ≤ 3 = leb-true above 3 above_few.0 in
      let sixteen : bone_count (skeletons ns) ≤ 16 = leb-true _ 16 most_wide.0 in
      record { form = form.0; items = eqb-true (length d.items) n lists.0; few = omega (arith, sixteen, bones_are ns); low = omega (arith, same); high = omega (arith, same, few) }

  higher : {above : ℕ} {o : Option (Option (DirValue × List Node))} → GivesDir n width most bus (above + 1) o → GivesDir n width most bus above o
  higher g = record { d = g.d; ns = g.ns; is = g.is; number = g.number; filmed = record { form = g.filmed.form; items = g.filmed.items; few = g.filmed.few; low = (let more = g.filmed.low in omega (arith, more)); high = g.filmed.high } }

  gives_either : (above : ℕ) (w : Where) (d : DirValue) (ns : Nodes) (b : Bool) → nat_eq d.bus bus ≡ b → (b || has_among (bus_of_number bus) ns) ≡ true → IsDirFilmed n width most above d (children ns)
      → (has_among (bus_of_number bus) ns ≡ true → GivesDir n width most bus (above + 1) (read_among (bus_of_number bus) (of_dir (λ w d ns. Some (d, ns)) None) (where_path w) d 0 ns))
      → GivesDir n width most bus above (cond b (Some (Some (d, children ns))) (read_among (bus_of_number bus) (of_dir (λ w d ns. Some (d, ns)) None) (where_path w) d 0 ns))
  gives_either above w d ns true own has filmed below = record { d = d; ns = children ns; is = refl; number = eqb-true d.bus bus own; filmed = filmed }
  gives_either above w d ns false own has filmed below = higher (below has)

  gives_first : (above : ℕ) (path : List ℕ) (d : DirValue) (i : ℕ) (node : Node) (ns : Nodes) (b : Bool) → has_node (bus_of_number bus) node ≡ b → (b || has_among (bus_of_number bus) ns) ≡ true
      → (has_node (bus_of_number bus) node ≡ true → GivesDir n width most bus above (over_in (at_child (spot_in path d i)) node))
      → (has_among (bus_of_number bus) ns ≡ true → GivesDir n width most bus above (read_among (bus_of_number bus) (of_dir (λ w d ns. Some (d, ns)) None) path d (i + 1) ns))
      → GivesDir n width most bus above (cond b (over_in (at_child (spot_in path d i)) node) (read_among (bus_of_number bus) (of_dir (λ w d ns. Some (d, ns)) None) path d (i + 1) ns))
  gives_first above path d i node ns true here has first later = first here
  gives_first above path d i node ns false here has first later = later has

  mutual
    gives_in : (above : ℕ) (w : Where) (node : Node) → has_node (bus_of_number bus) node ≡ true → IsTreeOk n node → PartsHaveForm width most node → widths_fit (skeleton node) ≡ true → levels_fit depth above (skeleton node) ≡ true
        → GivesDir n width most bus above (over_in w node)
    gives_in above w (leaf_node v) has ok form wide level = absurd (true≢false (sym has))
    gives_in above w (dir_node d ns) has ok form wide level =
        let widths = and_parts (nat_lt 0 (bone_count (skeletons ns))) _ wide in
        let below = and_parts (nat_le (bone_count (skeletons ns)) 16) _ widths.1 in
        let own_level = and_parts (nat_eq d.level above) _ level in
        let levels = and_parts (nat_le above 3) _ own_level.1 in
        gives_either above w d ns (nat_eq d.bus bus) refl has (own_filmed above d ns ok form wide level) (λ there. gives_among (above + 1) (where_path w) d 0 ns there ok.1 form.1 below.1 levels.1)

    gives_among : (above : ℕ) (path : List ℕ) (d : DirValue) (i : ℕ) (ns : Nodes) → has_among (bus_of_number bus) ns ≡ true → AreTreesOk n ns → PartsHaveFormAmong width most ns → widths_fit_among (skeletons ns) ≡ true
        → levels_fit_among depth above (skeletons ns) ≡ true → GivesDir n width most bus above (read_among (bus_of_number bus) (of_dir (λ w d ns. Some (d, ns)) None) path d i ns)
    gives_among above path d i no_nodes has ok form wide level = absurd (true≢false (sym has))
    gives_among above path d i (more_nodes node ns) has ok form wide level =
        let widths = and_parts (widths_fit (skeleton node)) _ wide in
        let levels = and_parts (levels_fit depth above (skeleton node)) _ level in
        gives_first above path d i node ns (has_node (bus_of_number bus) node) refl has (λ there. gives_in above (at_child (spot_in path d i)) node there ok.0 form.0 widths.0 levels.0)
        (λ there. gives_among above path d (i + 1) ns there ok.1 form.1 widths.1 levels.1)

-- ---- what the top holds of items, and what other directories do

exclusive_is : (h : Hold) → is_exclusive h ≡ true → h ≡ Hold.Exclusive
exclusive_is Hold.Invalid is = absurd (true≢false (sym is))
exclusive_is Hold.Shared is = absurd (true≢false (sym is))
exclusive_is Hold.Exclusive is = refl

not_true : (b : Bool) → not b ≡ true → b ≡ false
not_true true is = absurd (true≢false (sym is))
not_true false is = refl

top_all : (is : List DirItem) → list_all top_item is ≡ true → AllByRecursion (IsPlain true) is
top_all [] holds = tt
top_all (i ∷ is) holds =
    let both = and_parts (top_item i) (list_all top_item is) holds in
    let own = and_parts (is_exclusive i.hold) (not i.answering) both.0 in
    ((exclusive_is i.hold own.0, not_true i.answering own.1), top_all is both.1)

other_all : (is : List DirItem) → AllByRecursion (IsPlain false) is
other_all [] = tt
other_all (i ∷ is) = (tt, other_all is)

top_plain : (d : DirValue) → IsTopOk d → AllByRecursion (IsPlain (is_top d)) d.items
top_plain d ok = subst (λ b. AllByRecursion (IsPlain b) d.items) (sym (ok.each top_level)) (top_all d.items (ok.each top_items))

not_zero : (n : ℕ) → 1 ≤ n → nat_eq n 0 ≡ false
not_zero n some = ne_eqb n 0 (λ same. omega (arith, same, some))

other_plain : (d : DirValue) → 1 ≤ d.level → AllByRecursion (IsPlain (is_top d)) d.items
other_plain d below = subst (λ b. AllByRecursion (IsPlain b) d.items) (sym (not_zero d.level below)) (other_all d.items)

-- ---- a bus that is there

pub record BusGiven (n width most bus : ℕ) (m : MachineValue) : Type 0 where
  pub d : DirValue
  pub ns : List Node
  pub over : IsOver bus d ns m
  pub number : d.bus ≡ bus
  pub filmed : IsDirFilmed n width most 0 d ns
  pub plain : AllByRecursion (IsPlain (is_top d)) d.items

pub bus_given : (most bus : ℕ) (m : MachineValue) → IsShaped m → IsMachineOk m → HasForm most m → has_node (bus_of_number bus) (root_of m) ≡ true → BusGiven (item_count m.items) m.top.sizes.width most bus m
bus_given most bus m shaped ok form there = go (nat_eq m.top.bus bus) refl there where
  n : ℕ
  n = item_count m.items

  width : ℕ
  width = m.top.sizes.width

  depth : ℕ
  depth = levels_of (skeleton (root_of m))

  wide : widths_fit (skeleton (root_of m)) ≡ true
  wide = shaped.each widths_bounded

  level : levels_fit depth 0 (skeleton (root_of m)) ≡ true
  level = shaped.each levels_known

  rest : Option (Option (DirValue × List Node))
  rest = read_among (bus_of_number bus) (of_dir (λ w d ns. Some (d, ns)) None) [] m.top 0 m.kids

  go : (b : Bool) → nat_eq m.top.bus bus ≡ b → (b || has_among (bus_of_number bus) m.kids) ≡ true → BusGiven n width most bus m
  go true own has = record {
    d = m.top;
    ns = children m.kids;
    over = ap (λ b. cond b (Some (Some (m.top, children m.kids))) rest) own;
    number = eqb-true m.top.bus bus own;
    filmed = own_filmed n width most depth bus 0 m.top m.kids ok.tree form.parts wide level;
    plain = top_plain m.top ok.top;
  }
  go false own has =
      let widths = and_parts (nat_lt 0 (bone_count (skeletons m.kids))) _ wide in
      let below = and_parts (nat_le (bone_count (skeletons m.kids)) 16) _ widths.1 in
      let own_level = and_parts (nat_eq m.top.level 0) _ level in
      let levels = and_parts (nat_le 0 3) _ own_level.1 in
      let given = gives_among n width most depth bus 1 [] m.top 0 m.kids has ok.tree.1 form.parts.1 below.1 levels.1 in
      record {
        d = given.d;
        ns = given.ns;
        over = ap (λ b. cond b (Some (Some (m.top, children m.kids))) rest) own ∙ given.is;
        number = given.number;
        filmed = record { form = given.filmed.form; items = given.filmed.items; few = given.filmed.few; low = omega arith; high = given.filmed.high };
        plain = other_plain given.d given.filmed.low;
      }

-- ---- by number

-- a bus of which it is known how many buses are above it is there
pub known_bus : (bus level : ℕ) (m : MachineValue) → ask_bus bus (λ w d ns. d.level) 0 m ≡ Some level → has_node (bus_of_number bus) (root_of m) ≡ true
known_bus bus level m is = sym (read_in-is_some (bus_of_number bus) (of_dir (λ w d ns. d.level) 0) at_top (root_of m)) ∙ ap is_some is

-- traffic is counted for each bus
pub buses_counted : (m : MachineValue) → IsShaped m → length m.traffic ≡ (tree_counts m).buses
buses_counted m shaped = sym (eqb-true _ _ (and_parts (nat_eq (length (buses_of (skeleton (root_of m)) [])) (length m.traffic)) (are_below (length m.traffic) (buses_of (skeleton (root_of m)) [])) (shaped.each traffic_counted)).0)

pub range_next : (count place : ℕ) → place < count → drop place (range_with_len 0 count) ≡ place ∷ drop (suc place) (range_with_len 0 count)
range_next count place inside =
    let long : place < length (range_with_len 0 count) = omega (arith, inside, length-range_with_len 0 count) in
    drop-cons (range_with_len 0 count) place 0 long ∙ ap (λ (n : ℕ). n ∷ drop (suc place) (range_with_len 0 count)) (get_or-range_with_len 0 count place 0 inside ∙ zero-add place)

-- the parts of a directory, by the number of its bus
pub parts_of_bus : (bus : ℕ) (m : MachineValue) (d : DirValue) (ns : List Node) → IsOver bus d ns m → bus_parts m bus ≡ dir_parts (length ns) d
unfolding bus_parts
parts_of_bus bus m d ns over = ap parts_or_none (read_over (λ e ks. dir_parts (length ks) e) [] bus m d ns over)

pub words_of_bus : (bus : ℕ) (m : MachineValue) (d : DirValue) (ns : List Node) → IsOver bus d ns m → dir_words_of bus m ≡ dir_words d
words_of_bus bus m d ns over = ap words_or_none (read_over (λ e ks. dir_words e) [] bus m d ns over)

pub dir_form_of : {n width most above words : ℕ} {d : DirValue} {ns : List Node} → words ≡ width → IsDirFilmed n width most above d ns → DirHasForm words most d
dir_form_of {n} {width} {most} {above} {words} {d} same filmed = subst (λ (k : ℕ). DirHasForm k most d) (sym same) filmed.form

-- ---- the whole

pub still_told : (m : MachineValue) (s0 s1 s2 s3 : List Part) → s0 ≡ [] → s1 ≡ s0 ++ flat_map leaf_parts (machine_leaves m) → s2 ≡ s1 ++ flat_map (bus_parts m) (range_with_len 0 (length m.traffic))
    → s3 ≡ s2 ++ map (place_part m) (range_with_len 0 (item_count m.items)) → s3 ≡ still m
unfolding still
still_told m s0 s1 s2 s3 none first second third =
    third ∙ ap (λ (s : List Part). s ++ map (place_part m) (range_with_len 0 (item_count m.items)))
    (second ∙ ap (λ (s : List Part). s ++ flat_map (bus_parts m) (range_with_len 0 (length m.traffic))) (first ∙ ap (λ (s : List Part). s ++ flat_map leaf_parts (machine_leaves m)) none))
