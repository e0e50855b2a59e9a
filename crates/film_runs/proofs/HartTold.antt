-- The still after a turn that changed a hart alone: the parts of the hart are others, and what changed is among them.
-- Letters: m and k are machines before and after the turn, v a leaf, n how many items there are, ps, qs, hs and ts parts.
use Rattle.std.proofs.Common.{◌≡◌, ◌∙◌, ◌+◌, ◌*◌, ◌-◌, ◌≤◌, ℕ, zero, suc, Bool, true, false, List, [], ◌∷◌, ◌++◌, Some, None, cond, drop, take, flat_map, map, length, bytes_eq, refl, sym, ap, ap₂, subst, append_assoc, length-append, length-drop, take_at, drop_at, arith}
use Rattle.std.specs.Prelude.{IfSome, if◌then◌else◌, is_some, slice_get}
use Rattle.std.specs.List.{AllByRecursion, range_with_len}
use Rattle.std.proofs.Math.Nat.{suc-mul, zero-mul}
use Rattle.std.proofs.lemmas.Grind.{flat_map-append}
use Rattle.std.proofs.lemmas.Slice.Eq.{bytes_eq-Decides}
use Rattle.film.proofs.DdmTree.LeafList.{leaf-listed, leaf-number}
use Rattle.film.proofs.TreeModel.NamedNode.{read_in-is_some}
use Rattle.film.proofs.EachLeaf.{IsLeafFilmed, all_filmed}
use Rattle.film_runs.specs.DdmTree.Machine.{is_part}
use Rattle.film_runs.specs.DdmTypes.ItemTable.{item_count}
use Rattle.film_runs.specs.DdmTypes.declared.answers.TurnAnswer.{TurnAnswer}
use Rattle.film_runs.specs.DdmTypes.declared.turns.Turn.{Turn}
use Rattle.film_runs.specs.FilmModel.Leaf.{entry_part, entry_parts, hart_parts, leaf_list_parts, leaf_parts, register_part}
use Rattle.film_runs.specs.FilmModel.Part.{Part, changed, changes, numbered, part_line}
use Rattle.film_runs.specs.FilmModel.Still.{bus_parts, place_part, still}
use Rattle.film_runs.specs.HartAlone.{CameFrom, IsAlone, hart_alone, hart_changed}
use Rattle.film.specs.TreeRules.Bus.Rules.{IsMachineOk}
use Rattle.film_runs.specs.ValueLaws.Values.{HasForm}
use Rattle.film_runs.specs.TreeModel.State.Shape.{IsShaped}
use Rattle.film_runs.specs.TreeModel.State.Place.{at_top}
use Rattle.film_runs.specs.TreeModel.State.Values.{LeafValue, MachineValue, root_of}
use Rattle.film_runs.specs.TreeModel.Turns.Machine.{machine_leaves, turn_of}
use Rattle.film_runs.specs.TreeModel.Turns.Tree.{leaf_of_number, of_leaf}
use Rattle.film_runs.proofs.HartsAlone.{harts-alone}
use Rattle.film_runs.proofs.Resting.{no_changes}

-- ---- how many parts there are

numbered_count : {X : Type 0} (part : ℕ → X → Part) (x : ℕ) (es : List X) → length (numbered part x es) ≡ length es
unfolding numbered
numbered_count part x [] = refl
numbered_count part x (e ∷ es) = ap suc (numbered_count part (x + 1) es)

pub hart_count : (v : LeafValue) → length v.hart.registers ≡ 32 → length (hart_parts v) ≡ 33
hart_count v many =
    let rest : length (numbered (register_part v.number) 1 (drop 1 v.hart.registers)) ≡ 31 = numbered_count (register_part v.number) 1 (drop 1 v.hart.registers) ∙ length-drop 1 v.hart.registers ∙ ap (λ n. n - 1) many in
    ap (λ n. suc (suc n)) rest

leaf_count : (n width most : ℕ) (v : LeafValue) → IsLeafFilmed n width most v → length (leaf_parts v) ≡ 37 + n
unfolding leaf_parts
leaf_count n width most v filmed =
    let hart = hart_count v filmed.form.hart.registers.count in
    let entries : length (entry_parts v) ≡ n = numbered_count (entry_part v.number) 0 v.ways ∙ filmed.ways in
    let lists : length (leaf_list_parts v) ≡ 4 = refl in
    let inner = length-append (hart_parts v) (entry_parts v) in
    let whole = length-append (hart_parts v ++ entry_parts v) (leaf_list_parts v) in
    omega (arith, whole, inner, hart, entries, lists)

leaves_count : (n width most : ℕ) (vs ws : List LeafValue) → AllByRecursion (IsLeafFilmed n width most) (vs ++ ws) → length (flat_map leaf_parts vs) ≡ length vs * (37 + n)
leaves_count n width most [] ws all = sym (zero-mul (37 + n))
leaves_count n width most (v ∷ vs) ws all =
    let first = leaf_count n width most v all.0 in
    let rest = leaves_count n width most vs ws all.1 in
    let whole = length-append (leaf_parts v) (flat_map leaf_parts vs) in
    let product = suc-mul (length vs) (37 + n) in
    omega (arith, whole, first, rest, product)

-- ---- what changed

after_same : (ps hs gs : List Part) → changes (ps ++ hs) (ps ++ gs) ≡ changes hs gs
after_same [] hs gs = refl
after_same (p ∷ ps) hs gs =
    ap (λ (same : Bool). cond same (changes (ps ++ hs) (ps ++ gs)) (p ∷ changes (ps ++ hs) (ps ++ gs))) ((bytes_eq-Decides p.value p.value).1 refl) ∙ after_same ps hs gs

before_same : (hs gs ts : List Part) → length hs ≡ length gs → changes (hs ++ ts) (gs ++ ts) ≡ changes hs gs
before_same [] [] ts many = no_changes ts
before_same [] (g ∷ gs) ts many = absurd (omega (arith, many))
before_same (h ∷ hs) [] ts many = absurd (omega (arith, many))
before_same (h ∷ hs) (g ∷ gs) ts many = ap (λ (rest : List Part). cond (bytes_eq h.value g.value) rest (g ∷ rest)) (before_same hs gs ts (omega (arith, many)))

shorter : (hs gs ts : List Part) → length hs ≡ length gs → changes (hs ++ ts) gs ≡ changes hs gs
shorter [] [] [] many = refl
shorter [] [] (t ∷ ts) many = refl
shorter [] (g ∷ gs) ts many = absurd (omega (arith, many))
shorter (h ∷ hs) [] ts many = absurd (omega (arith, many))
shorter (h ∷ hs) (g ∷ gs) ts many = ap (λ (rest : List Part). cond (bytes_eq h.value g.value) rest (g ∷ rest)) (shorter hs gs ts (omega (arith, many)))

-- ---- the still in three

-- what is behind the parts of a hart
abbrev behind : LeafValue → List LeafValue → List Part → List Part
behind v last rest = (entry_parts v ++ leaf_list_parts v) ++ (flat_map leaf_parts last ++ rest)

cut : (first last : List LeafValue) (v : LeafValue) (rest : List Part) → flat_map leaf_parts (first ++ v ∷ last) ++ rest ≡ flat_map leaf_parts first ++ (hart_parts v ++ behind v last rest)
unfolding leaf_parts
cut first last v rest =
    let own : (leaf_parts v ++ flat_map leaf_parts last) ++ rest ≡ hart_parts v ++ behind v last rest =
    append_assoc (leaf_parts v) (flat_map leaf_parts last) rest
    ∙ ap (λ (ps : List Part). ps ++ (flat_map leaf_parts last ++ rest)) (append_assoc (hart_parts v) (entry_parts v) (leaf_list_parts v))
    ∙ append_assoc (hart_parts v) (entry_parts v ++ leaf_list_parts v) (flat_map leaf_parts last ++ rest) in
    ap (λ (ps : List Part). ps ++ rest) (flat_map-append leaf_parts first (v ∷ last))
    ∙ append_assoc (flat_map leaf_parts first) (leaf_parts v ++ flat_map leaf_parts last) rest
    ∙ ap (λ (ps : List Part). flat_map leaf_parts first ++ ps) own

mapped_same : {X Y : Type 0} (f g : X → Y) (xs : List X) → ((x : X) → f x ≡ g x) → map f xs ≡ map g xs
mapped_same f g [] same = refl
mapped_same {Y = Y} f g (x ∷ xs) same = ap₂ (λ (y : Y) (ys : List Y). y ∷ ys) (same x) (mapped_same f g xs same)

told_same : {X Y : Type 0} (f g : X → List Y) (xs : List X) → ((x : X) → f x ≡ g x) → flat_map f xs ≡ flat_map g xs
told_same f g [] same = refl
told_same {Y = Y} f g (x ∷ xs) same = ap₂ (λ (ys zs : List Y). ys ++ zs) (same x) (told_same f g xs same)

module _ (number : ℕ) (m k : MachineValue) (alone : IsAlone number m k) where
  abbrev bus_part : MachineValue → List Part
  bus_part n = flat_map (bus_parts n) (range_with_len 0 (length n.traffic))

  abbrev copy_part : MachineValue → List Part
  copy_part n = map (place_part n) (range_with_len 0 (item_count n.items))

  abbrev rest : List Part
  rest = bus_part m ++ copy_part m

  abbrev front : List Part
  front = flat_map leaf_parts alone.first

  abbrev back : List Part
  back = behind alone.leaf alone.last rest

  was : still m ≡ front ++ (hart_parts alone.leaf ++ back)
  unfolding still
  was =
      append_assoc (flat_map leaf_parts (machine_leaves m)) (bus_part m) (copy_part m) ∙ ap (λ (vs : List LeafValue). flat_map leaf_parts vs ++ rest) alone.before
      ∙ cut alone.first alone.last alone.leaf rest

  behind_now : behind alone.now alone.last rest ≡ back
  behind_now = subst (λ (v : LeafValue). behind v alone.last rest ≡ behind alone.leaf alone.last rest) (sym alone.hart) refl

  same_rest : bus_part k ++ copy_part k ≡ rest
  same_rest =
      ap₂ (λ (ps qs : List Part). ps ++ qs)
      (ap (λ n. flat_map (bus_parts k) (range_with_len 0 n)) alone.traffic ∙ told_same (bus_parts k) (bus_parts m) (range_with_len 0 (length m.traffic)) alone.buses)
      (ap (λ items. map (place_part k) (range_with_len 0 (item_count items))) alone.items ∙ mapped_same (place_part k) (place_part m) (range_with_len 0 (item_count m.items)) alone.places)

  is : still k ≡ front ++ (hart_parts alone.now ++ back)
  unfolding still
  is =
      append_assoc (flat_map leaf_parts (machine_leaves k)) (bus_part k) (copy_part k)
      ∙ ap₂ (λ (vs : List LeafValue) (ps : List Part). flat_map leaf_parts vs ++ ps) alone.after same_rest
      ∙ cut alone.first alone.last alone.now rest ∙ ap (λ (ps : List Part). front ++ (hart_parts alone.now ++ ps)) behind_now

  module _ (from : ℕ) (at : from ≡ length front) (many : length (hart_parts alone.leaf) ≡ length (hart_parts alone.now)) where
    pub still_put : take from (still m) ++ (hart_parts alone.now ++ drop (from + length (hart_parts alone.now)) (still m)) ≡ still k
    still_put =
        ap₂ (λ (ps qs : List Part). ps ++ (hart_parts alone.now ++ qs))
        (ap (take from) was ∙ take_at front (hart_parts alone.leaf ++ back) from (sym at))
        (ap (drop (from + length (hart_parts alone.now))) (was ∙ sym (append_assoc front (hart_parts alone.leaf) back))
        ∙ drop_at (front ++ hart_parts alone.leaf) back (from + length (hart_parts alone.now)) (omega (arith, at, many, length-append front (hart_parts alone.leaf))))
        ∙ sym is

    pub hart_told : changed (drop from (still m)) (hart_parts alone.now) ≡ changed (still m) (still k)
    unfolding changed
    hart_told =
        ap (λ (ps : List Part). flat_map part_line (changes ps (hart_parts alone.now))) (ap (drop from) was ∙ drop_at front (hart_parts alone.leaf ++ back) from (sym at))
        ∙ ap (flat_map part_line) (shorter (hart_parts alone.leaf) (hart_parts alone.now) back many ∙ sym (before_same (hart_parts alone.leaf) (hart_parts alone.now) back many) ∙ sym (after_same front (hart_parts alone.leaf ++ back) (hart_parts alone.now ++ back)))
        ∙ sym (ap₂ changed was is)

    pub hart_inside : from + length (hart_parts alone.now) ≤ length (still m)
    hart_inside =
        let whole : length (still m) ≡ length (front ++ (hart_parts alone.leaf ++ back)) = ap length was in
        let outer = length-append front (hart_parts alone.leaf ++ back) in
        let inner = length-append (hart_parts alone.leaf) back in
        omega (arith, at, many, whole, outer, inner)

-- ---- where the hart's parts begin

got_there : (first last : List LeafValue) (v : LeafValue) → slice_get (first ++ v ∷ last) (length first) ≡ Some v
got_there [] last v = refl
got_there (u ∷ first) last v = got_there first last v

-- the machine is given now: its leaves before the hart's are those of before
module _ (number : ℕ) (m k : MachineValue) (alone : IsAlone number m k) (shaped : IsShaped k) where
  first_count : length alone.first ≡ number
  first_count =
      let own : alone.now.number ≡ alone.leaf.number = ap (λ (v : LeafValue). v.number) alone.hart in
      sym (leaf-number (length alone.first) k alone.now shaped (ap (λ (vs : List LeafValue). slice_get vs (length alone.first)) alone.after ∙ got_there alone.first alone.last alone.now)) ∙ own ∙ alone.numbered

  pub now_there : slice_get (machine_leaves k) number ≡ Some alone.now
  now_there = ap (slice_get (machine_leaves k)) (sym first_count) ∙ ap (λ (vs : List LeafValue). slice_get vs (length alone.first)) alone.after ∙ got_there alone.first alone.last alone.now

  module _ (n width most : ℕ) (all : AllByRecursion (IsLeafFilmed n width most) (alone.first ++ alone.now ∷ alone.last)) where
    place : number * (37 + n) ≡ length (flat_map leaf_parts alone.first)
    place = ap (λ j. j * (37 + n)) (sym first_count) ∙ sym (leaves_count n width most alone.first (alone.now ∷ alone.last) all)

    now_count : length (hart_parts alone.now) ≡ 33
    now_count = hart_count alone.now (of_last alone.first all).form.hart.registers.count where
      of_last : (vs : List LeafValue) → AllByRecursion (IsLeafFilmed n width most) (vs ++ alone.now ∷ alone.last) → IsLeafFilmed n width most alone.now
      of_last [] h = h.0
      of_last (v ∷ vs) h = of_last vs h.1

-- what is put, from where on, and what it tells
pub record IsPut (from : ℕ) (parts after : List Part) (k : MachineValue) : Type 0 where
  pub inside : from + length after ≤ length parts
  pub told : changed (drop from parts) after ≡ changed parts (still k)
  pub put : take from parts ++ (after ++ drop (from + length after) parts) ≡ still k

pub hart_put : (number from most : ℕ) (parts after : List Part) (k : MachineValue) (came : CameFrom number parts k) → IsShaped k → IsMachineOk k → HasForm most k
    → from ≡ number * (37 + item_count k.items) → after ≡ hart_parts came.alone.now → IsPut from parts after k
hart_put number from most parts after k came shaped ok form at is =
    let all = subst (AllByRecursion (IsLeafFilmed (item_count k.items) k.top.sizes.width most)) came.alone.after (all_filmed most k ok form) in
    let begins : from ≡ length (front number came.before k came.alone) = at ∙ place number came.before k came.alone shaped (item_count k.items) k.top.sizes.width most all in
    let many : length (hart_parts came.alone.leaf) ≡ length (hart_parts came.alone.now) = hart_count came.alone.leaf came.registers ∙ sym (now_count number came.before k came.alone shaped (item_count k.items) k.top.sizes.width most all) in
    let whole : IsPut from (still came.before) (hart_parts came.alone.now) k = record {
      inside = hart_inside number came.before k came.alone from begins many;
      told = hart_told number came.before k came.alone from begins many;
      put = still_put number came.before k came.alone from begins many;
    } in
    subst (λ (ps : List Part). IsPut from ps after k) (sym came.told) (subst (λ (ps : List Part). IsPut from (still came.before) ps k) (sym is) whole)

pub hart_room : (number most : ℕ) (parts : List Part) (k : MachineValue) → CameFrom number parts k → IsShaped k → IsMachineOk k → HasForm most k → number * (37 + item_count k.items) ≤ length parts
hart_room number most parts k came shaped ok form =
    let put = hart_put number (number * (37 + item_count k.items)) most parts (hart_parts came.alone.now) k came shaped ok form refl refl in
    let inside = put.inside in
    omega (arith, inside)

listed_some : (f : LeafValue → ℕ) (vs : List LeafValue) (k : ℕ) (v : LeafValue) → slice_get vs k ≡ Some v → is_some (slice_get (map f vs) k) ≡ true
listed_some f [] k v is = cc
listed_some f (u ∷ vs) zero v is = refl
listed_some f (u ∷ vs) (suc k) v is = listed_some f vs k v is

-- the leaf is there
pub leaf_now : (number : ℕ) (parts : List Part) (k : MachineValue) → CameFrom number parts k → IsShaped k → is_part (leaf_of_number number) k ≡ true
leaf_now number parts k came shaped =
    sym (read_in-is_some (leaf_of_number number) (of_leaf (λ w v. v.number) 0) at_top (root_of k)) ∙ ap is_some (sym (leaf-listed (λ (v : LeafValue). v.number) 0 number k shaped))
    ∙ listed_some (λ (v : LeafValue). v.number) (machine_leaves k) number came.alone.now (now_there number came.before k came.alone shaped)

-- ---- the leaf of a hart before a turn has 32 registers

pub registers_of : (most : ℕ) (m k : MachineValue) (number : ℕ) (alone : IsAlone number m k) → IsMachineOk m → HasForm most m → length alone.leaf.hart.registers ≡ 32
registers_of most m k number alone ok form = of_leaf alone.first (subst (AllByRecursion (IsLeafFilmed (item_count m.items) m.top.sizes.width most)) alone.before (all_filmed most m ok form)) where
  of_leaf : (vs : List LeafValue) → AllByRecursion (IsLeafFilmed (item_count m.items) m.top.sizes.width most) (vs ++ alone.leaf ∷ alone.last) → length alone.leaf.hart.registers ≡ 32
  of_leaf [] h = h.0.form.hart.registers.count
  of_leaf (v ∷ vs) h = of_leaf vs h.1

-- ---- a turn

pub came_after : (t : Turn) (m next : MachineValue) (given : List TurnAnswer) (before : List Part) (most : ℕ) → given ≡ (turn_of t m).answer ∷ [] → next ≡ (turn_of t m).machine → before ≡ still m → IsMachineOk m → HasForm most m
    → IfSome (hart_changed t given) (λ k. CameFrom k before next)
came_after (Turn.Hart hart victim) m next given before most answers after from ok form =
    subst (λ (given : List TurnAnswer). IfSome (hart_changed (Turn.Hart hart victim) given) (λ k. CameFrom k before next)) (sym answers) (by_answer (hart_alone (turn_of (Turn.Hart hart victim) m).answer) refl) where
      by_answer : (b : Bool) → hart_alone (turn_of (Turn.Hart hart victim) m).answer ≡ b → IfSome (if b then Some hart else None) (λ k. CameFrom k before next)
      by_answer true own =
          let alone = harts-alone hart victim m own in
          subst (CameFrom hart before) (sym after) (record { before = m; told = from; alone = alone; registers = registers_of most m (turn_of (Turn.Hart hart victim) m).machine hart alone ok form })
      by_answer false own = tt
came_after (Turn.Down bus) m next given before most answers after from ok form = tt
came_after (Turn.Request bus child) m next given before most answers after from ok form = tt
came_after (Turn.Reply bus child) m next given before most answers after from ok form = tt
came_after (Turn.Leave bus child choice) m next given before most answers after from ok form = tt
