-- The turns of a walk at a bus, by what its children come to.
-- Letters: b is the number of a bus, c the child over the leaf h, k the child that answers, x the item, r the bus below a
-- child.
use Rattle.std.proofs.Common.{◌≡◌, ◌≢◌, ℕ, zero, suc, ◌+◌, ◌<◌, Bool, true, false, List, [], ◌∷◌, ◌++◌, length, Option, None, Some, is_some, refl, sym, ap, subst, ◌∙◌, append_assoc, append-nil, arith, take, slice_index_or, ◌≤◌, get_or-set_same, get_or-set_other}
use Rattle.std.specs.Prelude.{if◌then◌else◌}
use Rattle.std.specs.List.{flat_map}
use Rattle.std.proofs.lemmas.Bool.{true≢false, eqb-true, eq-eqb}
use Rattle.std.proofs.lemmas.List.{length-set, take_all}
use Rattle.std.proofs.lemmas.List.Concat.{flat_map-cons}
use Rattle.headline.specs.DdmTypes.declared.turns.Turn.{Turn}
use Rattle.headline.specs.TreeModel.State.Shape.{IsShaped}
use Rattle.headline.specs.TreeModel.State.States.{is_exclusive}
use Rattle.headline.specs.TreeModel.State.Values.{Node, Nodes, leaf_node, dir_node, no_nodes, more_nodes, children, MachineValue}
use Rattle.headline.specs.TreeModel.State.Child.{child_hold, child_holds}
use Rattle.headline.specs.TreeModel.Turns.Children.{child_at}
use Rattle.headline.specs.TreeModel.Turns.Machine.{child_count, is_child_of}
use Rattle.serving_model.specs.Walk.{child_over, holder, other_holder, turns_by, turns_of_child, turns_of_others, take_turns, takes, ask_turns, asks, give_turns, gives, read_across, read_turns, reads, lose_turns, loses, clear_turns, clears, erase_turns, erases}
use Rattle.serving_model.proofs.Take.{takes-at}
use Rattle.serving_model.proofs.Ask.{asks-at}
use Rattle.serving_model.proofs.Give.{gives-at}
use Rattle.serving_model.proofs.Lose.{loses-many, loses-at}
use Rattle.serving_walk.specs.Parts.{part_at, kids_of, under, bus_of, IsBus, OfBuses, each_but, lost_by, is_but, lost_of}
use Rattle.serving_walk.proofs.AtBus.{nothing-at, AtBus, at-bus}
use Rattle.serving_walk.proofs.AtBus as bus
use Rattle.serving_walk.proofs.Children.{many}

-- ---- what is added, one after the other

pub adds-nothing : (before after : List Turn) → after ≡ [] → before ≡ before ++ after
adds-nothing before after e = sym (append-nil before) ∙ ap (λ ts. before ++ ts) (sym e)

pub adds-more : (before first more out : List Turn) (middle : List Turn) → middle ≡ before ++ first → out ≡ middle ++ more → out ≡ before ++ (first ++ more)
adds-more before first more out middle e f = f ∙ (ap (λ ts. ts ++ more) e ∙ append_assoc before first more)

pub adds-same : (before first more out : List Turn) → out ≡ before ++ first → more ≡ first → out ≡ before ++ more
adds-same before first more out e same = e ∙ ap (λ ts. before ++ ts) (sym same)

-- where there is no bus there are no turns
pub nothing : (m : MachineValue) (turns : Node → List Turn) → OfBuses turns → (p : Option ℕ) → p ≡ None → turns (part_at p m) ≡ []
nothing m turns none p e = ap (λ o. turns (part_at o m)) e ∙ (ap turns (nothing-at m) ∙ none _)

pub there-is : (m : MachineValue) (p : Option ℕ) (b : ℕ) → p ≡ Some b → IsBus p m → is_some (child_count b m) ≡ true
there-is m p b e there = subst (λ o. IsBus o m) e there

-- what a child comes to, by the bus below it
abbrev Same : MachineValue → Option ℕ → Node → Type 0
Same m r n = (turns : Node → List Turn) → OfBuses turns → turns (part_at r m) ≡ turns n

module _ (m : MachineValue) (shaped : IsShaped m) (b : ℕ) where
  abbrev part : Node
  part = part_at (Some b) m

  -- no child is over the leaf, or holds the item
  module _ (there : is_some (child_count b m) ≡ true) where
    at : AtBus m shaped b
    at = at-bus m shaped b there

    none-over : (h : ℕ) → None ≡ child_over h (kids_of part) → child_over h at.kids ≡ None
    none-over h e = ap (λ n. child_over h (kids_of n)) (sym at.part) ∙ sym e

    pub take-none : (h : ℕ) → None ≡ child_over h (kids_of part) → take_turns h part ≡ Turn.Down b ∷ []
    take-none h e = ap (take_turns h) at.part ∙ (ap (λ o. Turn.Down at.dir.bus ∷ turns_by (λ c. turns_of_child c (takes h at.kids)) o) (none-over h e) ∙ ap (λ n. Turn.Down n ∷ []) at.number)

    pub give-none : (x : ℕ) → None ≡ holder x (kids_of part) → give_turns x part ≡ Turn.Down b ∷ []
    give-none x e = ap (give_turns x) at.part ∙ (ap (λ o. Turn.Down at.dir.bus ∷ turns_by (λ k. turns_of_child k (gives x at.kids) ++ Turn.Reply at.dir.bus k ∷ []) o) (ap (λ n. holder x (kids_of n)) (sym at.part) ∙ sym e) ∙ ap (λ n. Turn.Down n ∷ []) at.number)

  -- this child is
  module _ (c : ℕ) (inside : is_child_of c (child_count b m) ≡ true) where
    abbrev here : AtBus m shaped b
    here = bus.here m shaped b c inside

    within : c < length (children here.kids)
    within = bus.within m shaped b c inside

    under-is : under b c m ≡ child_at c (children here.kids)
    under-is = bus.under-is m shaped b c inside

    over-is : (h : ℕ) → Some c ≡ child_over h (kids_of part) → child_over h here.kids ≡ Some c
    over-is h e = ap (λ n. child_over h (kids_of n)) (sym here.part) ∙ sym e

    -- the item isn't held below it
    pub read-here : (h x : ℕ) → Some c ≡ child_over h (kids_of part) → false ≡ child_holds x (under b c m) → read_turns h x part ≡ read_across h x b c (kids_of part)
    read-here h x e held =
        ap (read_turns h x) here.part ∙ (ap (turns_by (λ c. if child_holds x (child_at c (children here.kids)) then turns_of_child c (reads h x here.kids) else read_across h x here.dir.bus c here.kids)) (over-is h e)
        ∙ (ap (λ b. if b then turns_of_child c (reads h x here.kids) else read_across h x here.dir.bus c here.kids) (sym (held ∙ ap (child_holds x) under-is))
        ∙ (ap (λ n. read_across h x n c here.kids) here.number ∙ ap (λ n. read_across h x b c (kids_of n)) (sym here.part))))

    -- what a child that is told to lose the item does
    pub lose-none : (x : ℕ) → false ≡ child_holds x (under b c m) → lose_turns x (under b c m) ≡ []
    lose-none x held = by (under b c m) (sym held) where
      by : (n : Node) → child_holds x n ≡ false → lose_turns x n ≡ []
      by (leaf_node v) e = refl
      by (dir_node d ns) e = rw e refl

    pub lose-leaf : (x : ℕ) → None ≡ bus_of (under b c m) → lose_turns x (under b c m) ≡ []
    lose-leaf x none = by (under b c m) none where
      by : (n : Node) → None ≡ bus_of n → lose_turns x n ≡ []
      by (leaf_node v) e = refl
      by (dir_node d ns) e = cc

    pub lose-bus : (x p : ℕ) → true ≡ child_holds x (under b c m) → Some p ≡ bus_of (under b c m) → part_at (Some p) m ≡ under b c m → lose_turns x (under b c m) ≡ Turn.Down p ∷ lost_by None x (kids_of (part_at (Some p) m))
    lose-bus x p held is same = by (under b c m) (sym held) is ∙ ap (λ n. Turn.Down p ∷ lost_by None x (kids_of n)) (sym same) where
      number : (a k : ℕ) → Some a ≡ Some k → a ≡ k
      number a k e = cc

      by : (n : Node) → child_holds x n ≡ true → Some p ≡ bus_of n → lose_turns x n ≡ Turn.Down p ∷ lost_by None x (kids_of n)
      by (leaf_node v) e is = cc
      by (dir_node d ns) e is = rw e (ap (λ k. Turn.Down k ∷ lost_by None x ns) (sym (number p d.bus is)))

    module _ (r : Option ℕ) (same : Same m r (under b c m)) where
      -- a child's turns are those of the part below it
      child-is : (turns : Node → List Turn) → OfBuses turns → (each : Nodes → List (List Turn)) → turns_of_child c (each here.kids) ≡ turns (child_at c (children here.kids)) → turns_of_child c (each here.kids) ≡ turns (part_at r m)
      child-is turns none each at = at ∙ (ap turns (sym under-is) ∙ sym (same turns none))

      takes-is : (h : ℕ) → turns_of_child c (takes h here.kids) ≡ take_turns h (part_at r m)
      takes-is h = child-is (take_turns h) (λ v. refl) (takes h) (takes-at h c here.kids within)

      asks-is : (h : ℕ) → turns_of_child c (asks h here.kids) ≡ ask_turns h (part_at r m)
      asks-is h = child-is (ask_turns h) (λ v. refl) (asks h) (asks-at h c here.kids within)

      gives-is : (x : ℕ) → turns_of_child c (gives x here.kids) ≡ give_turns x (part_at r m)
      gives-is x = child-is (give_turns x) (λ v. refl) (gives x) (gives-at x c here.kids within)

      pub take-over : (h : ℕ) → Some c ≡ child_over h (kids_of part) → take_turns h part ≡ Turn.Down b ∷ take_turns h (part_at r m)
      take-over h e =
          ap (take_turns h) here.part ∙ (ap (λ o. Turn.Down here.dir.bus ∷ turns_by (λ c. turns_of_child c (takes h here.kids)) o) (over-is h e)
          ∙ (ap (λ n. Turn.Down n ∷ turns_of_child c (takes h here.kids)) here.number ∙ ap (λ ts. Turn.Down b ∷ ts) (takes-is h)))

      pub ask-over : (h : ℕ) → Some c ≡ child_over h (kids_of part) → ask_turns h part ≡ ask_turns h (part_at r m) ++ Turn.Request b c ∷ []
      ask-over h e =
          ap (ask_turns h) here.part ∙ (ap (turns_by (λ c. turns_of_child c (asks h here.kids) ++ Turn.Request here.dir.bus c ∷ [])) (over-is h e)
          ∙ (ap (λ n. turns_of_child c (asks h here.kids) ++ Turn.Request n c ∷ []) here.number ∙ ap (λ ts. ts ++ Turn.Request b c ∷ []) (asks-is h)))

      pub give-from : (x : ℕ) → Some c ≡ holder x (kids_of part) → give_turns x part ≡ Turn.Down b ∷ (give_turns x (part_at r m) ++ Turn.Reply b c ∷ [])
      give-from x e =
          ap (give_turns x) here.part ∙ (ap (λ o. Turn.Down here.dir.bus ∷ turns_by (λ k. turns_of_child k (gives x here.kids) ++ Turn.Reply here.dir.bus k ∷ []) o) (ap (λ n. holder x (kids_of n)) (sym here.part) ∙ sym e)
          ∙ (ap (λ n. Turn.Down n ∷ (turns_of_child c (gives x here.kids) ++ Turn.Reply n c ∷ [])) here.number ∙ ap (λ ts. Turn.Down b ∷ (ts ++ Turn.Reply b c ∷ [])) (gives-is x)))

      clears-at : (h x k : ℕ) (ns : Nodes) → k < length (children ns) → turns_of_child k (clears h x ns) ≡ clear_turns h x (child_at k (children ns))
      clears-at h x k no_nodes l = absurd (omega (arith, l))
      clears-at h x zero (more_nodes n ns) l = refl
      clears-at h x (suc k) (more_nodes n ns) l = clears-at h x k ns (omega (arith, l))

      reads-at : (h x k : ℕ) (ns : Nodes) → k < length (children ns) → turns_of_child k (reads h x ns) ≡ read_turns h x (child_at k (children ns))
      reads-at h x k no_nodes l = absurd (omega (arith, l))
      reads-at h x zero (more_nodes n ns) l = refl
      reads-at h x (suc k) (more_nodes n ns) l = reads-at h x k ns (omega (arith, l))

      erases-at : (h x k : ℕ) (ns : Nodes) → k < length (children ns) → turns_of_child k (erases h x ns) ≡ erase_turns h x (child_at k (children ns))
      erases-at h x k no_nodes l = absurd (omega (arith, l))
      erases-at h x zero (more_nodes n ns) l = refl
      erases-at h x (suc k) (more_nodes n ns) l = erases-at h x k ns (omega (arith, l))

      -- ---- a read

      -- it goes across at this bus, where no other child holds the item, and where one does
      pub across-none : (h x : ℕ) → None ≡ other_holder c x (kids_of part) → read_across h x b c (kids_of part) ≡ ask_turns h (part_at r m) ++ Turn.Request b c ∷ []
      across-none h x e =
          ap (λ n. read_across h x b c (kids_of n)) here.part ∙ (ap (λ o. turns_of_child c (asks h here.kids) ++ Turn.Request b c ∷ turns_by (λ k. turns_of_child k (gives x here.kids) ++ Turn.Reply b k ∷ turns_of_child c (takes h here.kids)) o) (ap (λ n. other_holder c x (kids_of n)) (sym here.part) ∙ sym e)
          ∙ ap (λ ts. ts ++ Turn.Request b c ∷ []) (asks-is h))

      -- the item is held below this child
      pub read-below : (h x : ℕ) → Some c ≡ child_over h (kids_of part) → true ≡ child_holds x (under b c m) → read_turns h x part ≡ read_turns h x (part_at r m)
      read-below h x e held =
          ap (read_turns h x) here.part ∙ (ap (turns_by (λ c. if child_holds x (child_at c (children here.kids)) then turns_of_child c (reads h x here.kids) else read_across h x here.dir.bus c here.kids)) (over-is h e)
          ∙ (ap (λ b. if b then turns_of_child c (reads h x here.kids) else read_across h x here.dir.bus c here.kids) (sym (held ∙ ap (child_holds x) under-is)) ∙ child-is (read_turns h x) (λ v. refl) (reads h x) (reads-at h x c here.kids within)))

      -- ---- an erase

      pub clear-over : (h x : ℕ) → Some c ≡ child_over h (kids_of part) → clear_turns h x part ≡ clear_turns h x (part_at r m) ++ Turn.Request b c ∷ lost_by (Some c) x (kids_of part)
      clear-over h x e =
          ap (clear_turns h x) here.part ∙ (ap (turns_by (λ c. turns_of_child c (clears h x here.kids) ++ Turn.Request here.dir.bus c ∷ turns_of_others c (loses x here.kids))) (over-is h e)
          ∙ (ap (λ n. turns_of_child c (clears h x here.kids) ++ Turn.Request n c ∷ turns_of_others c (loses x here.kids)) here.number
          ∙ (ap (λ ts. ts ++ Turn.Request b c ∷ turns_of_others c (loses x here.kids)) (child-is (clear_turns h x) (λ v. refl) (clears h x) (clears-at h x c here.kids within)) ∙ ap (λ n. clear_turns h x (part_at r m) ++ Turn.Request b c ∷ lost_by (Some c) x (kids_of n)) (sym here.part))))

      pub erase-below : (h x : ℕ) → Some c ≡ child_over h (kids_of part) → true ≡ is_exclusive (child_hold x (under b c m)) → erase_turns h x part ≡ erase_turns h x (part_at r m)
      erase-below h x e exclusive =
          ap (erase_turns h x) here.part ∙ (ap (turns_by (λ c. if is_exclusive (child_hold x (child_at c (children here.kids))) then turns_of_child c (erases h x here.kids) else clear_turns h x (dir_node here.dir here.kids) ++ Turn.Down here.dir.bus ∷ turns_of_child c (takes h here.kids))) (over-is h e)
          ∙ (ap (λ b. if b then turns_of_child c (erases h x here.kids) else clear_turns h x (dir_node here.dir here.kids) ++ Turn.Down here.dir.bus ∷ turns_of_child c (takes h here.kids)) (sym (exclusive ∙ ap (λ n. is_exclusive (child_hold x n)) under-is)) ∙ child-is (erase_turns h x) (λ v. refl) (erases h x) (erases-at h x c here.kids within)))

      pub erase-here : (h x : ℕ) → Some c ≡ child_over h (kids_of part) → false ≡ is_exclusive (child_hold x (under b c m)) → erase_turns h x part ≡ clear_turns h x part ++ Turn.Down b ∷ take_turns h (part_at r m)
      erase-here h x e exclusive =
          ap (erase_turns h x) here.part ∙ (ap (turns_by (λ c. if is_exclusive (child_hold x (child_at c (children here.kids))) then turns_of_child c (erases h x here.kids) else clear_turns h x (dir_node here.dir here.kids) ++ Turn.Down here.dir.bus ∷ turns_of_child c (takes h here.kids))) (over-is h e)
          ∙ (ap (λ b. if b then turns_of_child c (erases h x here.kids) else clear_turns h x (dir_node here.dir here.kids) ++ Turn.Down here.dir.bus ∷ turns_of_child c (takes h here.kids)) (sym (exclusive ∙ ap (λ n. is_exclusive (child_hold x n)) under-is))
          ∙ (ap (λ n. clear_turns h x n ++ Turn.Down here.dir.bus ∷ turns_of_child c (takes h here.kids)) (sym here.part) ∙ (ap (λ k. clear_turns h x part ++ Turn.Down k ∷ turns_of_child c (takes h here.kids)) here.number ∙ ap (λ ts. clear_turns h x part ++ Turn.Down b ∷ ts) (takes-is h)))))

  -- two children: one over the leaf, and another one that holds the item
  module _ (c k : ℕ) (inside : is_child_of c (child_count b m) ≡ true) (inside2 : is_child_of k (child_count b m) ≡ true) (r q u : Option ℕ) (same : Same m r (under b c m)) (same2 : Same m q (under b k m)) (same3 : Same m u (under b c m)) where
    abbrev at2 : AtBus m shaped b
    at2 = bus.here m shaped b c inside

    within2 : k < length (children at2.kids)
    within2 = subst (λ n. k < length (children (kids_of n))) at2.part (subst (λ n. k < length (children (kids_of n))) (sym (bus.here m shaped b k inside2).part) (bus.within m shaped b k inside2))

    pub across : (h x : ℕ) → Some k ≡ other_holder c x (kids_of part) → read_across h x b c (kids_of part) ≡ ask_turns h (part_at r m) ++ Turn.Request b c ∷ (give_turns x (part_at q m) ++ Turn.Reply b k ∷ take_turns h (part_at u m))
    across h x e =
        ap (λ n. read_across h x b c (kids_of n)) at2.part ∙ (ap (λ o. turns_of_child c (asks h at2.kids) ++ Turn.Request b c ∷ turns_by (λ k. turns_of_child k (gives x at2.kids) ++ Turn.Reply b k ∷ turns_of_child c (takes h at2.kids)) o) (ap (λ n. other_holder c x (kids_of n)) (sym at2.part) ∙ sym e)
        ∙ (ap (λ ts. ts ++ Turn.Request b c ∷ (turns_of_child k (gives x at2.kids) ++ Turn.Reply b k ∷ turns_of_child c (takes h at2.kids))) (asks-is c inside r same h)
        ∙ (ap (λ ts. ask_turns h (part_at r m) ++ Turn.Request b c ∷ (ts ++ Turn.Reply b k ∷ turns_of_child c (takes h at2.kids))) given ∙ ap (λ ts. ask_turns h (part_at r m) ++ Turn.Request b c ∷ (give_turns x (part_at q m) ++ Turn.Reply b k ∷ ts)) (takes-is c inside u same3 h)))) where
          given : turns_of_child k (gives x at2.kids) ≡ give_turns x (part_at q m)
          given = gives-at x k at2.kids within2 ∙ (ap (λ n. give_turns x (child_at k (children (kids_of n)))) (sym at2.part) ∙ sym (same2 (give_turns x) (λ v. refl)))

-- ---- what all children lose, one after the other

nth : (a : ℕ) (each : List (List Turn)) → a < length each → flat_map (λ turns. turns) (take (a + 1) each) ≡ flat_map (λ turns. turns) (take a each) ++ slice_index_or each a []
nth a [] l = absurd (omega (arith, l))
nth zero (ts ∷ each) l = flat_map-cons (λ turns. turns) ts [] ∙ append-nil ts
nth (suc a) (ts ∷ each) l =
    ap (λ n. flat_map (λ turns. turns) (take n (ts ∷ each))) (let further : suc a + 1 ≡ suc (a + 1) = omega arith in further)
    ∙ (flat_map-cons (λ turns. turns) ts (take (a + 1) each) ∙ (ap (λ us. ts ++ us) (nth a each (omega (arith, l))) ∙ (sym (append_assoc ts (flat_map (λ turns. turns) (take a each)) (slice_index_or each a [])) ∙ ap (λ us. us ++ slice_index_or each a []) (sym (flat_map-cons (λ turns. turns) ts (take a each))))))

each-many : (but : Option ℕ) (x : ℕ) (ns : Nodes) → length (each_but but (loses x ns)) ≡ length (children ns)
each-many None x ns = loses-many x ns
each-many (Some c) x ns = length-set (loses x ns) c [] ∙ loses-many x ns

each-other : (but : Option ℕ) (x a : ℕ) (ns : Nodes) → but ≢ Some a → a < length (children ns) → slice_index_or (each_but but (loses x ns)) a [] ≡ lose_turns x (child_at a (children ns))
each-other None x a ns other l = loses-at x a ns l
each-other (Some c) x a ns other l = get_or-set_other (loses x ns) c a [] [] (λ e. other (ap Some (sym e))) ∙ loses-at x a ns l

each-same : (but : Option ℕ) (x a : ℕ) (ns : Nodes) → but ≡ Some a → a < length (children ns) → slice_index_or (each_but but (loses x ns)) a [] ≡ []
each-same but x a ns e l = ap (λ o. slice_index_or (each_but o (loses x ns)) a []) e ∙ get_or-set_same (loses x ns) a [] [] (subst (λ n. a < n) (sym (loses-many x ns)) l)

but-is : (but : Option ℕ) (a : ℕ) → is_but but a ≡ true → but ≡ Some a
but-is None a e = absurd (true≢false (sym e))
but-is (Some c) a e = ap Some (eqb-true c a e)

but-other : (but : Option ℕ) (a : ℕ) → is_but but a ≡ false → but ≢ Some a
but-other None a e same = cc
but-other (Some c) a e same = true≢false (sym (eq-eqb c a (one c a same)) ∙ e) where
  one : (i j : ℕ) → Some i ≡ Some j → i ≡ j
  one i j same = cc

module _ (m : MachineValue) (shaped : IsShaped m) (b kids : ℕ) (is : Some kids ≡ child_count b m) (but : Option ℕ) (x : ℕ) where
  abbrev each : List (List Turn)
  each = each_but but (loses x (kids_of (part_at (Some b) m)))

  abbrev lost : ℕ → List Turn
  lost a = flat_map (λ turns. turns) (take a each)

  inside-each : (a : ℕ) → a < kids → a < length each
  inside-each a l = subst (λ n. a < n) (sym (each-many but x (kids_of (part_at (Some b) m)) ∙ many m shaped b kids is)) l

  inside-kids : (a : ℕ) → a < kids → a < length (children (kids_of (part_at (Some b) m)))
  inside-kids a l = subst (λ n. a < n) (sym (many m shaped b kids is)) l

  -- one child more
  pub lost-more : (a : ℕ) → a < kids → lost (a + 1) ≡ lost a ++ lost_of but x a (under b a m)
  lost-more a l = nth a each (inside-each a l) ∙ ap (λ ts. lost a ++ ts) (by (is_but but a) refl) where
    by : (t : Bool) → is_but but a ≡ t → slice_index_or each a [] ≡ lost_of but x a (under b a m)
    by true e = each-same but x a (kids_of (part_at (Some b) m)) (but-is but a e) (inside-kids a l) ∙ sym (ap (λ t. if t then [] else lose_turns x (under b a m)) e)
    by false e = each-other but x a (kids_of (part_at (Some b) m)) (but-other but a e) (inside-kids a l) ∙ sym (ap (λ t. if t then [] else lose_turns x (under b a m)) e)

  pub lost-all : (a : ℕ) → kids ≤ a → lost a ≡ lost_by but x (kids_of (part_at (Some b) m))
  lost-all a l = ap (flat_map (λ turns. turns)) (take_all a each (subst (λ n. n ≤ a) (sym (each-many but x (kids_of (part_at (Some b) m)) ∙ many m shaped b kids is)) l))
