-- Judged bus by bus, no stamp is out of its order: just where the rules of time of down lists hold.
-- Letters: m is a machine, c a directory and where it stands, most how many buses there are.
use Rattle.std.specs.Prelude.{◌≡◌, ◌<◌, ℕ, ◌+◌, Bool, true, false, not, ◌&&◌, nat_eq, nat_lt, List, [], ◌∷◌, length, None, refl}
use Rattle.std.specs.List.{list_any, range_with_len, find, AllByRecursion}
use Rattle.std.proofs.lemmas.Bool.{eq-eqb, ltb-true, and_parts}
use Rattle.state_judging.specs.TreeModel.State.Values.{DirValue, Node, Nodes, leaf_node, dir_node, no_nodes, more_nodes, MachineValue}
use Rattle.state_judging.specs.TreeModel.State.Place.{Spot, spot_path, spot_in}
use Rattle.state_judging.specs.TreeModel.State.Shape.{IsShaped, skeleton, skeletons, buses_of, buses_among, are_below}
use Rattle.state_judging.proofs.TreeModel.Tests.{or-false_first, or-false_second}
use Rattle.state_judging.specs.TreeRules.Statements.{Holds, both, each, each_pair}
use Rattle.state_judging.specs.TreeRules.Order.Places.{DirAt, dirs_in, placed_dirs, dirs_at}
use Rattle.state_judging.specs.TreeRules.Order.Time.{takes_past, lies_between, may_stand_behind}
use Rattle.state_judging.specs.TreeRules.Order.Rules.{taken_is_past, stamps_between, stamps_rise, time_rule, IsTimed}
use Rattle.state_judging.proofs.TreeRules.Statements.{Holds-from_test, test-from_Holds, each-facts, facts-each}
use Rattle.state_judging.proofs.TreeRules.Lists.{each-from_range, range-from_each}
use Rattle.state_judging.specs.Judged.{stamps_in_order, is_over, stamps_broken}
use Rattle.state_judging.proofs.EachBus.{shaped-below}
use Rattle.state_judging.proofs.Searches.{none-found, found-none, and-other, not-false, each-append, each-so, each-both}

-- ---- each directory has a number below the count of buses

module _ (most : ℕ) where
  abbrev IsBelow : DirAt → Type 0
  IsBelow c = c.dir.bus < most

  mutual
    below-behind : (n : Node) (rest : List ℕ) → are_below most (buses_of (skeleton n) rest) ≡ true → are_below most rest ≡ true
    below-behind (leaf_node v) rest e = e
    below-behind (dir_node d ns) rest e = below-behind_all ns rest (and_parts (nat_lt d.bus most) (are_below most (buses_among (skeletons ns) rest)) e).1

    below-behind_all : (ns : Nodes) (rest : List ℕ) → are_below most (buses_among (skeletons ns) rest) ≡ true → are_below most rest ≡ true
    below-behind_all no_nodes rest e = e
    below-behind_all (more_nodes n ns) rest e = below-behind_all ns rest (below-behind n (buses_among (skeletons ns) rest) e)

  mutual
    dirs-below : (c : Spot) (n : Node) (rest : List ℕ) → are_below most (buses_of (skeleton n) rest) ≡ true → AllByRecursion IsBelow (dirs_in c n)
    dirs-below c (leaf_node v) rest e = tt
    dirs-below c (dir_node d ns) rest e =
        let parts = and_parts (nat_lt d.bus most) (are_below most (buses_among (skeletons ns) rest)) e in
        (ltb-true d.bus most parts.0, placed-below (spot_path c) d 0 ns rest parts.1)

    placed-below : (path : List ℕ) (d : DirValue) (i : ℕ) (ns : Nodes) (rest : List ℕ) → are_below most (buses_among (skeletons ns) rest) ≡ true → AllByRecursion IsBelow (placed_dirs path d i ns)
    placed-below path d i no_nodes rest e = tt
    placed-below path d i (more_nodes n ns) rest e =
        each-append IsBelow (dirs_in (spot_in path d i) n) (placed_dirs path d (i + 1) ns)
        (dirs-below (spot_in path d i) n (buses_among (skeletons ns) rest) e)
        (placed-below path d (i + 1) ns rest (below-behind n (buses_among (skeletons ns) rest) e))

pub dirs_at-below : (m : MachineValue) → IsShaped m → AllByRecursion (IsBelow (length m.traffic)) (dirs_at m)
unfolding dirs_at
dirs_at-below m shaped = placed-below (length m.traffic) [] m.top 0 m.kids [] (and_parts (nat_lt m.top.bus (length m.traffic)) _ (shaped-below m shaped)).1

-- ---- by number, and one by one

abbrev IsOrdered : DirAt → Type 0
IsOrdered c = stamps_in_order c ≡ true

pub none-broken : (most : ℕ) (cs : List DirAt) → ((bus : ℕ) → bus < most → stamps_broken cs bus ≡ false) → AllByRecursion (IsBelow most) cs → AllByRecursion IsOrdered cs
none-broken most [] each below = tt
none-broken most (c ∷ cs) each below = (
  not-false (stamps_in_order c) (and-other (nat_eq c.dir.bus c.dir.bus) (not (stamps_in_order c)) (or-false_first (is_over c.dir.bus c) (list_any (is_over c.dir.bus) cs) (each c.dir.bus below.0)) (eq-eqb c.dir.bus c.dir.bus refl)),
  none-broken most cs (λ bus high. or-false_second (is_over bus c) (list_any (is_over bus) cs) (each bus high)) below.1,
)

over-ordered : (a b : Bool) → b ≡ true → (a && not b) ≡ false
over-ordered true b e = rw e refl
over-ordered false b e = refl

pub broken-none : (cs : List DirAt) → AllByRecursion IsOrdered cs → (bus : ℕ) → stamps_broken cs bus ≡ false
broken-none [] all bus = refl
broken-none (c ∷ cs) all bus = rw (over-ordered (nat_eq c.dir.bus bus) (stamps_in_order c) all.0) (broken-none cs all.1 bus)

-- ---- the three rules of a directory

abbrev OrderedFacts : DirAt → Type 0
OrderedFacts c = Holds (takes_past c) × Holds (both (each (lies_between c) c.dir.down) (each_pair (may_stand_behind c) c.dir.down))

ordered-facts : (c : DirAt) → IsOrdered c → OrderedFacts c
ordered-facts c e = Holds-from_test (both (takes_past c) (both (each (lies_between c) c.dir.down) (each_pair (may_stand_behind c) c.dir.down))) e

facts-ordered : (c : DirAt) → OrderedFacts c → IsOrdered c
facts-ordered c h = test-from_Holds (both (takes_past c) (both (each (lies_between c) c.dir.down) (each_pair (may_stand_behind c) c.dir.down))) h

-- ---- both ways

pub record StampsTimed (m : MachineValue) : Type 0 where
  pub taken : Holds (time_rule taken_is_past m)
  pub between : Holds (time_rule stamps_between m)
  pub rise : Holds (time_rule stamps_rise m)

pub stamps-timed : (m : MachineValue) → IsShaped m → find (stamps_broken (dirs_at m)) (range_with_len 0 (length m.traffic)) ≡ None → StampsTimed m
stamps-timed m shaped e =
    let each_bus = each-from_range (λ bus. not (stamps_broken (dirs_at m) bus)) (length m.traffic) (none-found (stamps_broken (dirs_at m)) (range_with_len 0 (length m.traffic)) e) in
    let ordered : AllByRecursion IsOrdered (dirs_at m) = none-broken (length m.traffic) (dirs_at m) (λ bus below. no (stamps_broken (dirs_at m) bus) (each_bus bus below)) (dirs_at-below m shaped) in
    let all : AllByRecursion OrderedFacts (dirs_at m) = each-so IsOrdered OrderedFacts ordered-facts (dirs_at m) ordered in
    record {
      taken = facts-each takes_past (dirs_at m) (each-so OrderedFacts (λ c. Holds (takes_past c)) (λ c h. h.0) (dirs_at m) all);
      between = facts-each (λ c. each (lies_between c) c.dir.down) (dirs_at m) (each-so OrderedFacts (λ c. Holds (each (lies_between c) c.dir.down)) (λ c h. h.1.0) (dirs_at m) all);
      rise = facts-each (λ c. each_pair (may_stand_behind c) c.dir.down) (dirs_at m) (each-so OrderedFacts (λ c. Holds (each_pair (may_stand_behind c) c.dir.down)) (λ c h. h.1.1) (dirs_at m) all);
    }
  where
    no : (b : Bool) → not b ≡ true → b ≡ false
    no true e = cc
    no false e = refl

pub timed-stamps : (m : MachineValue) → IsTimed m → find (stamps_broken (dirs_at m)) (range_with_len 0 (length m.traffic)) ≡ None
timed-stamps m t =
    let taken : AllByRecursion (λ c. Holds (takes_past c)) (dirs_at m) = each-facts takes_past (dirs_at m) (t.each taken_is_past) in
    let between : AllByRecursion (λ c. Holds (each (lies_between c) c.dir.down)) (dirs_at m) = each-facts (λ c. each (lies_between c) c.dir.down) (dirs_at m) (t.each stamps_between) in
    let rise : AllByRecursion (λ c. Holds (each_pair (may_stand_behind c) c.dir.down)) (dirs_at m) = each-facts (λ c. each_pair (may_stand_behind c) c.dir.down) (dirs_at m) (t.each stamps_rise) in
    let lists = each-both (λ (c : DirAt). Holds (each (lies_between c) c.dir.down)) (λ c. Holds (each_pair (may_stand_behind c) c.dir.down)) (λ c. Holds (both (each (lies_between c) c.dir.down) (each_pair (may_stand_behind c) c.dir.down))) (λ c a b. (a, b)) (dirs_at m) between rise in
    let all = each-both (λ c. Holds (takes_past c)) (λ c. Holds (both (each (lies_between c) c.dir.down) (each_pair (may_stand_behind c) c.dir.down))) IsOrdered (λ c a b. facts-ordered c (a, b)) (dirs_at m) taken lists in
    found-none (stamps_broken (dirs_at m)) (range_with_len 0 (length m.traffic)) (range-from_each (λ bus. not (stamps_broken (dirs_at m) bus)) (length m.traffic) (λ bus below. rw (broken-none (dirs_at m) all bus) refl))
