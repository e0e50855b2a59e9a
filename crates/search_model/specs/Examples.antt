-- A worked example: two harts that exit with their numbers in two instructions each. No instruction touches an item, so one order of
-- turns is gone through.
use Rattle.std.specs.Prelude.{◌≡◌, ℕ, Bool, nat_eq, List, [], ◌∷◌, flat_map, codes, Some, None, is_some, if◌then◌else◌}
use Rattle.std.specs.Cmp.Lexicographic.{pointwise}
use Rattle.tree_model.specs.State.Values.{LeafValue, MachineValue}
use Rattle.tree_model.specs.Turns.Machine.{machine_leaves}
use Rattle.outcome_model.specs.Examples.{two_exits}
use Rattle.search_model.specs.Explored.{explore_text, reach_text}

-- where each hart is, and whether it has halted: all in which two machines of this program can differ
abbrev pub places_of : MachineValue → List ℕ
places_of m = flat_map (λ (v : LeafValue). v.hart.pc ∷ (if is_some v.hart.halt then 1 else 0) ∷ []) (machine_leaves m)

abbrev pub same_places : MachineValue → MachineValue → Bool
same_places m n = pointwise nat_eq (places_of m) (places_of n)

pub record TwoExits : Type 0 where
  pub all :
      explore_text same_places 10 two_exits
      ≡ codes "outcomes 1 jams 0 lost 0 states 4 all\noutcome 4 hart 0 exit 0 out - hart 1 exit 1 out -\nend\n"
  -- exactly as many places as states
  pub just :
      explore_text same_places 4 two_exits
      ≡ codes "outcomes 1 jams 0 lost 0 states 4 all\noutcome 4 hart 0 exit 0 out - hart 1 exit 1 out -\nend\n"
  pub few : explore_text same_places 3 two_exits ≡ codes "outcomes 0 jams 0 states 3 turns 2\nend\n"
  pub line : reach_text same_places 10 1 two_exits ≡ Some (codes "h 0 0\nh 0 0\nh 1 0\nh 1 0\nend\n")
  pub no_line : reach_text same_places 10 2 two_exits ≡ None
