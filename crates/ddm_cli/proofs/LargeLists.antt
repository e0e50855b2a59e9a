-- Lists that were judged to be large enough are large in the machine, and stay so.
use Rattle.std.proofs.Common.{◌≡◌, ℕ, ◌*◌, Bool, true, false, List, None, refl, sym, ap, ◌∙◌, arith}
use Rattle.std.specs.Prelude.{nat_le, nat_lt}
use Rattle.std.specs.Cmp.Derive.{both_true}
use Rattle.std.proofs.lemmas.Bool.Decides.{nat_tests}
use Rattle.ddm_cli.specs.DdmTypes.ItemTable.{item_count}
use Rattle.ddm_cli.specs.DdmTypes.declared.sizes.TreeSizes.{TreeSizes}
use Rattle.ddm_cli.specs.DdmTypes.declared.turns.Turn.{Turn}
use Rattle.ddm_cli.specs.TreeModel.State.Values.{MachineValue}
use Rattle.ddm_cli.specs.TreeModel.Start.Sources.{TreeValue, ImageValue}
use Rattle.ddm_cli.specs.TreeModel.Start.Memory.{start_items}
use Rattle.ddm_cli.specs.TreeModel.Start.Machine.{start_machine}
use Rattle.ddm_cli.specs.TreeModel.Turns.Machine.{run_of}
use Rattle.ddm_cli.specs.JamLaws.GoesOn.{has_large_lists, sizes_are_large}
use Rattle.ddm_cli.proofs.JamLaws.LargeLists.{made-large, run-large}
use Rattle.ddm_cli.specs.DdmTree.Machine.{MachineState}
use Rattle.ddm_cli.specs.Lists.{list_refused, small_list}
use Rattle.ddm_cli.specs.Parts.{HasStart, IsStart}
use Rattle.ddm_words.specs.declared.command.Prints.{Prints}
use Rattle.ddm_words.specs.declared.command.Prints.TheVariants.{Unjamming}
use Rattle.ddm_cli.proofs.EachTurn.{starts}

-- ---- the items of the start

start_has : (t : TreeValue) (i : ImageValue) → (start_machine t i).items ≡ start_items t i
unfolding start_machine
start_has t i = refl

pub items_started : (t : TreeValue) (i : ImageValue) (s : MachineState) → IsStart t i s → item_count s.machine.items ≡ item_count (start_items t i)
items_started t i s start = ap (λ (s : MachineState). item_count s.machine.items) start.machine ∙ ap item_count (start_has t i)

pub started_large : (prints : Prints) (t : TreeValue) (i : ImageValue) (s : MachineState) → IsStart t i s → list_refused prints t.sizes (item_count s.machine.items) ≡ None → list_refused prints t.sizes (item_count (start_items t i)) ≡ None
started_large prints t i s start large = ap (λ k. list_refused prints t.sizes k) (sym (items_started t i s start)) ∙ large

-- ---- lists of which none is refused

not_less : (a b : ℕ) → nat_lt a b ≡ false → nat_le b a ≡ true
not_less a b h = grind (arith, nat_tests)

large_by : (s : TreeSizes) (items : ℕ) → small_list s items ≡ None → sizes_are_large s items ≡ true
large_by s items = by (nat_lt s.down (8 * items)) refl (nat_lt s.requests (8 * items)) refl (nat_lt s.replies (8 * items)) refl where
  by : (a : Bool) → nat_lt s.down (8 * items) ≡ a → (b : Bool) → nat_lt s.requests (8 * items) ≡ b → (c : Bool) → nat_lt s.replies (8 * items) ≡ c
      → small_list s items ≡ None → sizes_are_large s items ≡ true
  by true is b is_b c is_c none = cc
  by false is true is_b c is_c none = cc
  by false is false is_b true is_c none = cc
  by false is false is_b false is_c none = both_true (not_less s.down (8 * items) is) (both_true (not_less s.requests (8 * items) is_b) (not_less s.replies (8 * items) is_c))

pub stay_large : (prints : Prints) (t : TreeValue) (s : MachineState) (after : MachineValue) (turns : List Turn) → HasStart t s → after ≡ (run_of turns s.machine).machine → list_refused prints t.sizes (item_count s.machine.items) ≡ None
    → prints ≡ Unjamming → has_large_lists after ≡ true
stay_large prints t s after turns (i, start) made large is =
    let machine : s.machine ≡ start_machine t i = ap (λ (s : MachineState). s.machine) start.machine in
    let sizes : sizes_are_large t.sizes (item_count (start_machine t i).items) ≡ true = large_by t.sizes (item_count (start_machine t i).items) (ap (λ (m : MachineValue). small_list t.sizes (item_count m.items)) (sym machine) ∙ ap (λ p. list_refused p t.sizes (item_count s.machine.items)) (sym is) ∙ large) in
    ap has_large_lists made ∙ run-large turns s.machine ∙ ap has_large_lists machine ∙ made-large t i (start_machine t i) (starts t i start.accepted) sizes
