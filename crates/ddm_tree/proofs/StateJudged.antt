-- A state is judged by the rules of the buses first, then by the stamps, then by the keys.
use Rattle.std.proofs.Common.{◌≡◌, ℕ, true, length, [], List, Option, Some, None, option_map, refl, sym, ap, ◌∙◌}
use Rattle.std.specs.Prelude.{find, nat_le, ◌&&◌, Ok, Err}
use Rattle.std.specs.List.{list_all, range_with_len}
use Rattle.ddm_tree.specs.TreeModel.State.Lists.{first_some}
use Rattle.ddm_tree.specs.TreeModel.State.Shape.{frame_of}
use Rattle.ddm_tree.specs.TreeModel.State.Values.{Node, Nodes, leaf_node, dir_node, no_nodes, more_nodes, children, MachineValue, root_of}
use Rattle.ddm_tree.proofs.TreeModel.Tests.{and-both, and-first, and-second}
use Rattle.ddm_tree.specs.TreeRules.Bus.Own.{dir_holds, leaf_holds}
use Rattle.ddm_tree.specs.TreeRules.Bus.Rules.{items_of_machine}
use Rattle.ddm_tree.specs.TreeRules.Order.Places.{dirs_at}
use Rattle.ddm_tree.specs.StateReading.declared.StateRefusal.{StateRefusal}
use Rattle.ddm_tree.specs.StateReading.declared.StateRefusal.TheVariants.{BrokenStamp}
use Rattle.ddm_tree.specs.StateReading.Machine.{read_words}
use Rattle.ddm_tree.specs.StateReading.Parts.{most_counted}
use Rattle.ddm_tree.specs.StateReading.Reading.{and_then}
use Rattle.state_judging.specs.Judged.{broken_among, broken_key, judged, read_state, stamps_broken, unless_judged}
use Rattle.state_judging.specs.Read.{CanRead, IsRead, parts_hold, parts_hold_among}
use Rattle.state_judging.proofs.Judging.{judged_states_keep_the_rules}
use Rattle.state_judging.proofs.MachineRead.{framed-shape, what_is_read}
use Rattle.ddm_tree.specs.Counts.{counts_among, counts_within}
use Rattle.ddm_tree.specs.Machine.{traffic_within}
use Rattle.ddm_tree.specs.Rules.{KeepsRules}
use Rattle.ddm_tree.proofs.RulesKept.{rules-of}

module _ (m : MachineValue) where
  abbrev buses : Option StateRefusal
  buses = broken_among m (range_with_len 0 (length m.traffic))

  abbrev stamps : Option StateRefusal
  stamps = option_map (λ bus. BrokenStamp bus) (find (stamps_broken (dirs_at m)) (range_with_len 0 (length m.traffic)))

  abbrev keys : Option StateRefusal
  keys = broken_key m [] 0 m.ops

  in-order : judged m ≡ first_some buses (first_some stamps keys)
  unfolding judged
  in-order = refl

  pub by-buses : (r : StateRefusal) → Some r ≡ buses → Some r ≡ judged m
  by-buses r is = ap (λ o. first_some o (first_some stamps keys)) is ∙ sym in-order

  pub by-stamps : (r : StateRefusal) → None ≡ buses → Some r ≡ stamps → Some r ≡ judged m
  by-stamps r none is = ap (λ o. first_some o keys) is ∙ ap (λ o. first_some o (first_some stamps keys)) none ∙ sym in-order

  pub by-keys : (o : Option StateRefusal) → None ≡ buses → None ≡ stamps → o ≡ keys → o ≡ judged m
  by-keys o none unbroken is = is ∙ ap (λ o. first_some o keys) unbroken ∙ ap (λ o. first_some o (first_some stamps keys)) none ∙ sym in-order

-- ---- no count is above what a checkpoint may say

mutual
  parts-counted : (n : ℕ) (t : Node) → parts_hold n t ≡ true → counts_within 1048576 t ≡ true
  parts-counted n (leaf_node v) e = and-second (leaf_holds n v) _ e
  parts-counted n (dir_node d ns) e =
      let own = and-first _ (parts_hold_among n ns) e in
      and-both _ _ (and-second (dir_holds n (length (children ns)) d) _ own) (parts-counted-among n ns (and-second (dir_holds n (length (children ns)) d && nat_le d.count most_counted) _ e))

  parts-counted-among : (n : ℕ) (ns : Nodes) → parts_hold_among n ns ≡ true → counts_among 1048576 ns ≡ true
  parts-counted-among n no_nodes e = refl
  parts-counted-among n (more_nodes t ns) e = and-both _ _ (parts-counted n t (and-first _ (parts_hold_among n ns) e)) (parts-counted-among n ns (and-second (parts_hold n t) _ e))

-- ---- read and judged

module _ (m : MachineValue) (retired k : ℕ) (ws : List ℕ) where
  read-in-order : read_state m retired k ws ≡ and_then (read_words m retired k ws) (λ m k ws. unless_judged (judged m) m k ws)
  unfolding read_state
  read-in-order = refl

  pub words-refused : (e : StateRefusal) → read_words m retired k ws ≡ Err e → read_state m retired k ws ≡ Err e
  words-refused e is = read-in-order ∙ ap (λ r. and_then r (λ m k ws. unless_judged (judged m) m k ws)) is

  module _ (n : MachineValue) (at : ℕ) (rest : List ℕ) (is : read_words m retired k ws ≡ Ok (record { value = n; at = at; rest = rest })) where
    after-words : read_state m retired k ws ≡ unless_judged (judged n) n at rest
    after-words = read-in-order ∙ ap (λ r. and_then r (λ m k ws. unless_judged (judged m) m k ws)) is

    pub judge-refused : (e : StateRefusal) → judged n ≡ Some e → read_state m retired k ws ≡ Err e
    judge-refused e broken = after-words ∙ ap (λ o. unless_judged o n at rest) broken

    pub judged-read : judged n ≡ None → read_state m retired k ws ≡ Ok (record { value = n; at = at; rest = rest })
    judged-read none = after-words ∙ ap (λ o. unless_judged o n at rest) none

    module _ (can : CanRead m) where
      frame-read : IsRead n × (frame_of n ≡ frame_of m)
      frame-read = what_is_read m n retired k at ws rest can is

      pub state-frame : frame_of n ≡ frame_of m
      state-frame = frame-read.1

      pub state-counts : counts_within 1048576 (root_of n) ≡ true
      state-counts = parts-counted (items_of_machine n) (root_of n) frame-read.0.parts

      pub state-granted : list_all (traffic_within 1048576) n.traffic ≡ true
      state-granted = frame-read.0.traffic

      pub state-rules : judged n ≡ None → KeepsRules n
      state-rules none =
          let shaped = framed-shape m n frame-read.1 can.shaped in
          let ok = judged_states_keep_the_rules n shaped frame-read.0 none in
          rules-of n ok.0 ok.1
