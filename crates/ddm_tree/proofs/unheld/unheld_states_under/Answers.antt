use Rattle.std.proofs.Common.{◌≡◌, ◌++◌, map, take, arith, false}
use Rattle.ddm_tree.specs.TreeModel.State.Child.{child_holds}
use Rattle.ddm_tree.specs.Reads.{states_among}
use Rattle.ddm_tree.specs.Ready.{IsRuled}
use Rattle.ddm_tree.proofs.LeafStates.{count-next, states-next}
use Rattle.ddm_tree.proofs.Search.{here-all}
use Rattle.ddm_tree.proofs.unheld.unheld_states_under.Goals as goal

pub unheld_states_below-next-requires : goal.unheld_states_below-next-requires
unheld_states_below-next-requires g c =
    let here = count-next g.C.Agent.value c.args.item c.loop-child.child-index c.args.children.now c.child-item.result c.loop-child-test.true c.child-item.is in
    record {
      ruled = here-all g.C.Agent.value c.args.children.now c.loop-child.child-index c.child-item.result c.loop-child-test.true c.child-item.is (IsRuled c.args.item) c.requires.ruled;
      unheld = here-all g.C.Agent.value c.args.children.now c.loop-child.child-index c.child-item.result c.loop-child-test.true c.child-item.is (λ n. child_holds c.args.item n ≡ false) c.requires.unheld;
      room = omega (arith, here, c.loop-child.invariant.count, c.requires.room, c.loop-child.auto.states);
    }

pub loop-child-preserved : goal.loop-child-preserved
loop-child-preserved g c =
    let here = count-next g.C.Agent.value c.args.item c.loop-child.child-index c.args.children.now c.child-item.result c.loop-child-test.true c.child-item.is in
    let before = take c.loop-child.next c.loop-child.states in
    let now = take c.unheld_states_below-next.result c.unheld_states_below-next.new.states in
    let all = take c.args.at c.args.states.now ++ states_among c.args.item (map g.C.Agent.value c.args.children.now) in
    record {
      count = omega (arith, here, c.loop-child.invariant.count, c.unheld_states_below-next.ensures.next);
      states = states-next g.C.Agent.value c.args.item c.loop-child.child-index c.args.children.now c.child-item.result c.loop-child-test.true c.child-item.is before now all c.loop-child.invariant.states c.unheld_states_below-next.ensures.states;
    }
