use Rattle.std.proofs.Common.{◌≡◌, ◌<◌, [], map, true, Some, None, sym, ap, subst, ◌∙◌, rules}
use Rattle.ddm_tree.specs.DdmTypes.ItemTable.{item_count}
use Rattle.ddm_tree.specs.TreeModel.State.Rooms.{all_within}
use Rattle.ddm_tree.specs.TreeModel.State.Values.{dir_node, nodes, root_of}
use Rattle.ddm_tree.specs.TreeModel.Turns.Tree.{bus_of_number}
use Rattle.ddm_tree.specs.TreeModel.State.Directory.{parked_place, parked_words}
use Rattle.ddm_tree.specs.ItemStates.Parts.{node_items}
use Rattle.ddm_tree.specs.Reads.{copy_pair, node_parked}
use Rattle.ddm_tree.specs.Path.{node_at}
use Rattle.ddm_tree.specs.Ready.{Leads}
use Rattle.ddm_tree.proofs.Reading.{items-within, no-words, parked-is, within-at}
use Rattle.ddm_tree.proofs.Steps.{own-path}
use Rattle.ddm_tree.proofs.machine.Machine.parked.Goals as goal

pub returns-in_err-place : goal.returns-in_err-place
returns-in_err-place g c =
    let root : dir_node c.self.inside.top (nodes (map g.C.Agent.value c.self.inside.children.items)) ≡ root_of c.args.self.now.machine = ap (λ s. root_of s.machine) c.self.view_is in
    let own : c.bus_path-path.result.now ≡ [] = own-path c.bus_path-path.result.now c.is_empty.result c.is_empty.ensures c.if-is_empty.true in
    let none : None ≡ parked_place c.args.item c.self.inside.top = c.in_err-place.ensures in
    let told : None ≡ node_parked c.args.item (dir_node c.self.inside.top (nodes (map g.C.Agent.value c.self.inside.children.items))) = ap (λ o. copy_pair o (parked_words c.args.item c.self.inside.top)) none in
    ap Some (c.from_residual.ensures ∙ told ∙ ap (λ n. node_parked c.args.item n) root ∙ ap (λ p. node_parked c.args.item (node_at p (root_of c.args.self.now.machine))) (sym own)) ∙ parked-is c.args.self.now.machine c.args.bus c.bus_path-path.result.now c.bus_path-path.ensures c.args.item

pub returns-in_err-words : goal.returns-in_err-words
returns-in_err-words g c =
    let root : dir_node c.self.inside.top (nodes (map g.C.Agent.value c.self.inside.children.items)) ≡ root_of c.args.self.now.machine = ap (λ s. root_of s.machine) c.self.view_is in
    let own : c.bus_path-path.result.now ≡ [] = own-path c.bus_path-path.result.now c.is_empty.result c.is_empty.ensures c.if-is_empty.true in
    let none : None ≡ parked_words c.args.item c.self.inside.top = c.in_err-words.ensures in
    let told : None ≡ node_parked c.args.item (dir_node c.self.inside.top (nodes (map g.C.Agent.value c.self.inside.children.items))) = sym (no-words (parked_place c.args.item c.self.inside.top)) ∙ ap (copy_pair (parked_place c.args.item c.self.inside.top)) none in
    ap Some (c.from_residual-in_err-words.ensures ∙ told ∙ ap (λ n. node_parked c.args.item n) root ∙ ap (λ p. node_parked c.args.item (node_at p (root_of c.args.self.now.machine))) (sym own)) ∙ parked-is c.args.self.now.machine c.args.bus c.bus_path-path.result.now c.bus_path-path.ensures c.args.item

pub returns-in_ok-words : goal.returns-in_ok-words
returns-in_ok-words g c =
    let root : dir_node c.self.inside.top (nodes (map g.C.Agent.value c.self.inside.children.items)) ≡ root_of c.args.self.now.machine = ap (λ s. root_of s.machine) c.self.view_is in
    let own : c.bus_path-path.result.now ≡ [] = own-path c.bus_path-path.result.now c.is_empty.result c.is_empty.ensures c.if-is_empty.true in
    let place : Some c.in_ok-place.place ≡ parked_place c.args.item c.self.inside.top = c.in_ok-place.ensures in
    let words : Some c.in_ok-words.words ≡ parked_words c.args.item c.self.inside.top = c.in_ok-words.ensures in
    let told : Some (c.in_ok-place.place, c.in_ok-words.words) ≡ node_parked c.args.item (dir_node c.self.inside.top (nodes (map g.C.Agent.value c.self.inside.children.items))) = ap (λ o. copy_pair o (Some c.in_ok-words.words)) place ∙ ap (copy_pair (parked_place c.args.item c.self.inside.top)) words in
    ap Some (told ∙ ap (λ n. node_parked c.args.item n) root ∙ ap (λ p. node_parked c.args.item (node_at p (root_of c.args.self.now.machine))) (sym own)) ∙ parked-is c.args.self.now.machine c.args.bus c.bus_path-path.result.now c.bus_path-path.ensures c.args.item

pub parked_under-requires : goal.parked_under-requires
parked_under-requires g c =
    let root : dir_node c.self.inside.top (nodes (map g.C.Agent.value c.deref.result.now)) ≡ root_of c.args.self.now.machine = ap (λ cs. dir_node c.self.inside.top (nodes (map g.C.Agent.value cs))) c.deref.ensures.value ∙ ap (λ s. root_of s.machine) c.self.view_is in
    let rooms : all_within (item_count c.args.self.now.machine.items) (root_of c.args.self.now.machine) ≡ true = subst (λ s. all_within (item_count s.machine.items) (root_of s.machine) ≡ true) c.self.view_is c.self.invariant.0.rooms in
    let there = within-at (item_count c.args.self.now.machine.items) (bus_of_number c.args.bus) c.bus_path-path.result.now (root_of c.args.self.now.machine) c.bus_path-path.ensures rooms in
    let items = items-within (item_count c.args.self.now.machine.items) (node_at c.bus_path-path.result.now (root_of c.args.self.now.machine)) there in
    (search rules, (subst (λ n. Leads (bus_of_number c.args.bus) c.bus_path-path.result.now n) (sym root) c.bus_path-path.ensures, (search rules, subst (λ n. c.args.item < node_items (node_at c.bus_path-path.result.now n)) (sym root) (subst (λ k. c.args.item < k) (sym items) c.requires.item))))

pub returns-else-is_empty : goal.returns-else-is_empty
returns-else-is_empty g c =
    let root : dir_node c.self.inside.top (nodes (map g.C.Agent.value c.deref.result.now)) ≡ root_of c.args.self.now.machine = ap (λ cs. dir_node c.self.inside.top (nodes (map g.C.Agent.value cs))) c.deref.ensures.value ∙ ap (λ s. root_of s.machine) c.self.view_is in
    ap Some (c.parked_under.ensures ∙ ap (λ n. node_parked c.args.item (node_at c.bus_path-path.result.now n)) root) ∙ parked-is c.args.self.now.machine c.args.bus c.bus_path-path.result.now c.bus_path-path.ensures c.args.item
