-- One turn, spared where the hart is known to be idle.
use Rattle.std.proofs.Common.{◌≡◌, false, map, vec_items, Some, sym, ap, subst, true≢false, ◌∙◌}
use Rattle.ddm_tree.specs.DdmTypes.Keys.{stamp_zero}
use Rattle.ddm_tree.specs.TreeModel.State.Values.{dir_node, nodes}
use Rattle.ddm_tree.specs.TreeModel.Turns.Machine.{named_by}
use Rattle.ddm_tree.specs.Idle.{AreIdle, AreNoted, idle_for}
use Rattle.ddm_tree.specs.Path.{node_answer, node_at, present_at}
use Rattle.ddm_tree.specs.Quiet.{IsTouchedBy, touches}
use Rattle.ddm_tree.specs.Ready.{Leads}
use Rattle.ddm_tree.proofs.IdleHarts.{noted-idle, spared}
use Rattle.ddm_tree.proofs.QuietTable.{agree-learned, kept-learned, learned-fewer, learned-none}
use Rattle.ddm_tree.proofs.QuietTurns.{idle-untouched}
use Rattle.ddm_tree.proofs.TurnMade.{same-path}
use Rattle.ddm_tree.proofs.machine.turn_made.Goals as goal

pub returns-in-Some-clause-answer : goal.returns-in-Some-clause-answer
returns-in-Some-clause-answer g c = λ path listed.
    let n = dir_node c.args.top.now (nodes (map g.C.Agent.value c.args.children.now)) in
    let found = c.requires.found in
    let same : path ≡ found.path = same-path _ found.path path (sym found.listed) listed in
    let leads : Leads (named_by c.args.turn.now) path n = subst (λ p. Leads (named_by c.args.turn.now) p n) (sym same) found.leads in
    let known : idle_for c.args.turn.now c.args.idle.now ≡ Some c.in-Some.known = sym c.idle_for.ensures ∙ c.in-Some.is in
    c.idle_answer.ensures ∙ sym (spared c.args.code.now c.args.items.now n c.args.idle.now c.requires.idle (present_at path stamp_zero n) path c.in-Some.known c.args.turn.now leads known).answers

pub returns-in-Some-clause-after : goal.returns-in-Some-clause-after
returns-in-Some-clause-after g c = λ path listed.
    let n = dir_node c.args.top.now (nodes (map g.C.Agent.value c.args.children.now)) in
    let found = c.requires.found in
    let same : path ≡ found.path = same-path _ found.path path (sym found.listed) listed in
    let leads : Leads (named_by c.args.turn.now) path n = subst (λ p. Leads (named_by c.args.turn.now) p n) (sym same) found.leads in
    let known : idle_for c.args.turn.now c.args.idle.now ≡ Some c.in-Some.known = sym c.idle_for.ensures ∙ c.in-Some.is in
    sym (spared c.args.code.now c.args.items.now n c.args.idle.now c.requires.idle (present_at path stamp_zero n) path c.in-Some.known c.args.turn.now leads known).leaves

pub returns-in-None-clause-idle : goal.returns-in-None-clause-idle
returns-in-None-clause-idle g c =
    let n = dir_node c.args.top.now (nodes (map g.C.Agent.value c.args.children.now)) in
    let found = c.requires.found in
    let leaf_paths = map vec_items c.args.leaf_paths.now in
    let bus_paths = map vec_items c.args.bus_paths.now in
    let bus_leaves = map vec_items c.args.bus_leaves.now.items in
    let after = c.turn_found.ensures.after found.path found.listed in
    let told = subst (λ a. AreNoted c.args.turn.now a bus_leaves bus_paths leaf_paths (dir_node c.turn_found.new.top (nodes (map g.C.Agent.value c.turn_found.new.children))) c.args.idle.now c.note.new.idle) (c.turn_found.ensures.answer found.path found.listed) (rw (c.deref.ensures.value) at c.note.ensures.noted c.turn_found.new.top) in
    let noted = subst (λ m. AreNoted c.args.turn.now (node_answer c.args.code.now c.args.items.now c.args.turn.now found.path (present_at found.path stamp_zero n) (node_at found.path n)) bus_leaves bus_paths leaf_paths m c.args.idle.now c.note.new.idle) after told in
    let idle = noted-idle c.args.code.now c.args.items.now c.args.turn.now found.path (present_at found.path stamp_zero n) n found.leads bus_leaves leaf_paths bus_paths c.args.idle.now found.listed c.requires.near c.requires.paths c.requires.idle _ c.requires.ruled (c.requires.later found.path found.listed) c.note.new.idle noted in
    subst (AreIdle c.args.code.now c.args.items.now c.note.new.idle n) (sym after) idle

pub returns-in-Some-clause-quiet : goal.returns-in-Some-clause-quiet
returns-in-Some-clause-quiet g c = λ path listed.
    let n = dir_node c.args.top.now (nodes (map g.C.Agent.value c.args.children.now)) in
    let still : touches c.idle_answer.result ≡ false = ap touches c.idle_answer.ensures ∙ idle-untouched c.in-Some.known in
    learned-fewer (λ q t. ⊥) (IsTouchedBy c.idle_answer.result path) n c.args.quiet.now c.args.quiet.now (λ k q t is touched. true≢false (sym touched.0 ∙ still)) (learned-none n c.args.quiet.now)

pub returns-in-None-clause-quiet : goal.returns-in-None-clause-quiet
returns-in-None-clause-quiet g c = λ path listed.
    kept-learned (IsTouchedBy c.turn_found.new.answer path) _ c.args.quiet.now c.note.new.quiet c.note_buses.new.known c.note.ensures.buses (c.note_buses.ensures.learned path listed)

pub returns-in-None-clause-harts : goal.returns-in-None-clause-harts
returns-in-None-clause-harts g c = agree-learned c.note.new.idle c.note.new.quiet c.note_buses.new.known c.note_buses.ensures.harts (c.note.ensures.harts c.requires.harts)
