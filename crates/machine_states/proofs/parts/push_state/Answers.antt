use Rattle.std.proofs.Common.{[], ◌∷◌, ◌++◌, flat_map, length, sym, ap, ◌∙◌}
use Rattle.std.specs.List.{range_with_len}
use Rattle.tree_model.specs.Turns.Machine.{machine_leaves}
use Rattle.state_words.specs.Machine.{bus_words}
use Rattle.state_words.specs.Parts.{leaf_words}
use Rattle.time_laws.specs.Forget.{forget, puts_of}
use Rattle.explorer.specs.StateKeys.Key.{put_words}
use Rattle.timeless_words.proofs.Forgotten.{when-ok}
use Rattle.machine_states.specs.Words.{timeless_hart}
use Rattle.machine_states.proofs.Timeless.{joined-up, key-parts}
use Rattle.machine_states.proofs.parts.push_state.Goals as goal

pub returns : goal.returns
returns g c =
    let m = c.args.machine.now.machine in
    let out = c.args.out.now.items in
    let harts = flat_map timeless_hart (machine_leaves m) in
    let buses = flat_map (bus_words (forget m)) (range_with_len 0 (length m.traffic)) in
    let leaves = flat_map leaf_words (machine_leaves m) in
    let puts = flat_map put_words (puts_of m) in
    when-ok c.push_all_puts.result c.push_all_puts.ensures (λ last.
    last ∙ ap (λ l. l ++ puts) (c.in_ok-extend_from_slice.ensures.items ∙ ap (λ l. l ++ (0 ∷ 0x454d4444 ∷ [])) (c.in_ok-push_leaves.ensures ∙ ap (λ l. l ++ leaves) (c.in_ok-push_buses.ensures ∙ ap (λ l. l ++ buses) c.in_ok-push_harts.ensures)))
    ∙ joined-up out harts buses leaves (0 ∷ 0x454d4444 ∷ []) puts ∙ ap (λ l. out ++ l) (sym (key-parts m)))
