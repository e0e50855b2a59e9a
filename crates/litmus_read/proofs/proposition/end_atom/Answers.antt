use Rattle.std.proofs.Common.{◌≡◌, ◌<◌, List, [], true, length, ap, ◌∙◌, subst, arith}
use Rattle.std.specs.Prelude.{Ok}
use Rattle.std.proofs.lemmas.Bool.Decides.{nat_tests}
use Rattle.std.specs.Global.{Vec}
use Rattle.litmus_model.specs.declared.parts.Part.{Part}
use Rattle.litmus_text.specs.Reads.{behind}
use Rattle.litmus_read.specs.Reading.{atom_chunks}
use Rattle.litmus_read.proofs.Readings.{atom_ends}
use Rattle.litmus_read.proofs.proposition.end_atom.Goals as goal

pub returns-clause-atom : goal.returns-clause-atom
returns-clause-atom c = λ end cs plain.
    let r = c.args.reading.now in
    let some : 0 < length c.args.reading.now.row.items = grind (arith, nat_tests) in
    let wants : c.args.reading.now.standing.wants ≡ true = grind (arith, nat_tests) in
    let none : c.replace-row.new.dest.items ≡ [] = ap (λ (row : Vec Part). row.items) c.replace-row.ensures.after ∙ c.new.ensures.items in
    let own : c.deref.result.now ≡ c.args.reading.now.row.items = c.deref.ensures.value ∙ ap (λ (row : Vec Part). row.items) c.replace-row.ensures.value in
    atom_ends c.args.threads end r.line r.chunks.items c.push_atom.new.chunks.items r.standing r.row.items c.replace-row.new.dest.items cs some plain wants none
    (subst (λ (parts : List Part). behind r.chunks.items (atom_chunks c.args.threads r.line parts) ≡ Ok c.push_atom.new.chunks.items) own c.in_ok-push_atom.ensures)
