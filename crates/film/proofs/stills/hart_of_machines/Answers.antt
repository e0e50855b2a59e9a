use Rattle.std.proofs.Common.{List, ap, sym, ◌∙◌, ◌++◌}
use Rattle.film.specs.FilmModel.Leaf.{hart_parts}
use Rattle.film.specs.FilmModel.Part.{Part}
use Rattle.film.specs.AnyMachine.Any.{state_in}
use Rattle.film.proofs.DdmTree.LeafList.{leaf-number}
use Rattle.film.proofs.EachLeaf.{hart_read, hart_whole}
use Rattle.film.proofs.stills.hart_of_machines.Goals as goal

pub returns : goal.returns
returns g c = λ v is.
    let m = (state_in c.args.machine.now).machine in
    let same = hart_read m c.args.hart v c.requires.shape is c.hart-read.result.now c.hart-read.ensures in
    c.in_ok-add_hart.ensures v (leaf-number c.args.hart m v c.requires.shape is ∙ sym c.hart.view_is) (hart_whole v c.hart-read.result.now _ _ _ same c.registers.ensures c.pc.ensures c.halted.ensures)
    ∙ ap (λ (parts : List Part). parts ++ hart_parts v) c.clear.ensures
