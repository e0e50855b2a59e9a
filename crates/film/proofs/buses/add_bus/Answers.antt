use Rattle.std.proofs.Common.{◌≡◌, ◌++◌, length, sym, ap, ◌∙◌}
use Rattle.film_parts.specs.DdmText.Adds.{alone}
use Rattle.film.specs.DdmTypes.ItemTable.{item_count}
use Rattle.film.specs.FilmModel.Directory.{dir_parts}
use Rattle.film.proofs.EachBus.{parts_of_bus, read_over, words_of_bus}
use Rattle.film.proofs.EachLeaf.{some_same}
use Rattle.film.proofs.buses.add_bus.Goals as goal

pub returns : goal.returns
returns g c = λ d ns most over number level items form plain.
    let m = c.args.machine.now.machine in
    let bus = c.args.bus in
    let children : c.children.result ≡ length ns = some_same (c.children.ensures ∙ read_over (λ e ks. length ks) 0 bus m d ns over) in
    c.in_ok-add_dir.ensures d most (number ∙ sym c.bus.view_is) level (items ∙ sym (c.len.ensures ∙ ap item_count c.items.ensures)) form plain (c.new-left.ensures ∙ c.deref.ensures.value ∙ alone c.in_ok-write_part.ensures.ok c.clear.ensures.items ∙ words_of_bus bus m d ns over)
    ∙ ap (λ k. c.args.still.now ++ dir_parts k d) children ∙ ap (λ ps. c.args.still.now ++ ps) (sym (parts_of_bus bus m d ns over))
