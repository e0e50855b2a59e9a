use Rattle.std.proofs.Common.{◌++◌, nat_eq, ap, subst, ◌∙◌}
use Rattle.std.specs.List.{AllByRecursion}
use Rattle.film_parts.specs.Records.{IsPlain, dir_list_words}
use Rattle.film_parts.specs.StateWords.Parts.{records}
use Rattle.film_parts.specs.TreeModel.State.Directory.{is_top}
use Rattle.film_parts.proofs.DirWords.{dir_cut, dir_told}
use Rattle.film_parts.proofs.buses.add_dir.Goals as goal

pub returns : goal.returns
returns c = λ d most bus level count form plain words.
    let time = c.in_ok-add_time.ensures d.count d.epoch (records (is_top d) d.items ++ dir_list_words d) (words ∙ dir_cut d) in
    let items =
    c.in_ok-add_items.ensures d.items (dir_list_words d) (time.left ∙ ap (λ l. records (nat_eq l 0) d.items ++ dir_list_words d) level) count
    (subst (λ l. AllByRecursion (IsPlain (nat_eq l 0)) d.items) level plain)
    in
    let lists = c.in_ok-add_dir_lists.ensures d most bus level form items.left in
    dir_told _ _ _ _ _ d _ _ bus level time.told items.told lists
