use Rattle.std.proofs.Common.{◌∷◌, [], ◌++◌, ◌∙◌}
use Rattle.film_parts.specs.StateWords.Parts.{counted, item_and_words, request_words}
use Rattle.film_parts.proofs.DirWords.{all_wide, five_told, lists_cut, lists_of_dir}
use Rattle.film_parts.proofs.buses.add_dir_lists.Goals as goal

pub returns : goal.returns
returns c = λ d most bus level form words.
    let w4 = d.reserved ∷ [] in
    let w3 = counted item_and_words d.parked ++ w4 in
    let w2 = counted item_and_words d.replies ++ w3 in
    let w1 = counted request_words d.requests ++ w2 in
    let down = c.in_ok-add_down.ensures d.down w1 (words ∙ lists_cut d) (all_wide c.args.width most d.down form.down) in
    let requests = c.in_ok-add_requests.ensures d.requests w2 down.left in
    let replies = c.in_ok-add_copies.ensures d.replies w3 requests.left form.replies in
    let parked = c.in_ok-add_copies-2.ensures d.parked w4 replies.left form.parked in
    let kept = c.in_ok-add_kept.ensures d.reserved [] parked.left in
    lists_of_dir _ _ d _ _ bus level (five_told _ _ _ _ _ _ _ _ _ _ _ down.told requests.told replies.told parked.told kept.told)
