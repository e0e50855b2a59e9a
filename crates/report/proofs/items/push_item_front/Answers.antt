use Rattle.std.proofs.Common.{append_assoc}
use Rattle.report.specs.DdmText.Adds.{◌▸◌}
use Rattle.report.specs.LineParts.{item_front}
use Rattle.report.proofs.items.push_item_front.Goals as goal

pub returns-clause-text : goal.returns-clause-text
unfolding item_front
returns-clause-text g c = simp append_assoc (c.in_ok-push_bytes.ensures.text ▸ (c.in_ok-push_item.ensures.text ▸ (c.in_ok-push_spaced_hex8.ensures.text ▸ (c.in_ok-push_words.ensures.text ▸ c.in_ok-push_place_between.ensures.text))))
