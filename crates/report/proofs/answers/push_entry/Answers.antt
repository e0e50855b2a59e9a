use Rattle.report.specs.DdmText.Adds.{◌▸◌}
use Rattle.text_model.specs.Words.{entry_text}
use Rattle.report.proofs.answers.push_entry.Goals as goal

pub returns-clause-text : goal.returns-clause-text
unfolding entry_text
returns-clause-text g c = c.in_ok-push_kind.ensures.text ▸ c.in_ok-push_bytes.ensures.text ▸ c.in_ok-push_item.ensures.text ▸ c.in_ok-push_bytes-2.ensures.text ▸ c.in_ok-push_place.ensures.text ▸ c.in_ok-push_bytes-3.ensures.text ▸ c.in_ok-push_place-2.ensures.text
