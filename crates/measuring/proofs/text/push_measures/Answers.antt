use Rattle.report.specs.DdmText.Adds.{◌▸◌}
use Rattle.measure_model.specs.Text.{measures_text}
use Rattle.measuring.proofs.text.push_measures.Goals as goal

pub returns : goal.returns
unfolding measures_text
returns g c =
    let front = c.in_ok-push_bytes.ensures.text ▸ c.in_ok-push_end.ensures ▸ c.in_ok-push_totals.ensures in
    let harts = rw c.deref.ensures.value at c.in_ok-push_harts.ensures in
    let buses = rw c.deref-2.ensures.value at c.in_ok-push_buses.ensures in
    let mosts = rw c.deref-3.ensures.value at c.in_ok-push_mosts.ensures in
    let leaf_mosts = rw c.deref-4.ensures.value at c.in_ok-push_leaf_mosts.ensures in
    let items = rw c.deref-5.ensures.value at c.in_ok-push_items.ensures in
    front ▸ harts ▸ buses ▸ mosts ▸ leaf_mosts ▸ items ▸ c.in_ok-push_bytes-2.ensures.text
