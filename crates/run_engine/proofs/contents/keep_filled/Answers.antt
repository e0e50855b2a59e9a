use Rattle.std.proofs.Common.{◌≡◌, ◌≤◌, ◌^◌, filter, rules, sym, ap, subst, ◌∙◌}
use Rattle.std.specs.Prelude.{All}
use Rattle.std.proofs.lemmas.List.Elements.{All-filter, filter_from_retain}
use Rattle.run_engine.specs.DdmTypes.ItemTable.{items_of, span_end}
use Rattle.run_engine.specs.Build.{has_bytes}
use Rattle.run_engine.proofs.Filled.{filled-items}
use Rattle.run_engine.proofs.contents.keep_filled.Goals as goal

-- those with bytes are left
left : (c : goal.After-retain) → c.retain.new.self.items ≡ filter has_bytes c.args.spans.now.items
left c = filter_from_retain _ has_bytes (λ p x b q k. search rules) _ _ _ c.retain.ensures.filtered

pub returns-clause-items : goal.returns-clause-items
returns-clause-items c = λ size. ap (items_of size) (left c) ∙ filled-items size c.args.spans.now.items

pub returns-clause-ends : goal.returns-clause-ends
returns-clause-ends c = λ ends. subst (All (λ span. span_end span ≤ 2 ^ 32)) (sym (left c)) (All-filter has_bytes (λ span. span_end span ≤ 2 ^ 32) c.args.spans.now.items ends)
