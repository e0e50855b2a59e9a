use Rattle.std.proofs.Common.{◌≡◌, List, ℕ, [], ◌++◌, true, false, rules, sym, ap, ◌∙◌}
use Rattle.std.proofs.lemmas.List.{append-nil}
use Rattle.report.proofs.Lines.{no-dash_behind, dash-by}
use Rattle.report.proofs.machine_parts.put_dash.Goals as goal

pub returns-then-not-is_empty-clause-dash : goal.returns-then-not-is_empty-clause-dash
returns-then-not-is_empty-clause-dash c = no-dash_behind c.args.hart c.args.from c.args.ops.now.items c.args.line.now c.requires.output (λ (none : c.args.line.now ≡ []). let no : false ≡ true = c.if-not-is_empty.ensures.1 none in cc no)

pub returns-then-has_output-clause-dash : goal.returns-then-has_output-clause-dash
returns-then-has_output-clause-dash c =
    let line = c.args.line.now in
    let none : line ≡ [] = c.if-not-is_empty.ensures.0 (search rules) in
    sym (ap (λ (d : List ℕ). line ++ d) (dash-by c.args.hart c.args.from c.args.ops.now.items line c.requires.output true none (sym c.has_output.ensures ∙ c.if-has_output.true)) ∙ append-nil line)

pub returns-clause-dash : goal.returns-clause-dash
returns-clause-dash c =
    let line = c.args.line.now in
    let none : line ≡ [] = c.if-not-is_empty.ensures.0 (search rules) in
    c.push.ensures ∙ ap (λ (d : List ℕ). line ++ d) (sym (dash-by c.args.hart c.args.from c.args.ops.now.items line c.requires.output false none (sym c.has_output.ensures ∙ c.if-has_output.false)))
