use Rattle.std.proofs.Common.{◌≡◌, ◌-◌, ◌≤◌, ◌++◌, length, drop, take, sym, ap, ◌∙◌, arith}
use Rattle.text_model.specs.Report.{letter_texts}
use Rattle.report.specs.TreeModel.Turns.Found.{states_of}
use Rattle.any_machine.specs.Any.{state_in}
use Rattle.report.proofs.Letters.{letters-few, letters-from}
use Rattle.report.proofs.machine_parts.put_few_states.Goals as goal

pub returns : goal.returns
returns g c =
    let all = states_of c.args.item (state_in c.args.machine.now).machine in
    let states = c.states.new.states in
    let put = drop c.args.from states in
    let told : take c.args.leaves states ≡ all = ap (λ n. take n states) c.requires.leaves ∙ c.states.ensures in
    let few : length (letter_texts (take (c.args.leaves - c.args.from) put)) ≤ c.args.leaves - c.args.from = letters-few put (c.args.leaves - c.args.from) in
    record {
      within = omega arith;
      states = letters-from states all c.args.from c.args.leaves c.requires.from told ∙ ap (λ t. t ++ letter_texts (drop c.args.leaves all)) (sym c.put_letters.ensures);
      room = omega (arith, few, ap length c.put_letters.ensures, c.requires.few);
      long = λ less. absurd (omega (arith, less));
    }
