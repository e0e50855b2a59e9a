use Rattle.std.proofs.Common.{w32, rules}
use Rattle.std.proofs.lemmas.Int.{to_z-of_z}
use mir.Val.{SFits}
use Rattle.flat_model.specs.Hart.{instr_action}
use Rattle.rv_hart.proofs.hart.Hart.instr_step.Goals as goal

pub returns-in-Load-clause-value : goal.returns-in-Load-clause-value
unfolding instr_action
returns-in-Load-clause-value c =
    let fits : SFits w32 c.in-Load.offset = search rules in
    let address = simp to_z-of_z at c.address.ensures in
    rw (c.in-Load.is, ← address) (c.load_step.ensures.value c.args.self.now.hart)

pub returns-in-Store-clause-value : goal.returns-in-Store-clause-value
unfolding instr_action
returns-in-Store-clause-value c =
    let fits : SFits w32 c.in-Store.offset = search rules in
    let address = simp to_z-of_z at c.address-in-Store.ensures in
    rw (c.in-Store.is, ← address, ← c.register.ensures) (c.store_step.ensures.value c.args.self.now.hart)

pub returns-in_default : goal.returns-in_default
returns-in_default c = record {
  value = c.plain_step.ensures.value c.args.items.now;
  inside = c.plain_step.ensures.inside c.args.items.now.size;
}
