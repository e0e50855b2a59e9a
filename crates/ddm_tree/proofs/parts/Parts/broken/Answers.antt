use Rattle.std.proofs.lemmas.Result.{IfOk-weaker}
use Rattle.ddm_tree.proofs.StateJudged.{by-buses, by-keys, by-stamps}
use Rattle.ddm_tree.proofs.parts.Parts.broken.Goals as goal

pub returns-in-Some : goal.returns-in-Some
returns-in-Some g c = by-buses c.args.self.now c.in-Some.refusal c.in-Some.ensures

pub returns-in-Some-broken_stamp : goal.returns-in-Some-broken_stamp
returns-in-Some-broken_stamp g c = by-stamps c.args.self.now c.in-Some-broken_stamp.refusal c.in-None.ensures c.in-Some-broken_stamp.ensures

pub returns-in-None-broken_stamp : goal.returns-in-None-broken_stamp
returns-in-None-broken_stamp g c = IfOk-weaker c.broken_key.result _ _ (λ o is. by-keys c.args.self.now o c.in-None.ensures c.in-None-broken_stamp.ensures is) c.broken_key.ensures
