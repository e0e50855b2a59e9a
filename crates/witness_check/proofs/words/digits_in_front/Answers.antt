use Rattle.witness_check.proofs.ShortNumbers.{front_length, front_place}
use Rattle.witness_check.proofs.words.digits_in_front.Goals as goal

pub returns-in-None : goal.returns-in-None
returns-in-None c = front_length c.args.text.now c.in-None.ensures

pub returns-in-Some : goal.returns-in-Some
returns-in-Some c = front_place c.args.text.now c.in-Some.place c.in-Some.ensures
