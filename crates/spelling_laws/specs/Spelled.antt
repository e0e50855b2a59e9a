-- What a machine has whose words are read again.
-- To be believed with the laws: it is what they speak of.
use Rattle.spelling_laws.specs.TreeModel.State.Values.{MachineValue}
use Rattle.spelling_laws.specs.StateReading.Parts.{most_counted}
use Rattle.state_judging.specs.Read.{IsRead}
use Rattle.value_laws.specs.Values.{HasForm}

-- each part keeps what a part keeps that was read; and items have their words, registers, requests and effects their form, and no
-- count is above what a checkpoint may say
pub record IsSpelled (m : MachineValue) : Type 0 where
  pub parts : IsRead m
  pub form : HasForm most_counted m
