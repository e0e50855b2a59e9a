use Rattle.serving_model.proofs.StartRoom.{start-room}
use Rattle.serving_model.proofs.laws.starts_have_room.Goals as goal

pub returns : goal.returns
returns c t i m built room = start-room t i m built room
