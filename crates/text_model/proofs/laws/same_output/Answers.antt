use Rattle.text_model.proofs.Outputs.{put_texts-same}
use Rattle.text_model.proofs.laws.same_output.Goals as goal

pub returns : goal.returns
returns c = put_texts-same
