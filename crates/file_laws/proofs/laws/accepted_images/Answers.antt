use Rattle.file_laws.proofs.Images.{image-bytes}
use Rattle.file_laws.proofs.laws.accepted_images.Goals as goal

pub returns : goal.returns
returns c = image-bytes
