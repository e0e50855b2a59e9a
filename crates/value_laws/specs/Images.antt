-- What a machine whose numbers are words needs of its image.
-- Letters: i is an image, s a segment.
-- To be believed with the laws: it is what they speak of.
use Rattle.std.specs.Prelude.{◌<◌}
use Rattle.std.specs.List.{AllByRecursion}
use Rattle.value_laws.specs.TreeModel.Start.Sources.{ImageValue, SegmentValue}
use Rattle.value_laws.specs.Values.{IsWord}

-- the image is made of bytes, and begins at an address
pub record IsOfBytes (i : ImageValue) : Type 0 where
  pub entry : IsWord i.entry
  pub bytes : AllByRecursion (λ (s : SegmentValue). AllByRecursion (λ byte. byte < 256) s.bytes) i.segments
