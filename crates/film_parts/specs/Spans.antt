-- Parts in one text.
-- Letters: s is where a part is.
-- To be believed with the contracts: they speak of it.
use Rattle.std.specs.Prelude.{ℕ, ◌-◌, Bool, ◌&&◌, nat_le, List, [], drop, take}
use Rattle.film_model.specs.Part.{Part}
use Rattle.film_parts.specs.declared.still.PartSpan.{PartSpan}

abbrev pub between : ℕ → ℕ → List ℕ → List ℕ
between start end text = take (end - start) (drop start text)

abbrev pub part_at : List ℕ → PartSpan → Part
part_at text s = record { key = between s.key s.value text; value = between s.value s.end text }

-- in a text of so many bytes
abbrev pub is_within : ℕ → PartSpan → Bool
is_within size s = nat_le s.key s.value && (nat_le s.value s.end && nat_le s.end size)

-- what is read where there is no part
abbrev pub no_part : Part
no_part = record { key = []; value = [] }
