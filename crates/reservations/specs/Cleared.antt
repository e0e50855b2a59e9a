-- A reservation after the item was stored to.
use Rattle.std.specs.Prelude.{ℕ, Option, None, Some, ◌==◌, if◌then◌else◌}

-- the reservation after it was cleared where it covers the item
abbrev pub cleared_on : ℕ → Option ℕ → Option ℕ
cleared_on item None = None
cleared_on item (Some covered) = if covered == item then None else Some covered
