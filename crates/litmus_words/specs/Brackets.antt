-- A place in memory, by the parts of its brackets.
use Rattle.std.specs.Prelude.{ℕ, ◌&&◌, nat_eq, List, pos, Option, Some, None, Ok, if◌then◌else◌}
use Rattle.rv_decode.specs.Valid.{FitsBits, IsRegister}
use Rattle.litmus_model.specs.declared.parts.Part.{Part}
use Rattle.litmus_model.specs.declared.parts.Part.TheVariants.{Word, Mark}
use Rattle.litmus_model.specs.declared.parts.Place.{Place}
use Rattle.litmus_model.specs.Refusing.{Judged}
use Rattle.litmus_model.specs.Operands.{place, place_at, register_in}

-- with no offset
unfoldable pub plain_place : Part → Part → Part → Option Place
plain_place (Word l) register right = None
plain_place (Mark left) register (Word r) = None
plain_place (Mark left) register (Mark right) =
    if nat_eq left 40 && nat_eq right 41 then place (register_in register) (Some (pos 0)) else None

-- behind the parts of an offset
unfoldable pub bracketed : ℕ → List Part → Part → Part → Part → Judged (Option Place)
bracketed line offset (Word l) register right = Ok None
bracketed line offset (Mark left) register (Word r) = Ok None
bracketed line offset (Mark left) register (Mark right) = place_at line offset left register right

-- a place that an instruction can name
abbrev pub IsPlace : Place → Type 0
IsPlace p = IsRegister p.register × FitsBits 12 p.offset
