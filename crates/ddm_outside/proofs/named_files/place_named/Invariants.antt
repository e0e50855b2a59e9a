use Rattle.std.proofs.Common.{◌≡◌, ◌+◌, drop}
use Rattle.std.specs.Option.{option_map}
use Rattle.ddm_outside.specs.NamedFiles.{place_of}
use Rattle.ddm_outside.proofs.named_files.place_named.Given as goal

abbrev pub invariant-loop-i : goal.invariant-loop-i
invariant-loop-i l = option_map (λ k. l.i + k) (place_of (drop l.i l.files) l.name) ≡ place_of l.files l.name
