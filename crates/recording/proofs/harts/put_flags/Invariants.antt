use Rattle.std.proofs.Common.{◌≡◌, length, take}
use Rattle.recording.specs.Runs.{flags_of}
use Rattle.recording.proofs.Flags.{all_set}
use Rattle.recording.proofs.harts.put_flags.Given as goal

-- the flags so far, and whether all of them are set
abbrev pub invariant-loop-leaf : goal.invariant-loop-leaf
invariant-loop-leaf g l =
    (length l.flags ≡ length l.initial.flags) × (take l.leaf l.flags ≡ take l.leaf (flags_of l.machine.machine)) × (l.all ≡ all_set (take l.leaf (flags_of l.machine.machine)))
