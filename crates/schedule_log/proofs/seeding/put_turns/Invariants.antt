use Rattle.std.proofs.Common.{◌≡◌, ◌+◌, ◌++◌, ℕ, drop, take}
use Rattle.schedule_log.specs.Seeding.{turns_left}
use Rattle.schedule_log.proofs.seeding.put_turns.Given as goal

-- the turns so far stand in front, and the others are the generator's; the place behind them may have another turn
abbrev pub invariant-loop-made : goal.invariant-loop-made
invariant-loop-made g l = record {
  front : (n : ℕ) → take l.made l.block ++ turns_left (record { harts = l.harts; buses = g.D.BusDraws.widths l.draws }) l.taken n ≡ turns_left (record { harts = l.harts; buses = g.D.BusDraws.widths l.draws }) l.initial.taken (l.made + n);
  behind : drop (l.made + 1) l.block ≡ drop (l.made + 1) l.fn.block;
}
