-- What was read, and in which no rule is broken, keeps the rules of every bus and of time; and what keeps them is judged so.
use Rattle.std.specs.Prelude.{◌≡◌, [], Option, None, option_map, length}
use Rattle.std.specs.List.{range_with_len, find}
use Rattle.state_judging.specs.TreeModel.State.Lists.{first_some}
use Rattle.state_judging.specs.TreeModel.State.Shape.{IsShaped}
use Rattle.state_judging.specs.TreeModel.State.Values.{MachineValue}
use Rattle.state_judging.proofs.TreeModel.Tests.{first_some-none_first, first_some-none_second}
use Rattle.state_judging.specs.TreeRules.Bus.Rules.{IsMachineOk}
use Rattle.state_judging.specs.TreeRules.Statements.{Holds}
use Rattle.state_judging.specs.TreeRules.Order.Places.{dirs_at}
use Rattle.state_judging.specs.TreeRules.Order.Rules.{TimeRule, keys_differ, ops_of_leaves, keys_end, keys_have_paths, keys_are_past, taken_is_past, stamps_between, stamps_rise, stamps_end, epochs_end, time_rule, IsTimed}
use Rattle.state_reading.specs.declared.StateRefusal.{StateRefusal}
use Rattle.state_reading.specs.declared.StateRefusal.TheVariants.{BrokenStamp}
use Rattle.state_judging.specs.Judged.{broken_among, stamps_broken, broken_key, judged}
use Rattle.state_judging.specs.Read.{IsRead}
use Rattle.state_judging.proofs.BusesJudged.{buses-keep, keep-buses}
use Rattle.state_judging.proofs.StampsJudged.{StampsTimed, stamps-timed, timed-stamps}
use Rattle.state_judging.proofs.KeysJudged.{KeysTimed, keys-timed, timed-keys}
use Rattle.state_judging.proofs.Searches.{mapped_none, none_mapped}

-- ---- the three of them

pub record NoneBroken (m : MachineValue) : Type 0 where
  pub buses : broken_among m (range_with_len 0 (length m.traffic)) ≡ None
  pub stamps : find (stamps_broken (dirs_at m)) (range_with_len 0 (length m.traffic)) ≡ None
  pub keys : broken_key m [] 0 m.ops ≡ None

abbrev stamp_refusal : MachineValue → Option StateRefusal
stamp_refusal m = option_map (λ bus. BrokenStamp bus) (find (stamps_broken (dirs_at m)) (range_with_len 0 (length m.traffic)))

pub none_broken : (m : MachineValue) → judged m ≡ None → NoneBroken m
unfolding judged
none_broken m e =
    let rest = first_some-none_second (broken_among m (range_with_len 0 (length m.traffic))) (first_some (stamp_refusal m) (broken_key m [] 0 m.ops)) e in
    record {
      buses = first_some-none_first (broken_among m (range_with_len 0 (length m.traffic))) (first_some (stamp_refusal m) (broken_key m [] 0 m.ops)) e;
      stamps = mapped_none (λ bus. BrokenStamp bus) _ (first_some-none_first (stamp_refusal m) (broken_key m [] 0 m.ops) rest);
      keys = first_some-none_second (stamp_refusal m) (broken_key m [] 0 m.ops) rest;
    }

pub broken_none : (m : MachineValue) → NoneBroken m → judged m ≡ None
unfolding judged
broken_none m b =
    let stamps : stamp_refusal m ≡ None = none_mapped (λ bus. BrokenStamp bus) _ b.stamps in
    rw (b.buses, stamps) b.keys

-- ---- time

timed-each : (m : MachineValue) → IsRead m → StampsTimed m → KeysTimed m → (r : TimeRule) → Holds (time_rule r m)
timed-each m read stamps keys keys_differ = keys.differ
timed-each m read stamps keys ops_of_leaves = read.leaves
timed-each m read stamps keys keys_end = read.keys
timed-each m read stamps keys keys_have_paths = keys.paths
timed-each m read stamps keys keys_are_past = keys.past
timed-each m read stamps keys taken_is_past = stamps.taken
timed-each m read stamps keys stamps_between = stamps.between
timed-each m read stamps keys stamps_rise = stamps.rise
timed-each m read stamps keys stamps_end = read.stamps
timed-each m read stamps keys epochs_end = read.epochs

-- ---- both ways

pub judged_states_keep_the_rules : (m : MachineValue) → IsShaped m → IsRead m → judged m ≡ None → IsMachineOk m × IsTimed m
judged_states_keep_the_rules m shaped read e =
    let b = none_broken m e in (
      buses-keep m shaped read.parts read.top b.buses,
      record { each = timed-each m read (stamps-timed m shaped b.stamps) (keys-timed m b.keys) },
    )

pub kept_rules_are_judged_so : (m : MachineValue) → IsMachineOk m → IsTimed m → judged m ≡ None
kept_rules_are_judged_so m ok timed = broken_none m (record { buses = keep-buses m ok; stamps = timed-stamps m timed; keys = timed-keys m timed })
