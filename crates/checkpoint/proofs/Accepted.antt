-- A file that is accepted is what is saved of the machine that it gives.
-- Letters: ws are the words of the file, vs those behind the first two, s the sizes of the machine.
use Rattle.std.specs.Prelude.{◌≡◌, ℕ, zero, suc, ◌+◌, ◌*◌, ◌/◌, ◌<◌, ◌≤◌, true, false, nat_eq, nat_lt, List, [], ◌∷◌, ◌++◌, length, drop, take, Option, Some, None, Result, Ok, Err, slice_index, refl, if◌then◌else◌}
use Rattle.std.specs.List.{AllByRecursion, flat_map}
use Rattle.std.specs.Int.{w32, to_le_bytes}
use Rattle.std.proofs.Common.{ap, sym, ◌∙◌, arith, length-append, append-nil, true≢false}
use Rattle.std.proofs.lemmas.Bool.{eqb-true, ltb-false}
use Rattle.std.proofs.lemmas.List.{nil_from_length, take_all}
use Rattle.checkpoint.specs.TreeModel.State.Values.{Node, Nodes, leaf_node, dir_node, no_nodes, more_nodes, MachineValue, root_of}
use Rattle.checkpoint.specs.TreeModel.State.Shape.{Skeleton, Skeletons, leaf_bone, dir_bone, no_bones, more_bones, skeleton, skeletons, Frame, frame_of, leaf_numbers_of, buses_of}
use Rattle.checkpoint.specs.TreeModel.State.Lists.{first_some}
use Rattle.checkpoint.proofs.TreeModel.Tests.{first_some-none_first, first_some-none_second}
use Rattle.checkpoint.specs.DdmTypes.ItemTable.{item_count}
use Rattle.checkpoint.specs.TextModel.declared.RunCounts.{RunCounts}
use Rattle.checkpoint.specs.StateWords.declared.MachineSizes.{MachineSizes}
use Rattle.checkpoint.specs.StateWords.Machine.{way_count_of, first_way_count, sizes_of, state_words, head_words, checkpoint_words, checkpoint_bytes}
use Rattle.checkpoint.specs.StateReading.declared.StateRefusal.{StateRefusal}
use Rattle.checkpoint.specs.StateReading.Reading.{Read, and_then}
use Rattle.checkpoint.specs.StateReading.Machine.{read_words}
use Rattle.checkpoint.specs.StateJudging.Judged.{judged, unless_judged, read_state}
use Rattle.checkpoint.specs.StateJudging.Read.{CanRead}
use Rattle.checkpoint.proofs.StateJudging.MachineRead.{what_is_read}
use Rattle.spelling_laws.proofs.Machine.{accepted-spelled}
use Rattle.checkpoint.specs.declared.ResumeRefusal.{ResumeRefusal}
use Rattle.checkpoint.specs.Saved.{saved}
use Rattle.checkpoint.specs.Resumed.{whole_words, size_words, other_machine, bad_count, bad_head, Resumed, resumed_by, counts_in, resumed_unless, bad_name, resumed}
use Rattle.checkpoint.proofs.Bytes.{bytes-again, words-many}

-- ---- the head

sizes-there : (ns : List ℕ) (k : ℕ) (ws : List ℕ) → other_machine ns k ws ≡ None → ws ≡ ns ++ drop (length ns) ws
sizes-there [] k ws e = refl
sizes-there (n ∷ ns) k [] e = cc
sizes-there (n ∷ ns) k (w ∷ ws) e =
    let first = first_some-none_first (if nat_eq w n then None else Some (ResumeRefusal.OtherMachine k)) (other_machine ns (k + 1) ws) e in
    let more = sizes-there ns (k + 1) ws (first_some-none_second (if nat_eq w n then None else Some (ResumeRefusal.OtherMachine k)) (other_machine ns (k + 1) ws) e) in
    ap (λ x. x ∷ ws) (same first) ∙ ap (λ l. n ∷ l) more
  where
    same : (if nat_eq w n then None else Some (ResumeRefusal.OtherMachine k)) ≡ None → w ≡ n
    same e =
        elim (nat_eq w n) as (λ b. nat_eq w n ≡ b → (if b then None else Some (ResumeRefusal.OtherMachine k)) ≡ None → w ≡ n) [
          | true ↦ λ is e. eqb-true w n is
          | false ↦ λ is e. cc
        ] refl e

count-there : (k j : ℕ) (ws : List ℕ) → bad_count k (drop j ws) ≡ None → drop j ws ≡ slice_index ws j ∷ drop (suc j) ws
count-there k zero [] e = cc
count-there k (suc j) [] e = cc
count-there k zero (w ∷ ws) e = refl
count-there k (suc j) (w ∷ ws) e = count-there k j ws e

module _ (s : MachineSizes) where
  abbrev head_from : List ℕ → List ℕ
  head_from ws = head_words s (slice_index ws 7) (slice_index ws 8) (slice_index ws 9) (slice_index ws 10)

  head-there : (ws : List ℕ) → nat_eq (slice_index ws 0) 0x434d4444 ≡ true → nat_eq (slice_index ws 1) 1 ≡ true → bad_head s ws ≡ None → ws ≡ head_from ws ++ drop 11 ws
  unfolding head_words
  head-there [] name version e = absurd (true≢false (sym name))
  head-there (a ∷ []) name version e = absurd (true≢false (sym version))
  head-there (a ∷ b ∷ vs) name version e =
      let sizes_rest = first_some (bad_count 7 (drop 5 vs)) (first_some (bad_count 8 (drop 6 vs)) (first_some (bad_count 9 (drop 7 vs)) (bad_count 10 (drop 8 vs)))) in
      let e0 = first_some-none_first (other_machine (size_words s) 2 vs) sizes_rest e in
      let e1 = first_some-none_second (other_machine (size_words s) 2 vs) sizes_rest e in
      let turns = first_some-none_first (bad_count 7 (drop 5 vs)) _ e1 in
      let e2 = first_some-none_second (bad_count 7 (drop 5 vs)) _ e1 in
      let retired = first_some-none_first (bad_count 8 (drop 6 vs)) _ e2 in
      let e3 = first_some-none_second (bad_count 8 (drop 6 vs)) _ e2 in
      let granted = first_some-none_first (bad_count 9 (drop 7 vs)) (bad_count 10 (drop 8 vs)) e3 in
      let busy = first_some-none_second (bad_count 9 (drop 7 vs)) (bad_count 10 (drop 8 vs)) e3 in
      let sizes : vs ≡ size_words s ++ drop 5 vs = sizes-there (size_words s) 2 vs e0 in
      let c7 : drop 5 vs ≡ slice_index vs 5 ∷ drop 6 vs = count-there 7 5 vs turns in
      let c8 : drop 6 vs ≡ slice_index vs 6 ∷ drop 7 vs = count-there 8 6 vs retired in
      let c9 : drop 7 vs ≡ slice_index vs 7 ∷ drop 8 vs = count-there 9 7 vs granted in
      let c10 : drop 8 vs ≡ slice_index vs 8 ∷ drop 9 vs = count-there 10 8 vs busy in
      let counts : drop 5 vs ≡ slice_index vs 5 ∷ slice_index vs 6 ∷ slice_index vs 7 ∷ slice_index vs 8 ∷ drop 9 vs =
      c7 ∙ ap (λ l. slice_index vs 5 ∷ l) (c8 ∙ ap (λ l. slice_index vs 6 ∷ l) (c9 ∙ ap (λ l. slice_index vs 7 ∷ l) c10)) in
      ap (λ x. x ∷ b ∷ vs) (eqb-true a 0x434d4444 name) ∙ ap (λ x. 0x434d4444 ∷ x ∷ vs) (eqb-true b 1 version) ∙ ap (λ l. 0x434d4444 ∷ 1 ∷ l) (sizes ∙ ap (λ l. size_words s ++ l) counts)

record IsNamed (ws : List ℕ) : Type 0 where
  name : nat_eq (slice_index ws 0) 0x434d4444 ≡ true
  version : nat_eq (slice_index ws 1) 1 ≡ true

abbrev by_words : List ℕ → Option ResumeRefusal
by_words ws = if nat_eq (slice_index ws 0) 0x434d4444 then (if nat_eq (slice_index ws 1) 1 then None else Some (ResumeRefusal.WrongVersion (slice_index ws 1))) else Some ResumeRefusal.NotCheckpoint

named-by : (ws : List ℕ) → by_words ws ≡ None → IsNamed ws
named-by ws e =
    elim (nat_eq (slice_index ws 0) 0x434d4444) as (λ b. nat_eq (slice_index ws 0) 0x434d4444 ≡ b → (if b then (if nat_eq (slice_index ws 1) 1 then None else Some (ResumeRefusal.WrongVersion (slice_index ws 1))) else Some ResumeRefusal.NotCheckpoint) ≡ None → IsNamed ws) [
      | false ↦ λ name e. cc
      | true ↦ λ name e.
          elim (nat_eq (slice_index ws 1) 1) as (λ b. nat_eq (slice_index ws 1) 1 ≡ b → (if b then None else Some (ResumeRefusal.WrongVersion (slice_index ws 1))) ≡ None → IsNamed ws) [
            | true ↦ λ version e. record { name = name; version = version }
            | false ↦ λ version e. cc
          ] refl e
    ] refl e

named : (bytes : ℕ) (ws : List ℕ) → bad_name bytes ws ≡ None → IsNamed ws
named bytes ws e =
    elim (nat_lt 536870912 bytes) as (λ b. (if b then Some ResumeRefusal.TooLong else (if nat_lt bytes 8 then Some ResumeRefusal.NotCheckpoint else by_words ws)) ≡ None → IsNamed ws) [
      | true ↦ λ e. cc
      | false ↦ λ e.
          elim (nat_lt bytes 8) as (λ b. (if b then Some ResumeRefusal.NotCheckpoint else by_words ws) ≡ None → IsNamed ws) [
            | true ↦ λ e. cc
            | false ↦ λ e. named-by ws e
          ] e
    ] e

-- ---- the state

record StateRead (fresh : MachineValue) (retired : ℕ) (ws : List ℕ) (q : Read MachineValue) : Type 0 where
  is : read_words fresh retired 11 ws ≡ Ok q

judged-read : (m : MachineValue) (o : Option StateRefusal) (k : ℕ) (ws : List ℕ) (q : Read MachineValue) → unless_judged o m k ws ≡ Ok q → record { value = m; at = k; rest = ws } ≡ q
judged-read m None k ws q e = cc
judged-read m (Some r) k ws q e = cc

state-read : (fresh : MachineValue) (retired : ℕ) (ws : List ℕ) (q : Read MachineValue) → read_state fresh retired 11 ws ≡ Ok q → StateRead fresh retired ws q
unfolding read_state
state-read fresh retired ws q e =
    elim (read_words fresh retired 11 ws) as (λ r. read_words fresh retired 11 ws ≡ r → and_then r (λ m k ws. unless_judged (judged m) m k ws) ≡ Ok q → StateRead fresh retired ws q) [
      | Ok p ↦ λ is e. let same : p ≡ q = judged-read p.value (judged p.value) p.at p.rest q e in record { is = is ∙ ap (λ p. Ok p) same }
      | Err r ↦ λ is e. cc
    ] refl e

record EndRead (bytes : ℕ) (counts : RunCounts) (state : Result (Read MachineValue) StateRefusal) (r : Resumed) : Type 0 where
  read : Read MachineValue
  is : state ≡ Ok read
  all : bytes ≤ 4 * read.at
  gives : r ≡ record { machine = read.value; counts = counts }

end-read : (bytes : ℕ) (counts : RunCounts) (state : Result (Read MachineValue) StateRefusal) (r : Resumed) → resumed_by bytes counts state ≡ Ok r → EndRead bytes counts state r
end-read bytes counts (Err e) r is = cc
end-read bytes counts (Ok q) r is =
    elim (nat_lt (4 * q.at) bytes) as (λ b. nat_lt (4 * q.at) bytes ≡ b → (if b then Err ResumeRefusal.AfterEnd else Ok (record { machine = q.value; counts = counts })) ≡ Ok r → EndRead bytes counts (Ok q) r) [
      | true ↦ λ past is. cc
      | false ↦ λ past is. let same : record { machine = q.value; counts = counts } ≡ r = cc in record { read = q; is = refl; all = ltb-false (4 * q.at) bytes past; gives = sym same }
    ] refl is

record NoneBroken (m : MachineValue) (bytes : ℕ) (ws : List ℕ) (r : Resumed) : Type 0 where
  named : IsNamed ws
  head : bad_head (sizes_of m) ws ≡ None
  ends : resumed_by bytes (counts_in ws) (read_state m (slice_index ws 8) 11 (drop 11 ws)) ≡ Ok r

none-broken : (m : MachineValue) (bytes : ℕ) (ws : List ℕ) (r : Resumed) → resumed_unless (first_some (bad_name bytes ws) (bad_head (sizes_of m) ws)) m bytes ws ≡ Ok r → NoneBroken m bytes ws r
none-broken m bytes ws r e =
    elim (first_some (bad_name bytes ws) (bad_head (sizes_of m) ws)) as (λ o. first_some (bad_name bytes ws) (bad_head (sizes_of m) ws) ≡ o → resumed_unless o m bytes ws ≡ Ok r → NoneBroken m bytes ws r) [
      | Some x ↦ λ none e. cc
      | None ↦ λ none e. record { named = named bytes ws (first_some-none_first (bad_name bytes ws) (bad_head (sizes_of m) ws) none); head = first_some-none_second (bad_name bytes ws) (bad_head (sizes_of m) ws) none; ends = e }
    ] refl e

-- ---- sizes of machines of one frame

abbrev mutual
  bone_ways : Skeleton → ℕ
  bone_ways (leaf_bone number sizes) = sizes.way_count
  bone_ways (dir_bone bus level sizes bones) = first_ways bones

  first_ways : Skeletons → ℕ
  first_ways no_bones = 0
  first_ways (more_bones b bs) = bone_ways b

mutual
  ways-bone : (n : Node) → way_count_of n ≡ bone_ways (skeleton n)
  ways-bone (leaf_node v) = refl
  ways-bone (dir_node d ns) = ways-first ns

  ways-first : (ns : Nodes) → first_way_count ns ≡ first_ways (skeletons ns)
  ways-first no_nodes = refl
  ways-first (more_nodes n ns) = ways-bone n

abbrev pub frame_sizes : Frame → MachineSizes
frame_sizes f = record { leaves = length (leaf_numbers_of f.bones []); buses = length (buses_of f.bones []); items = item_count f.items; item_words = f.items.size / 4; ways = bone_ways f.bones }

pub sizes-framed : (m : MachineValue) → sizes_of m ≡ frame_sizes (frame_of m)
sizes-framed m = ap (λ w. record { leaves = length (leaf_numbers_of (skeleton (root_of m)) []); buses = length (buses_of (skeleton (root_of m)) []); items = item_count m.items; item_words = m.items.size / 4; ways = w }) (ways-bone (root_of m))

head-long : (s : MachineSizes) (turns retired granted busy : ℕ) → length (head_words s turns retired granted busy) ≡ 11
unfolding head_words
head-long s turns retired granted busy = refl

-- ---- the file

pub accepted-saved : (fresh : MachineValue) (bytes : List ℕ) (r : Resumed) → CanRead fresh → AllByRecursion (λ b. b < 256) bytes → resumed fresh bytes ≡ Ok r → saved r.machine r.counts ≡ bytes
unfolding resumed checkpoint_bytes checkpoint_words
accepted-saved fresh bytes r can small e =
    let ws = whole_words bytes in
    let none = none-broken fresh (length bytes) ws r e in
    let end = end-read (length bytes) (counts_in ws) (read_state fresh (slice_index ws 8) 11 (drop 11 ws)) r none.ends in
    let state = state-read fresh (slice_index ws 8) (drop 11 ws) end.read end.is in
    let m = end.read.value in
    let spelled = accepted-spelled fresh m (slice_index ws 8) 11 end.read.at (drop 11 ws) end.read.rest can state.is in
    let frame : frame_of m ≡ frame_of fresh = (what_is_read fresh m (slice_index ws 8) 11 end.read.at (drop 11 ws) end.read.rest can state.is).1 in
    let sizes : sizes_of fresh ≡ sizes_of m = sizes-framed fresh ∙ ap frame_sizes (sym frame) ∙ sym (sizes-framed m) in
    let head = head-there (sizes_of fresh) ws none.named.name none.named.version none.head in
    let head_long : length (head_words (sizes_of fresh) (slice_index ws 7) (slice_index ws 8) (slice_index ws 9) (slice_index ws 10)) ≡ 11 = head-long (sizes_of fresh) (slice_index ws 7) (slice_index ws 8) (slice_index ws 9) (slice_index ws 10) in
    let long : length ws ≡ 11 + length (drop 11 ws) = ap length head ∙ length-append _ (drop 11 ws) ∙ ap (λ n. n + length (drop 11 ws)) head_long in
    let rest_long : length (drop 11 ws) ≡ length (state_words m) + length end.read.rest = ap length spelled.0 ∙ length-append (state_words m) end.read.rest in
    let many = words-many bytes in
    let none_left : length end.read.rest ≡ 0 = omega (arith, many, long, rest_long, spelled.1, end.all) in
    let all_bytes : 4 * (length bytes / 4) ≡ length bytes = omega (arith, many, long, rest_long, spelled.1, end.all) in
    let words : drop 11 ws ≡ state_words m = spelled.0 ∙ ap (λ l. state_words m ++ l) (nil_from_length end.read.rest none_left) ∙ append-nil (state_words m) in
    let file : head_words (sizes_of m) (slice_index ws 7) (slice_index ws 8) (slice_index ws 9) (slice_index ws 10) ++ state_words m ≡ ws =
    ap (λ s. head_words s (slice_index ws 7) (slice_index ws 8) (slice_index ws 9) (slice_index ws 10) ++ state_words m) (sym sizes)
    ∙ ap (λ l. head_words (sizes_of fresh) (slice_index ws 7) (slice_index ws 8) (slice_index ws 9) (slice_index ws 10) ++ l) (sym words) ∙ sym head in
    ap (λ r. saved r.machine r.counts) end.gives ∙ ap (flat_map (to_le_bytes w32)) file ∙ bytes-again bytes small ∙ ap (λ n. take n bytes) all_bytes ∙ take_all (length bytes) bytes (omega arith)
