-- A byte of memory is that of the first segment that has it.
use Rattle.std.proofs.Common.{◌≡◌, ℕ, zero, suc, ◌+◌, ◌-◌, ◌<◌, ◌≤◌, Bool, true, false, ◌&&◌, List, [], ◌∷◌, length, drop, slice_index_or, refl, sym, arith, add-one}
use Rattle.std.specs.Prelude.{nat_le, nat_lt}
use Rattle.start_memory.specs.TreeModel.Start.Sources.{SegmentValue}
use Rattle.start_memory.specs.TreeModel.Start.Memory.{byte_at}

abbrev pub has : ℕ → SegmentValue → Bool
has a s = nat_le s.vaddr a && nat_lt a (s.vaddr + s.memsz)

pub byte_at-none : (a : ℕ) → byte_at [] a ≡ 0
unfolding byte_at
byte_at-none a = refl

pub byte_at-here : (s : SegmentValue) (ss : List SegmentValue) (a : ℕ) → has a s ≡ true → byte_at (s ∷ ss) a ≡ slice_index_or s.bytes (a - s.vaddr) 0
unfolding byte_at
byte_at-here s ss a here = rw here refl

byte_at-past : (s : SegmentValue) (ss : List SegmentValue) (a : ℕ) → has a s ≡ false → byte_at (s ∷ ss) a ≡ byte_at ss a
unfolding byte_at
byte_at-past s ss a past = rw past refl

-- the segment at k has the byte, and none before it
pub rest_has : (segments : List SegmentValue) (k : ℕ) (e : SegmentValue) (a : ℕ) → k < length segments → e ≡ slice_index_or segments k e → has a e ≡ true
    → byte_at (drop k segments) a ≡ slice_index_or e.bytes (a - e.vaddr) 0
rest_has [] k e a inside is here = absurd (omega (arith, inside))
rest_has (s ∷ ss) zero e a inside is here = rw (sym is) (byte_at-here e ss a here)
rest_has (s ∷ ss) (suc k) e a inside is here = rest_has ss k e a (omega (arith, inside)) is here

past_suc : (segments : List SegmentValue) (k : ℕ) (e : SegmentValue) (a : ℕ) → k < length segments → e ≡ slice_index_or segments k e → has a e ≡ false
    → byte_at (drop k segments) a ≡ byte_at (drop (suc k) segments) a
past_suc [] k e a inside is past = absurd (omega (arith, inside))
past_suc (s ∷ ss) zero e a inside is past = rw (sym is) (byte_at-past e ss a past)
past_suc (s ∷ ss) (suc k) e a inside is past = past_suc ss k e a (omega (arith, inside)) is past

-- the segment at k doesn't have the byte
pub rest_past : (segments : List SegmentValue) (k : ℕ) (e : SegmentValue) (a : ℕ) → k < length segments → e ≡ slice_index_or segments k e → has a e ≡ false
    → byte_at (drop k segments) a ≡ byte_at (drop (k + 1) segments) a
rest_past segments k e a inside is past = rw add-one (past_suc segments k e a inside is past)

drop-past : (segments : List SegmentValue) (k : ℕ) → length segments ≤ k → drop k segments ≡ []
drop-past [] zero all = refl
drop-past [] (suc k) all = refl
drop-past (s ∷ ss) zero all = absurd (omega (arith, all))
drop-past (s ∷ ss) (suc k) all = drop-past ss k (omega (arith, all))

-- no segment has the byte
pub rest_none : (segments : List SegmentValue) (k : ℕ) (a : ℕ) → length segments ≤ k → byte_at (drop k segments) a ≡ 0
rest_none segments k a all = rw (drop-past segments k all) (byte_at-none a)
