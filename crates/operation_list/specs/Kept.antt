-- How operations are kept: what several of them share stands once.
use Rattle.std.specs.Prelude.{◌≡◌, ℕ, ◌+◌, ◌<◌, ◌≤◌, All, List, ◌++◌, length, slice_index_or}
use Rattle.ddm_types.specs.declared.keys.Key.{Key}
use Rattle.ddm_types.specs.declared.operations.Op.{Op}
use Rattle.operation_list.specs.declared.moments.Brief.{Brief}
use Rattle.operation_list.specs.declared.moments.Moment.{Moment}

-- what a contract sees of them: the operations, and for how many more there is memory
pub record OpList : Type 0 where
  pub items : List Op
  pub spare : ℕ

abbrev pub moment_of : Op → Moment
moment_of op = record {
  s0 = op.key.s0;
  c0 = op.key.c0;
  s1 = op.key.s1;
  c1 = op.key.c1;
  s2 = op.key.s2;
  c2 = op.key.c2;
  s3 = op.key.s3;
  c3 = op.key.c3;
  hart = op.hart;
}

abbrev pub no_moment : Moment
no_moment = record { s0 = 0; c0 = 0; s1 = 0; c1 = 0; s2 = 0; c2 = 0; s3 = 0; c3 = 0; hart = 0 }

-- the key of its operation with this last number
abbrev pub key_at : Moment → ℕ → Key
key_at m n = record { s0 = m.s0; c0 = m.c0; s1 = m.s1; c1 = m.c1; s2 = m.s2; c2 = m.c2; s3 = m.s3; c3 = m.c3; i = n }

-- the operation that was kept as this
abbrev pub op_of : List Moment → Brief → Op
op_of moments brief =
    let m = slice_index_or moments brief.moment no_moment in
    record { key = key_at m brief.i; hart = m.hart; pc = brief.pc; effect = brief.effect }

-- as this the operation is kept, with the moment of this number
abbrev pub brief_of : ℕ → Op → Brief
brief_of n op = record { moment = n; i = op.key.i; pc = op.pc; effect = op.effect }

-- this is the moment of this number
pub record is_at (moments : List Moment) (number : ℕ) (moment : Moment) : Type 0 where
  pub there : number < length moments
  pub same : slice_index_or moments number no_moment ≡ moment

-- these moments begin with the others, and there is at most one more
pub record Extends (old new : List Moment) : Type 0 where
  pub more : List Moment
  pub behind : new ≡ old ++ more
  pub few : length more ≤ 1

-- the moment of each is there
abbrev pub HaveMoments : List Moment → List Brief → Type 0
HaveMoments moments briefs = All (λ (b : Brief). b.moment < length moments) briefs

-- there is memory for so many more of both, and each moment's number fits into a word
pub record HasRoom (briefs moments spare room_for_briefs room_for_moments : ℕ) : Type 0 where
  pub fewer : moments ≤ briefs
  pub for_briefs : briefs + spare ≤ room_for_briefs
  pub for_moments : briefs + spare ≤ room_for_moments
  pub numbered : briefs + spare ≤ 4294967295
