-- The bytes of a name as they are kept: with zeros up to 127 bytes.
use Rattle.std.proofs.Common.{ℕ, ◌≡◌, ◌+◌, ◌-◌, ◌≤◌, List, ◌++◌, length, take, drop, arith, refl, length-append}
use Rattle.std.specs.Prelude.{replicate}
use Rattle.std.proofs.lemmas.List.{length-replicate, length-take-le, take_at, drop-replicate}
use Rattle.litmus_model.specs.declared.name.Name.TheInside.{Inside}

abbrev pub padded : List ℕ → List ℕ
padded bytes = bytes ++ replicate (127 - length bytes) 0

pub record IsPadded (n : Inside) : Type 0 where
  pub short : n.count ≤ 127
  pub whole : length n.bytes ≡ 127
  pub zeros : n.bytes ≡ take n.count n.bytes ++ replicate (127 - n.count) 0

abbrev pub inside : List ℕ → Inside
inside bytes = record { bytes = padded bytes; count = length bytes }

pub padded_back : (a : Inside) → IsPadded a → inside (take a.count a.bytes) ≡ a
padded_back a h =
    let e : length (take a.count a.bytes) ≡ a.count = length-take-le a.count a.bytes (omega (arith, h.short, h.whole)) in
    rw (e, ← h.zeros) refl

pub front_of_padded : (bytes : List ℕ) → take (length bytes) (padded bytes) ≡ bytes
front_of_padded bytes = take_at bytes (replicate (127 - length bytes) 0) (length bytes) refl

pub is_padded : (bytes : List ℕ) → length bytes ≤ 127 → IsPadded (inside bytes)
is_padded bytes h = record {
  short = h;
  whole = rw (length-append, length-replicate) (omega arith);
  zeros = rw front_of_padded refl;
}

pub zeros_after : (n : ℕ) (bytes : List ℕ) → n ≡ length bytes → bytes ++ drop n (replicate 127 0) ≡ padded bytes
zeros_after n bytes e = rw (drop-replicate, e) refl
