-- The leaves of a test's threads as they are kept: with zeros up to 64 numbers.
use Rattle.std.proofs.Common.{ℕ, ◌≡◌, ◌-◌, ◌≤◌, List, ◌++◌, length, take, drop, arith, refl}
use Rattle.std.specs.Prelude.{replicate}
use Rattle.std.proofs.lemmas.List.{length-take-le, take-append-drop}
use Rattle.litmus_files.specs.declared.places.Places.TheInside.{Inside}

pub record IsPadded (p : Inside) : Type 0 where
  pub short : p.count ≤ 64
  pub whole : length p.leaves ≡ 64
  pub zeros : drop p.count p.leaves ≡ replicate (64 - p.count) 0

abbrev pub inside : List ℕ → Inside
inside leaves = record { leaves = leaves ++ replicate (64 - length leaves) 0; count = length leaves }

pub padded_back : (p : Inside) → IsPadded p → inside (take p.count p.leaves) ≡ p
padded_back p h =
    let e : length (take p.count p.leaves) ≡ p.count =
    length-take-le p.count p.leaves (omega (arith, h.short, h.whole)) in
    rw (e, ← h.zeros, take-append-drop p.count p.leaves) refl
