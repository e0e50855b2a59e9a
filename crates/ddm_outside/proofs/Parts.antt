-- A part that was copied is the file's bytes there.
use Rattle.std.proofs.Common.{◌≡◌, ℕ, ◌≤◌, suc, zero, refl, List, [], ◌++◌, ◌+◌, length, take, drop, sym, ap, ◌∙◌}
use Rattle.std.proofs.lemmas.List.{take-append-drop, drop-drop, take_at}
use Rattle.ddm_outside.specs.Telling.{ReadsPart}

pub copied_part : (file copy tail : List ℕ) (at n : ℕ) → length copy ≡ n → copy ≡ take n (drop at file) → (n ≡ 0 → drop at file ≡ []) → (length file ≤ at → n ≡ 0) → ReadsPart file at n (copy ++ tail)
copied_part file copy tail at n size is ends only = record {
  bytes = sym (take-append-drop n (drop at file)) ∙ ap (λ t. t ++ drop n (drop at file)) (sym is ∙ sym (take_at copy tail n size)) ∙ ap (λ t. take n (copy ++ tail) ++ t) (drop-drop n at file);
  ends = ends;
  only = only;
}

drop_none : (n : ℕ) → drop {A = ℕ} n [] ≡ []
drop_none zero = refl
drop_none (suc n) = refl

-- nothing is read of an empty file
pub empty_part : (at : ℕ) (into : List ℕ) → ReadsPart [] at 0 into
empty_part at into = record {
  bytes = drop_none at ∙ sym (drop_none (at + 0));
  ends = λ _. drop_none at;
  only = λ _. refl;
}
