-- What a file is read as, from what was said of its head and of the state behind it.
-- Letters: m is a machine, bytes is a file, r is what was read of its words.
use Rattle.std.specs.Prelude.{◌≡◌, ◌≢◌, ◌*◌, ◌<◌, ◌≤◌, ℕ, List, Some, None, Result, Ok, Err, drop, length, slice_index, if◌then◌else◌}
use Rattle.std.proofs.Common.{ap, subst, sym, ◌∙◌}
use Rattle.std.proofs.lemmas.Bool.{lt-ltb, le-ltb}
use Rattle.checkpoint.specs.TreeModel.State.Values.{MachineValue}
use Rattle.checkpoint.specs.TextModel.declared.RunCounts.{RunCounts}
use Rattle.checkpoint.specs.StateWords.declared.MachineSizes.{MachineSizes}
use Rattle.checkpoint.specs.StateWords.Machine.{sizes_of}
use Rattle.checkpoint.specs.StateReading.declared.StateRefusal.{StateRefusal}
use Rattle.checkpoint.specs.StateReading.Reading.{Read}
use Rattle.checkpoint.specs.StateJudging.Judged.{read_state}
use Rattle.checkpoint.specs.declared.ResumeRefusal.{ResumeRefusal}
use Rattle.checkpoint.specs.Resumed.{Resumed, counts_in, file_refusal, judged_head, resumed, resumed_by, resumed_unless, whole_words}

module _ (m : MachineValue) (bytes : List ℕ) where
  abbrev state : List ℕ → Result (Read MachineValue) StateRefusal
  state ws = read_state m (slice_index ws 8) 11 (drop 11 ws)

  pub by-head : (s : MachineSizes) → s ≡ sizes_of m → (e : ResumeRefusal) → judged_head s bytes ≡ Some e → resumed m bytes ≡ Err e
  unfolding resumed
  by-head s same e refused =
      ap (λ o. resumed_unless o m (length bytes) (whole_words bytes)) (subst (λ s. judged_head s bytes ≡ Some e) same refused)

  -- the sizes are those of the machine, the words those of the file, and its head is one
  pub record Fits (s : MachineSizes) (ws : List ℕ) : Type 0 where
    pub sizes : s ≡ sizes_of m
    pub head : judged_head s bytes ≡ None
    pub words : ws ≡ whole_words bytes

  by-state : (s : MachineSizes) (ws : List ℕ) → Fits s ws → (t : Result (Read MachineValue) StateRefusal) → state ws ≡ t → resumed m bytes ≡ resumed_by (length bytes) (counts_in (whole_words bytes)) t
  unfolding resumed
  by-state s ws fits t is =
      ap (λ o. resumed_unless o m (length bytes) (whole_words bytes)) (subst (λ s. judged_head s bytes ≡ None) fits.sizes fits.head)
      ∙ ap (resumed_by (length bytes) (counts_in (whole_words bytes))) (subst (λ ws. state ws ≡ t) fits.words is)

  pub refused-by-state : (s : MachineSizes) (ws : List ℕ) → Fits s ws → (e : StateRefusal) → state ws ≡ Err e → resumed m bytes ≡ Err (file_refusal e)
  refused-by-state s ws fits e is = by-state s ws fits (Err e) is

  abbrev if_ends : Read MachineValue → RunCounts → Result Resumed ResumeRefusal
  if_ends r k = Ok (record { machine = r.value; counts = k })

  pub refused-behind-end : (s : MachineSizes) (ws : List ℕ) → Fits s ws → (r : Read MachineValue) → state ws ≡ Ok r → 4 * r.at < length bytes → resumed m bytes ≡ Err ResumeRefusal.AfterEnd
  refused-behind-end s ws fits r is more =
      by-state s ws fits (Ok r) is ∙ ap (λ b. if b then Err ResumeRefusal.AfterEnd else if_ends r (counts_in (whole_words bytes))) (lt-ltb (4 * r.at) (length bytes) more)

  pub accepted-at-end : (s : MachineSizes) (ws : List ℕ) → Fits s ws → (k : RunCounts) → k ≡ counts_in (whole_words bytes) → (r : Read MachineValue) → state ws ≡ Ok r → length bytes ≤ 4 * r.at → resumed m bytes ≡ if_ends r k
  accepted-at-end s ws fits k counts r is ends =
      by-state s ws fits (Ok r) is
      ∙ ap (λ b. if b then Err ResumeRefusal.AfterEnd else if_ends r (counts_in (whole_words bytes))) (le-ltb (4 * r.at) (length bytes) ends)
      ∙ ap (if_ends r) (sym counts)

pub not-memory : (e : StateRefusal) → file_refusal e ≢ ResumeRefusal.NoMemory → e ≢ StateRefusal.NoMemory
not-memory e other same = other (ap file_refusal same)
