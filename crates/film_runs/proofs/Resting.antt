-- Where a turn changed nothing, its film has no part.
-- Letters: p is a part, m a machine, t a turn.
use Rattle.std.proofs.Common.{◌≡◌, ℕ, zero, suc, Bool, true, false, cond, List, [], ◌∷◌, ◌++◌, flat_map, map, Some, refl, sym, ap, ◌∙◌, append-nil}
use Rattle.std.specs.Prelude.{is_some, not, slice_get}
use Rattle.std.proofs.lemmas.Slice.Eq.{bytes_eq-Decides}
use Rattle.recording_model.specs.Doing.{does_by, does_something, had_halted, is_halted}
use Rattle.recording_model.proofs.Doing.{turn-rests}
use Rattle.film.proofs.DdmTree.LeafList.{leaf-listed}
use Rattle.film.proofs.TreeModel.NamedNode.{read_in-is_some}
use Rattle.film.specs.RvHart.HartState.{HartState}
use Rattle.film_runs.specs.DdmText.Adds.{Adds}
use Rattle.film_runs.specs.DdmTree.Machine.{is_part}
use Rattle.film_runs.specs.DdmTree.Reads.{counted_hart_of}
use Rattle.film_runs.specs.DdmTypes.declared.answers.TurnAnswer.{TurnAnswer}
use Rattle.film_runs.specs.DdmTypes.declared.turns.Turn.{Turn}
use Rattle.film_runs.specs.FilmModel.Part.{Part, changed, changes, part_line}
use Rattle.film_runs.specs.FilmModel.Still.{still}
use Rattle.film_runs.specs.Resting.{one_rests}
use Rattle.film_runs.specs.TreeModel.State.Blank.{no_hart}
use Rattle.film_runs.specs.TreeModel.State.Place.{at_top, key_at_leaf}
use Rattle.film_runs.specs.TreeModel.State.Shape.{IsShaped}
use Rattle.film_runs.specs.TreeModel.State.Values.{LeafValue, MachineValue, root_of}
use Rattle.film_runs.specs.TreeModel.Turns.Machine.{hart_of, machine_leaves, now_of, turn_of}
use Rattle.film_runs.specs.TreeModel.Turns.Tree.{leaf_of_number, of_leaf}

-- ---- parts that are the same

pub no_changes : (ps : List Part) → changes ps ps ≡ []
no_changes [] = refl
no_changes (p ∷ ps) = ap (λ (same : Bool). cond same (changes ps ps) (p ∷ changes ps ps)) ((bytes_eq-Decides p.value p.value).1 refl) ∙ no_changes ps

pub nothing_told : (text : List ℕ) (before now : List Part) → before ≡ now → Adds text text (changed before now)
unfolding changed
nothing_told text before now same =
    let none : changed before now ≡ [] = ap (λ (ps : List Part). changed ps now) same ∙ ap (flat_map part_line) (no_changes now) in
    record { is = sym (append-nil text) ∙ ap (λ (bytes : List ℕ). text ++ bytes) (sym none) }

-- ---- a turn

not_true : (b : Bool) → not b ≡ true → b ≡ false
not_true true h = cc
not_true false h = refl

pub still_rests : (t : Turn) (m next : MachineValue) (given : List TurnAnswer) (before : List Part) → given ≡ (turn_of t m).answer ∷ [] → one_rests (had_halted t m) given ≡ true → next ≡ (turn_of t m).machine → before ≡ still m → before ≡ still next
unfolding does_something
still_rests t m next given before answers rest is from =
    let nothing : does_something t m ≡ false = not_true (does_by (turn_of t m).answer (had_halted t m)) (ap (one_rests (had_halted t m)) (sym answers) ∙ rest) in
    let same : (turn_of t m).machine ≡ m = turn-rests t m nothing in
    from ∙ ap still (sym (is ∙ same))

-- ---- the hart of a turn

abbrev state_in : LeafValue → HartState
state_in v = record { hart = v.hart; done = v.done }

halt_listed : (vs : List LeafValue) (k : ℕ) (h : HartState) → slice_get (map state_in vs) k ≡ Some h → is_some h.hart.halt ≡ is_halted (slice_get (map (λ (v : LeafValue). v.hart) vs) k)
halt_listed [] k h is = cc
halt_listed (v ∷ vs) zero h is = let state : state_in v ≡ h = cc in rw (← state) refl
halt_listed (v ∷ vs) (suc k) h is = halt_listed vs k h is

pub halt_read : (m : MachineValue) (k : ℕ) (h : HartState) → IsShaped m → Some h ≡ counted_hart_of k m → is_some h.hart.halt ≡ is_halted (hart_of k m)
halt_read m k h shaped is =
    halt_listed (machine_leaves m) k h (leaf-listed state_in (record { hart = no_hart; done = 0 }) k m shaped ∙ sym is)
    ∙ ap is_halted (leaf-listed (λ (v : LeafValue). v.hart) no_hart k m shaped)

pub leaf_there : (m : MachineValue) (k : ℕ) → is_some (now_of k m) ≡ true → is_part (leaf_of_number k) m ≡ true
leaf_there m k named = sym (read_in-is_some (leaf_of_number k) (of_leaf (λ w v. key_at_leaf w v.done) (record { s0 = 0; c0 = 0; s1 = 0; c1 = 0; s2 = 0; c2 = 0; s3 = 0; c3 = 0; i = 0 })) at_top (root_of m)) ∙ named
