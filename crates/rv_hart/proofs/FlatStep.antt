-- Each kind of action, asked for and finished, is the change that the flat machine makes of it.
use Rattle.std.proofs.Common.{ℕ, Bool, true, false, ◌&&◌, List, Option, refl, sym, ap, ◌∙◌, subst}
use Rattle.std.specs.Result.{IsOkAnd}
use Rattle.flat_model.specs.declared.Ask.TheVariants.{Conditional}
use Rattle.rv_hart.specs.RvDecode.declared.instructions.Reg.{Reg}
use Rattle.flat_model.specs.Hart.{HartValue, Access, Action, storing_if, Halts, Computes, Puts, Loads, Stores, Reserves, StoresIfReserved, Changes, action_of, ask_by, ask_of, finish_by, finish_of}
use Rattle.flat_model.specs.Flat.{change_by, conditional, has_reserved, unless_halted, hart_step}
use Rattle.rv_hart.specs.Steps.{IsReady}
use Rattle.rv_hart.specs.FlatStep.{AreWordsOf, may_store, IsChangeBy, FinishesAsFlat, HaltsAsFlat}

abbrev IsStep : Action → HartValue → Option ℕ → (ℕ → List ℕ) → List ℕ → Bool → Type 0
IsStep act h reserved item_words words sc_ok = IsOkAnd (change_by (ask_by act) reserved (finish_by act h) item_words sc_ok) (IsChangeBy (ask_by act) reserved (finish_by act h words (may_store (ask_by act) reserved sc_ok)) words)

conditional_step : (stores : Bool) (h : HartValue) (rd : Reg) (v : ℕ) (a : Access) (words : List ℕ) (reserved : Option ℕ) → IsChangeBy (Conditional a.item) reserved (storing_if stores h rd v a words) words (conditional stores a.item (λ (ok : Bool). storing_if ok h rd v a words))
conditional_step true h rd v a words reserved = record { effect = refl; hart = refl; reserves = refl; words = refl; item = refl }
conditional_step false h rd v a words reserved = record { effect = refl; hart = refl; reserves = refl; words = refl; item = tt }

is_step : (act : Action) (h : HartValue) (reserved : Option ℕ) (item_words : ℕ → List ℕ) (words : List ℕ) (sc_ok : Bool) → IsReady (ask_by act) → AreWordsOf (ask_by act) item_words words → IsStep act h reserved item_words words sc_ok
is_step (Halts cause) h reserved item_words words sc_ok ready are = absurd ready
is_step (Computes after) h reserved item_words words sc_ok ready are =
    record { effect = refl; hart = refl; reserves = refl; words = refl; item = tt }
is_step (Puts byte after) h reserved item_words words sc_ok ready are =
    record { effect = refl; hart = refl; reserves = refl; words = refl; item = tt }
is_step (Loads op rd a) h reserved item_words words sc_ok ready are =
    rw (are a.item refl) (record { effect = refl; hart = refl; reserves = refl; words = refl; item = tt })
is_step (Stores op v a) h reserved item_words words sc_ok ready are =
    rw (are a.item refl) (record { effect = refl; hart = refl; reserves = refl; words = refl; item = refl })
is_step (Reserves rd a) h reserved item_words words sc_ok ready are =
    rw (are a.item refl) (record { effect = refl; hart = refl; reserves = refl; words = refl; item = tt })
is_step (StoresIfReserved rd v a) h reserved item_words words sc_ok ready are =
    rw (are a.item refl) (conditional_step (sc_ok && has_reserved reserved a.item) h rd v a (item_words a.item) reserved)
is_step (Changes op rd v a) h reserved item_words words sc_ok ready are =
    rw (are a.item refl) (record { effect = refl; hart = refl; reserves = refl; words = refl; item = refl })

pub finishes_as_flat : FinishesAsFlat
unfolding hart_step ask_of finish_of
finishes_as_flat code items g item_words words sc_ok running ready are =
    let act = action_of code items g.hart in
    subst (λ halt. IsOkAnd (unless_halted halt (change_by (ask_by act) g.reserved (finish_by act g.hart) item_words sc_ok)) (IsChangeBy (ask_by act) g.reserved (finish_by act g.hart words (may_store (ask_by act) g.reserved sc_ok)) words)) (sym running) (is_step act g.hart g.reserved item_words words sc_ok ready are)

pub halts_as_flat : HaltsAsFlat
unfolding hart_step
halts_as_flat code items g item_words sc_ok cause running asked =
    ap (λ halt. unless_halted halt (change_by (ask_of code items g.hart) g.reserved (finish_of code items g.hart) item_words sc_ok)) running
    ∙ ap (λ ask. change_by ask g.reserved (finish_of code items g.hart) item_words sc_ok) asked
