-- An instruction keeps the number of registers, and 0 in the first of them.
use Rattle.std.proofs.Common.{◌≡◌, ℕ, Bool, true, false, nat_eq, List, refl, sym, subst, ◌∙◌}
use Rattle.std.proofs.Math.ListN.{length-set}
use Rattle.std.proofs.lemmas.Bool.{eqb-false}
use Rattle.std.proofs.lemmas.List.{get_or-set_other}
use Rattle.std.specs.Prelude.{slice_set, if◌then◌else◌}
use Rattle.rv_flat.specs.DdmTypes.CodeMap.{CodeWord}
use Rattle.rv_flat.specs.DdmTypes.ItemTable.{ItemTable}
use Rattle.rv_flat.specs.RvDecode.declared.instructions.Reg.{Reg}
use Rattle.rv_flat.specs.FlatModel.Hart.{HartValue, Action, with_register, Halts, Computes, Puts, Loads, Stores, Reserves, StoresIfReserved, Changes, action_of, finish_by, finish_of, storing_if}
use Rattle.rv_flat.proofs.FlatModel.Actions.{IsNextOf, IsActionOf, action_is}
use Rattle.rv_flat.specs.Registers.{IsHart}

set_register : (h : HartValue) (rd : Reg) (v : ℕ) → IsHart h → IsHart (with_register h rd v)
set_register h rd v good = go (nat_eq rd 0) refl where
  go : (b : Bool) → nat_eq rd 0 ≡ b → IsHart (record h { registers = if b then h.registers else slice_set h.registers rd v })
  go true e = record { count = good.count; zero = good.zero }
  go false e = record {
    count = length-set h.registers rd v ∙ good.count;
    zero = get_or-set_other h.registers rd 0 v 0 (λ k. eqb-false rd 0 e (sym k)) ∙ good.zero;
  }

with_pc : (h : HartValue) (pc : ℕ) → IsHart h → IsHart (record h { pc = pc })
with_pc h pc good = record { count = good.count; zero = good.zero }

written_keeps : (h : HartValue) (rd : Reg) (v pc : ℕ) → IsHart h → IsHart (record (with_register h rd v) { pc = pc })
written_keeps h rd v pc good = with_pc (with_register h rd v) pc (set_register h rd v good)

next_keeps : (h after : HartValue) → IsNextOf h after → IsHart h → IsHart after
next_keeps h after next good = subst IsHart (sym next.is) (written_keeps h next.rd next.value next.pc good)

finish_keeps : (items : ItemTable) (act : Action) (h : HartValue) (words : List ℕ) (sc_ok : Bool) → IsActionOf items h act → IsHart h → IsHart (finish_by act h words sc_ok).hart
finish_keeps items (Halts cause) h words sc_ok is good = good
finish_keeps items (Computes after) h words sc_ok is good = next_keeps h after is good
finish_keeps items (Puts byte after) h words sc_ok is good = next_keeps h after is good
finish_keeps items (Loads op rd a) h words sc_ok is good = written_keeps h rd _ _ good
finish_keeps items (Stores op v a) h words sc_ok is good = with_pc h _ good
finish_keeps items (Reserves rd a) h words sc_ok is good = written_keeps h rd _ _ good
finish_keeps items (StoresIfReserved rd v a) h words sc_ok is good = go sc_ok where
  go : (b : Bool) → IsHart (storing_if b h rd v a words).hart
  go true = written_keeps h rd _ _ good
  go false = written_keeps h rd _ _ good
finish_keeps items (Changes op rd v a) h words sc_ok is good = written_keeps h rd _ _ good

pub finish_hart : (code : List CodeWord) (items : ItemTable) (h : HartValue) (words : List ℕ) (sc_ok : Bool) → IsHart h → IsHart (finish_of code items h words sc_ok).hart
unfolding finish_of
finish_hart code items h words sc_ok good = finish_keeps items (action_of code items h) h words sc_ok (action_is code items h) good
