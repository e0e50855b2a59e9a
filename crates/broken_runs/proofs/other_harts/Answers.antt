use Rattle.std.specs.Prelude.{Bool, true, false, nat_eq, is_some, Err, slice_index_or}
use Rattle.std.proofs.Common.{ap}
use Rattle.std.proofs.lemmas.Bool.{true≢false, false≢true}
use Rattle.tree_rules.specs.Computing.{rules_compute}
use Rattle.broken_runs.specs.DdmTypes.declared.operations.HaltCause.{HaltCause}
use Rattle.broken_runs.specs.FlatModel.Hart.{HartValue}
use Rattle.broken_runs.specs.FlatModel.Flat.{FlatStepped}
use Rattle.broken_runs.proofs.other_harts.Goals as goal

pub returns-clause-other_register : goal.returns-clause-other_register
unfolding rules_compute
returns-clause-other_register c = λ w. true≢false (ap (λ (h : HartValue). nat_eq (slice_index_or h.registers 7 0) 7) w.harts.1.0.hart)

pub returns-clause-other_place : goal.returns-clause-other_place
unfolding rules_compute
returns-clause-other_place c = λ w. true≢false (ap (λ (h : HartValue). nat_eq h.pc 0x1000c) w.harts.0.hart)

pub returns-clause-flat_has_halted : goal.returns-clause-flat_has_halted
unfolding rules_compute
returns-clause-flat_has_halted c = λ w. true≢false (ap (λ (h : HartValue). is_some h.halt) w.harts.0.hart)

pub returns-clause-one_more_done : goal.returns-clause-one_more_done
unfolding rules_compute
returns-clause-one_more_done c = λ w. true≢false (ap (nat_eq 4) w.harts.1.0.done)

pub returns-clause-one_left_out : goal.returns-clause-one_left_out
unfolding rules_compute
returns-clause-one_left_out c = λ w. true≢false (ap (nat_eq 3) w.harts.1.0.done)

halts_at_breakpoint : FlatStepped → Bool
halts_at_breakpoint (Err HaltCause.Breakpoint) = true
halts_at_breakpoint _ = false

pub returns-clause-other_halt : goal.returns-clause-other_halt
unfolding rules_compute halts_at_breakpoint
returns-clause-other_halt c = λ w. false≢true (ap halts_at_breakpoint (w.harts.1.0.halt true))

pub returns-clause-halted_at_a_load : goal.returns-clause-halted_at_a_load
unfolding rules_compute halts_at_breakpoint
returns-clause-halted_at_a_load c = λ w. false≢true (ap halts_at_breakpoint (w.harts.0.halt true))
