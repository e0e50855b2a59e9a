-- Words whose meaning is known.
use Rattle.std.proofs.Common.{refl}
use Rattle.rv_decode.specs.Computing.{decode_computes}
use Rattle.rv_decode.specs.Examples.{InstructionVectors, OutsideVectors, ProgramWords, JumpWords, MemoryWords, ImmediateWords, RegisterWords, AtomicWords}

pub instruction_vectors : InstructionVectors
unfolding decode_computes
instruction_vectors = (refl, refl, refl, refl)

pub outside_vectors : OutsideVectors
unfolding decode_computes
outside_vectors = (refl, refl, refl, refl, refl, refl)

pub program_words : ProgramWords
unfolding decode_computes
program_words = (refl, refl, refl, refl, refl, refl, refl, refl, refl, refl, refl, refl, refl, refl, refl, refl, refl, refl, refl, refl, refl, refl, refl, refl, refl, refl, refl)

pub jump_words : JumpWords
unfolding decode_computes
jump_words = (refl, refl, refl, refl, refl, refl, refl, refl, refl, refl, refl, refl)

pub memory_words : MemoryWords
unfolding decode_computes
memory_words = (refl, refl, refl, refl, refl, refl, refl, refl, refl, refl)

pub immediate_words : ImmediateWords
unfolding decode_computes
immediate_words = (refl, refl, refl, refl, refl, refl, refl, refl, refl)

pub register_words : RegisterWords
unfolding decode_computes
register_words = (refl, refl, refl, refl, refl, refl, refl, refl, refl, refl, refl, refl)

pub atomic_words : AtomicWords
unfolding decode_computes
atomic_words = (refl, refl, refl, refl, refl, refl, refl, refl, refl, refl, refl, refl, refl, refl, refl, refl, refl)

-- What an assembler makes of instructions.
pub ruleset assembled_words = (program_words, jump_words, memory_words, immediate_words, register_words, atomic_words)
