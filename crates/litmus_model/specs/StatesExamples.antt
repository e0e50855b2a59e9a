-- Worked examples: what is printed of the states of small tests, with items of 16 bytes. The texts are those of an independent program.
use Rattle.std.specs.Prelude.{◌≡◌, ℕ, List, [], ◌∷◌, ◌++◌, codes}
use Rattle.litmus_model.specs.Examples.{message_passing, conditions, waiting}
use Rattle.litmus_model.specs.StatesText.{StateLine, RunStates, states_text}

abbrev pub state : ℕ → ℕ → List ℕ → StateLine
state times seed words = record { times = times; seed = seed; words = words }

abbrev pub run_states : List StateLine → ℕ → ℕ → ℕ → RunStates
run_states states runs unfinished faulted = record { states = states; runs = runs; unfinished = unfinished; faulted = faulted }

abbrev pub seen_text : List ℕ
seen_text =
    codes "Test MP Allowed\nHistogram (2 states)\n3     :>1:x5=0;\n1     *>1:x5=1;\nOk\n\nWitnesses\n"
    ++ codes "Positive: 1, Negative: 3\nCondition exists (1:x5=1) is validated\n"
    ++ codes "Observation MP Sometimes 1 3\nSeed 1 1:x5=0;\nSeed 3 1:x5=1;\n"
    ++ codes "Runs MP 5 unfinished 1 faulted 0\n"

-- addresses, a number below 0, and what is denied
abbrev pub forbidden_text : List ℕ
forbidden_text =
    codes "Test Many Forbidden\nHistogram (2 states)\n2     *>0:x10=0; 1:x1=16; y=z;\n"
    ++ codes "1     :>0:x10=-1; 1:x1=0; y=y;\nNo\n\nWitnesses\nPositive: 1, Negative: 2\n"
    ++ codes "Condition ~exists (not true \\/ y=z /\\ 1:x1=16) is NOT validated\n"
    ++ codes "Observation Many Sometimes 2 1\nSeed 4 0:x10=0; 1:x1=16; y=z;\n"
    ++ codes "Seed 5 0:x10=-1; 1:x1=0; y=y;\nRuns Many 4 unfinished 0 faulted 1\n"

-- no run that ended
abbrev pub none_text : List ℕ
none_text =
    codes "Test Wait Required\nHistogram (0 states)\nOk\n\nWitnesses\nPositive: 0, Negative: 0\n"
    ++ codes "Condition forall x=-1 is validated\nObservation Wait Never 0 0\n"
    ++ codes "Runs Wait 3 unfinished 3 faulted 0\n"

pub record ExampleStates : Type 0 where
  pub seen : states_text message_passing 16 (run_states (state 3 1 (0 ∷ []) ∷ state 1 3 (1 ∷ []) ∷ []) 5 1 0) ≡ seen_text
  pub forbidden :
      states_text conditions 16
      (run_states (state 2 4 (0 ∷ 16 ∷ 0x200010 ∷ []) ∷ state 1 5 (0xffffffff ∷ 0 ∷ 0x200000 ∷ []) ∷ []) 4 0 1)
      ≡ forbidden_text
  pub none : states_text waiting 16 (run_states [] 3 3 0) ≡ none_text
