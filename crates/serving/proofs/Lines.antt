-- Lines of a list that are served one at a time.
-- Letters: ts and us are turns, m is the machine before the first line and now the one before the next, ops are the operations of all
-- lines and op that of the next, i is how many lines are done.
use Rattle.std.proofs.Common.{◌≡◌, ℕ, ◌+◌, ◌<◌, ◌≤◌, List, [], ◌∷◌, ◌++◌, length, get_or, drop, true, false, Result, Ok, Err, refl, sym, ap, subst, ◌∙◌, arith, append_assoc, append-nil}
use Rattle.std.specs.Prelude.{All, nat_lt}
use Rattle.std.proofs.lemmas.Bool.Decides.{nat_tests}
use Rattle.std.proofs.lemmas.List.{drop_all, length-append}
use Rattle.std.proofs.lemmas.List.Elements.{All-get_or, All-weaker}
use Rattle.serving.specs.DdmTypes.declared.operations.Op.{Op}
use Rattle.serving.specs.DdmTypes.declared.turns.Turn.{Turn}
use Rattle.serving.specs.TreeModel.State.Values.{MachineValue}
use Rattle.serving.specs.TreeModel.Turns.Machine.{names_part, run_of}
use Rattle.serving.specs.ServingModel.Serving.{ServingRefusal, not_served, too_many_turns, with_turns, turns_to_complete, completes_op, serve_from}
use Rattle.serving.specs.Shown.{IsShown}
use Rattle.serving.proofs.Completes.{drop-next}
use Rattle.serving.proofs.Named.{run-names}
use Rattle.serving.proofs.Steps.{shown-next}

with-none : (r : Result (List Turn) ServingRefusal) → r ≡ with_turns [] r
with-none (Ok rest) = refl
with-none (Err refusal) = refl

with-more : (ts us : List Turn) (r : Result (List Turn) ServingRefusal) → with_turns ts (with_turns us r) ≡ with_turns (ts ++ us) r
with-more ts us (Ok rest) = ap (λ l. Ok l) (sym (append_assoc ts us rest))
with-more ts us (Err refusal) = refl

above : (a b : ℕ) → b ≤ a → nat_lt a b ≡ false
above a b l = grind (arith, nat_tests)

below : (a b : ℕ) → a < b → nat_lt a b ≡ true
below a b l = grind (arith, nat_tests)

-- ---- the next line

module _ (line made : ℕ) (op : Op) (ops : List Op) (m : MachineValue) where
  abbrev ts : List Turn
  ts = turns_to_complete op.hart m

  abbrev result : Result (List Turn) ServingRefusal
  result = serve_from line made (op ∷ ops) m

  too-many : 1048576 < made + length ts → result ≡ Err (too_many_turns line)
  unfolding serve_from
  too-many many = rw (below 1048576 (made + length ts) many) refl

  other-line : made + length ts ≤ 1048576 → completes_op op (run_of ts m).answers ≡ false → result ≡ Err (not_served line)
  unfolding serve_from
  other-line few other = rw (above 1048576 (made + length ts) few, other) refl

  next-line : made + length ts ≤ 1048576 → completes_op op (run_of ts m).answers ≡ true → result ≡ with_turns ts (serve_from (line + 1) (made + length ts) ops (run_of ts m).machine)
  unfolding serve_from
  next-line few done = rw (above 1048576 (made + length ts) few, done) refl

-- ---- how far it is

-- so many turns were made
pub record IsUnderWay (m : MachineValue) (ops : List Op) (i line : ℕ) (turns : List Turn) (made : ℕ) (now : MachineValue) : Type 0 where
  pub rest : serve_from 1 0 ops m ≡ with_turns turns (serve_from line (length turns) (drop i ops) now)
  pub shown : IsShown now
  pub named : All (λ op. names_part (Turn.Hart op.hart 0) now ≡ true) ops
  pub few : length turns ≤ 1048576
  pub count : made ≡ length turns
  pub number : line ≡ i + 1

pub begins : (m : MachineValue) (ops : List Op) (made : ℕ) → IsShown m → All (λ op. names_part (Turn.Hart op.hart 0) m ≡ true) ops → made ≡ 0 → IsUnderWay m ops 0 1 [] made m
begins m ops made shown named none = record { rest = with-none (serve_from 1 0 ops m); shown = shown; named = named; few = omega arith; count = none; number = refl }

module _ (m : MachineValue) (ops : List Op) (i line : ℕ) (turns : List Turn) (made : ℕ) (now : MachineValue) (u : IsUnderWay m ops i line turns made now) where
  pub ends : length ops ≤ i → serve_from 1 0 ops m ≡ Ok turns
  unfolding serve_from
  ends past = u.rest ∙ (ap (λ l. with_turns turns (serve_from line (length turns) l now)) (drop_all i ops past) ∙ ap (λ l. Ok l) (append-nil turns))

  module _ (op : Op) (l : i < length ops) (is : op ≡ get_or ops i op) where
    abbrev us : List Turn
    us = turns_to_complete op.hart now

    pub here-named : names_part (Turn.Hart op.hart 0) now ≡ true
    here-named = subst (λ (o : Op). names_part (Turn.Hart o.hart 0) now ≡ true) (sym is) (All-get_or (λ o. names_part (Turn.Hart o.hart 0) now ≡ true) ops i op l u.named)

    here : serve_from 1 0 ops m ≡ with_turns turns (serve_from line (length turns) (op ∷ drop (i + 1) ops) now)
    here = u.rest ∙ ap (λ l. with_turns turns (serve_from line (length turns) l now)) (drop-next ops i op l is)

    pub stops-many : 1048576 < length turns + length us → serve_from 1 0 ops m ≡ Err (too_many_turns line)
    stops-many many = here ∙ ap (with_turns turns) (too-many line (length turns) op (drop (i + 1) ops) now many)

    module _ (turns2 : List Turn) (more : turns2 ≡ turns ++ us) (few : length turns2 ≤ 1048576) where
      longer : length turns2 ≡ length turns + length us
      longer = ap (λ ts. length ts) more ∙ length-append turns us

      pub stops-other : completes_op op (run_of us now).answers ≡ false → serve_from 1 0 ops m ≡ Err (not_served line)
      stops-other other = here ∙ ap (with_turns turns) (other-line line (length turns) op (drop (i + 1) ops) now (omega (arith, few, longer)) other)

      pub goes-on : (now2 : MachineValue) (made2 : ℕ) → now2 ≡ (run_of us now).machine → made2 ≡ length turns2 → completes_op op (run_of us now).answers ≡ true → IsUnderWay m ops (i + 1) (line + 1) turns2 made2 now2
      goes-on now2 made2 after count done = record {
        rest =
            here ∙ (ap (with_turns turns) (next-line line (length turns) op (drop (i + 1) ops) now (omega (arith, few, longer)) done)
            ∙ (with-more turns us (serve_from (line + 1) (length turns + length us) (drop (i + 1) ops) (run_of us now).machine)
            ∙ (ap (λ ts. with_turns ts (serve_from (line + 1) (length turns + length us) (drop (i + 1) ops) (run_of us now).machine)) (sym more)
            ∙ (ap (λ n. with_turns turns2 (serve_from (line + 1) n (drop (i + 1) ops) (run_of us now).machine)) (sym longer)
            ∙ ap (λ k. with_turns turns2 (serve_from (line + 1) (length turns2) (drop (i + 1) ops) k)) (sym after)))));
        shown = subst IsShown (sym after) (shown-next now op.hart u.shown here-named op done);
        named = All-weaker (λ (o : Op). names_part (Turn.Hart o.hart 0) now ≡ true) (λ o. names_part (Turn.Hart o.hart 0) now2 ≡ true) (λ o named. ap (names_part (Turn.Hart o.hart 0)) after ∙ (run-names (Turn.Hart o.hart 0) us now ∙ named)) ops u.named;
        few = few;
        count = count;
        number = omega (arith, u.number);
      }
