-- The first operation that a list of answers completes, looked for from the front; and the turns that complete an
-- instruction, as they are made.
-- Letters: op and o are operations, xs answers, i a place, a the answer there; m is a machine, h a hart, k the machine
-- after its first turn.
use Rattle.std.proofs.Common.{◌≡◌, ◌≢◌, ℕ, zero, suc, ◌+◌, ◌<◌, ◌≤◌, List, [], ◌∷◌, ◌++◌, length, get_or, drop, Some, None, true, false, refl, sym, ap, subst, ◌∙◌, arith, append_assoc}
use Rattle.std.specs.Prelude.{All}
use Rattle.std.proofs.lemmas.List.{drop_all, length-append}
use Rattle.std.proofs.lemmas.List.Elements.{All-cons, All-nil}
use Rattle.serving.specs.DdmTypes.declared.answers.TurnAnswer.{TurnAnswer}
use Rattle.serving.specs.DdmTypes.declared.operations.Op.{Op}
use Rattle.serving.specs.DdmTypes.declared.turns.Turn.{Turn}
use Rattle.serving.specs.TreeModel.State.Shape.{frame_of, IsShaped}
use Rattle.serving.specs.TreeModel.State.Values.{MachineValue}
use Rattle.serving.specs.TreeModel.Turns.Machine.{names_part, turn_of, run_of}
use Rattle.serving.proofs.TreeModel.FrameKept.{turn-frame, turn-shape}
use Rattle.serving.specs.ServingModel.Serving.{same_operation, completes_op, walks_of, turns_behind, turns_to_complete}
use Rattle.serving.specs.ServingModel.Told.{AreTold}
use Rattle.serving.proofs.ServingModel.Instruction.{run-on}
use Rattle.serving.specs.Shown.{IsShown, issued_first}
use Rattle.serving.specs.declared.completing.Issued.{Issued}
use Rattle.serving.proofs.Named.{frame-names, run-names}
use Rattle.serving.proofs.Steps.{same-bus, walks-told}
use Rattle.serving.proofs.Walked.{run-on_answers}

-- ---- the operation that answers complete

pub drop-next : {A : Type 0} (xs : List A) (i : ℕ) (a : A) → i < length xs → a ≡ get_or xs i a → drop i xs ≡ a ∷ drop (i + 1) xs
drop-next [] i a l is = absurd (omega (arith, l))
drop-next (x ∷ xs) zero a l is = ap (λ y. y ∷ xs) (sym is)
drop-next (x ∷ xs) (suc i) a l is = drop-next xs i a (omega (arith, l)) is ∙ ap (λ k. a ∷ drop k (x ∷ xs)) (let e : suc (i + 1) ≡ suc i + 1 = omega arith in e)

module _ (op : Op) (xs : List TurnAnswer) (i : ℕ) where
  pub retired-here : (o : Op) → i < length xs → TurnAnswer.Retired o ≡ get_or xs i (TurnAnswer.Retired o) → completes_op op (drop i xs) ≡ same_operation op o
  retired-here o l is = ap (completes_op op) (drop-next xs i (TurnAnswer.Retired o) l is)

  pub others-here : (a : TurnAnswer) → i < length xs → a ≡ get_or xs i a → ((o : Op) → a ≢ TurnAnswer.Retired o) → completes_op op (drop i xs) ≡ completes_op op (drop (i + 1) xs)
  others-here a l is other = ap (completes_op op) (drop-next xs i a l is) ∙ by a other where
    by : (a : TurnAnswer) → ((o : Op) → a ≢ TurnAnswer.Retired o) → completes_op op (a ∷ drop (i + 1) xs) ≡ completes_op op (drop (i + 1) xs)
    by (TurnAnswer.Retired o) other = absurd (other o refl)
    by (TurnAnswer.Issued kind x) other = refl
    by (TurnAnswer.Waiting x) other = refl
    by (TurnAnswer.Halted cause) other = refl
    by (TurnAnswer.Granted e) other = refl
    by TurnAnswer.Empty other = refl
    by (TurnAnswer.Busy cause) other = refl

  pub none-here : length xs ≤ i → completes_op op (drop i xs) ≡ false
  none-here past = ap (completes_op op) (drop_all i xs past)

-- ---- the turns of one instruction

none-behind : (h : ℕ) (a : TurnAnswer) (m : MachineValue) → issued_first (a ∷ []) ≡ None → turns_behind h a m ≡ []
none-behind h (TurnAnswer.Issued kind x) m none = cc
none-behind h (TurnAnswer.Retired o) m none = refl
none-behind h (TurnAnswer.Waiting x) m none = refl
none-behind h (TurnAnswer.Halted cause) m none = refl
none-behind h (TurnAnswer.Granted e) m none = refl
none-behind h TurnAnswer.Empty m none = refl
none-behind h (TurnAnswer.Busy cause) m none = refl

issued-is : (a : TurnAnswer) (r : Issued) → issued_first (a ∷ []) ≡ Some r → a ≡ TurnAnswer.Issued r.kind r.item
issued-is (TurnAnswer.Issued kind x) r some = ap (λ (q : Issued). TurnAnswer.Issued q.kind q.item) (one (record { kind = kind; item = x }) r some) where
  one : (p q : Issued) → Some p ≡ Some q → p ≡ q
  one p q e = cc
issued-is (TurnAnswer.Retired o) r some = cc
issued-is (TurnAnswer.Waiting y) r some = cc
issued-is (TurnAnswer.Halted cause) r some = cc
issued-is (TurnAnswer.Granted e) r some = cc
issued-is TurnAnswer.Empty r some = cc
issued-is (TurnAnswer.Busy cause) r some = cc

module _ (m : MachineValue) (h : ℕ) where
  abbrev t : Turn
  t = Turn.Hart h 0

  pub whole-one : issued_first (run_of (t ∷ []) m).answers ≡ None → turns_to_complete h m ≡ t ∷ []
  unfolding run_of turns_to_complete
  whole-one none = ap (λ ts. t ∷ ts) (none-behind h (turn_of t m).answer (turn_of t m).machine none)

  pub one-shorter : 1 ≤ length (turns_to_complete h m)
  unfolding turns_to_complete
  one-shorter = omega arith

  module _ (k : MachineValue) (after : k ≡ (run_of (t ∷ []) m).machine) where
    after-turn : k ≡ (turn_of t m).machine
    unfolding run_of
    after-turn = after

    frames : frame_of k ≡ frame_of m
    frames = ap frame_of after-turn ∙ turn-frame t m

    pub shaped-then : IsShaped m → IsShaped k
    shaped-then shaped = subst IsShaped (sym after-turn) (turn-shape t m shaped)

    pub top-then : m.top.bus ≡ 0 → k.top.bus ≡ 0
    top-then top = same-bus m k frames top

    pub named-then : names_part t m ≡ true → names_part t k ≡ true
    named-then named = frame-names t k m frames ∙ named

    module _ (r : Issued) (some : issued_first (run_of (t ∷ []) m).answers ≡ Some r) where
      issued : (turn_of t m).answer ≡ TurnAnswer.Issued r.kind r.item
      unfolding run_of
      issued = issued-is (turn_of t m).answer r some

      pub told-then : IsShown m → names_part t m ≡ true → AreTold k r.kind h r.item
      told-then is named = subst (λ n. AreTold n r.kind h r.item) (sym after-turn) (walks-told m h is named r.kind r.item issued)

      pub whole : (t ∷ []) ++ (walks_of h k ++ (t ∷ [])) ≡ turns_to_complete h m
      unfolding turns_to_complete
      whole = ap (λ n. t ∷ (walks_of h n ++ t ∷ [])) after-turn ∙ sym (ap (λ a. t ∷ turns_behind h a (turn_of t m).machine) issued)

      pub walks-shorter : length (walks_of h k) + 1 ≤ length (turns_to_complete h m)
      walks-shorter =
          let all = ap (λ ts. length ts) whole in
          omega (arith, all, length-append (walks_of h k) (t ∷ []))

      module _ (n : MachineValue) (walked : n ≡ (run_of (walks_of h k) k).machine) where
        pub named-last : names_part t m ≡ true → names_part t n ≡ true
        named-last named = ap (names_part t) walked ∙ (run-names t (walks_of h k) k ∙ named-then named)

        pub machine-all : (run_of (t ∷ []) n).machine ≡ (run_of (turns_to_complete h m) m).machine
        machine-all =
            ap (λ j. (run_of (t ∷ []) j).machine) walked
            ∙ (sym (run-on (walks_of h k) (t ∷ []) k)
            ∙ (ap (λ j. (run_of (walks_of h k ++ (t ∷ [])) j).machine) after
            ∙ (sym (run-on (t ∷ []) (walks_of h k ++ (t ∷ [])) m) ∙ ap (λ ts. (run_of ts m).machine) whole)))

        pub answers-all : (((run_of (t ∷ []) m).answers ++ (run_of (walks_of h k) k).answers) ++ (run_of (t ∷ []) n).answers) ≡ (run_of (turns_to_complete h m) m).answers
        answers-all =
            append_assoc (run_of (t ∷ []) m).answers (run_of (walks_of h k) k).answers (run_of (t ∷ []) n).answers
            ∙ (ap (λ j. (run_of (t ∷ []) m).answers ++ ((run_of (walks_of h k) k).answers ++ (run_of (t ∷ []) j).answers)) walked
            ∙ (ap (λ l. (run_of (t ∷ []) m).answers ++ l) (sym (run-on_answers (walks_of h k) (t ∷ []) k))
            ∙ (ap (λ j. (run_of (t ∷ []) m).answers ++ (run_of (walks_of h k ++ (t ∷ [])) j).answers) after
            ∙ (sym (run-on_answers (t ∷ []) (walks_of h k ++ (t ∷ [])) m) ∙ ap (λ ts. (run_of ts m).answers) whole))))

-- ---- the same, from what the code has: the answers before and after, and the leaf of the hart

module _ (m : MachineValue) (h : ℕ) (k : MachineValue) (after : k ≡ (run_of (Turn.Hart h 0 ∷ []) m).machine) (before now seen : List TurnAnswer) (none : before ≡ []) (put : now ≡ before ++ (run_of (Turn.Hart h 0 ∷ []) m).answers) (see : seen ≡ now) where
  abbrev one : List Turn
  one = Turn.Hart h 0 ∷ []

  seen-is : seen ≡ (run_of one m).answers
  seen-is = see ∙ (put ∙ ap (λ l. l ++ (run_of one m).answers) none)

  pub machine-one : None ≡ issued_first seen → k ≡ (run_of (turns_to_complete h m) m).machine
  machine-one nothing = after ∙ ap (λ ts. (run_of ts m).machine) (sym (whole-one m h (ap issued_first (sym seen-is) ∙ sym nothing)))

  pub turns-one : None ≡ issued_first seen → (turns more : List Turn) → more ≡ turns ++ one → more ≡ turns ++ turns_to_complete h m
  turns-one nothing turns more added = added ∙ ap (λ ts. turns ++ ts) (sym (whole-one m h (ap issued_first (sym seen-is) ∙ sym nothing)))

  pub answers-one : None ≡ issued_first seen → now ≡ (run_of (turns_to_complete h m) m).answers
  answers-one nothing = sym see ∙ (seen-is ∙ ap (λ ts. (run_of ts m).answers) (sym (whole-one m h (ap issued_first (sym seen-is) ∙ sym nothing))))

  module _ (r : Issued) (issues : Some r ≡ issued_first seen) (leaf : ℕ) (same : leaf ≡ h) where
    some : issued_first (run_of one m).answers ≡ Some r
    some = ap issued_first (sym seen-is) ∙ sym issues

    pub told-for : IsShown m → names_part (Turn.Hart h 0) m ≡ true → AreTold k r.kind leaf r.item
    told-for is named = subst (λ j. AreTold k r.kind j r.item) (sym same) (told-then m h k after r some is named)

    whole-for : one ++ (walks_of leaf k ++ one) ≡ turns_to_complete h m
    whole-for = ap (λ j. one ++ (walks_of j k ++ one)) same ∙ whole m h k after r some

    pub length-for : length (turns_to_complete h m) ≡ 1 + (length (walks_of leaf k) + 1)
    length-for =
        let all = ap (λ ts. length ts) whole-for in
        omega (arith, all, length-append one (walks_of leaf k ++ one), length-append (walks_of leaf k) one)

    pub turns-for : (turns first walked last : List Turn) → first ≡ turns ++ one → walked ≡ first ++ walks_of leaf k → last ≡ walked ++ one → last ≡ turns ++ turns_to_complete h m
    turns-for turns first walked last a b c =
        c ∙ (ap (λ l. l ++ one) b ∙ (ap (λ l. (l ++ walks_of leaf k) ++ one) a ∙ (append_assoc (turns ++ one) (walks_of leaf k) one ∙ (append_assoc turns one (walks_of leaf k ++ one) ∙ ap (λ l. turns ++ l) whole-for))))

    module _ (n : MachineValue) (walks : n ≡ (run_of (walks_of leaf k) k).machine) where
      walked-for : n ≡ (run_of (walks_of h k) k).machine
      walked-for = walks ∙ ap (λ j. (run_of (walks_of j k) k).machine) same

      pub named-for : names_part (Turn.Hart h 0) m ≡ true → All (λ u. names_part u n ≡ true) one
      named-for named = All-cons (λ u. names_part u n ≡ true) (Turn.Hart h 0) [] (named-last m h k after r some n walked-for named) (All-nil (λ u. names_part u n ≡ true))

      pub machine-for : (last : MachineValue) → last ≡ (run_of one n).machine → last ≡ (run_of (turns_to_complete h m) m).machine
      machine-for last is = is ∙ machine-all m h k after r some n walked-for

      pub answers-for : (walked last : List TurnAnswer) → walked ≡ now ++ (run_of (walks_of leaf k) k).answers → last ≡ walked ++ (run_of one n).answers → last ≡ (run_of (turns_to_complete h m) m).answers
      answers-for walked last a b =
          b ∙ (ap (λ l. l ++ (run_of one n).answers) a
          ∙ (ap (λ j. (now ++ (run_of (walks_of j k) k).answers) ++ (run_of one n).answers) same
          ∙ (ap (λ l. (l ++ (run_of (walks_of h k) k).answers) ++ (run_of one n).answers) (sym see ∙ seen-is)
          ∙ answers-all m h k after r some n walked-for)))
