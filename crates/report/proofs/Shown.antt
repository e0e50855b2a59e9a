-- The parts of a machine's report.
-- Letters: m is a machine, k and n are numbers of parts.
use Rattle.std.proofs.Common.{◌≡◌, ◌<◌, ◌≤◌, ℕ, zero, suc, ◌+◌, List, [], ◌∷◌, ◌++◌, length, map, drop, get_or, Option, Some, refl, sym, ap, subst, ◌∙◌, arith}
use Rattle.std.specs.Prelude.{codes, slice_get}
use Rattle.std.proofs.lemmas.List.{append-nil, drop_all}
use Rattle.report.specs.DdmTypes.declared.operations.Op.{Op}
use Rattle.report.specs.DdmTypes.declared.sizes.LeafState.{LeafState}
use Rattle.report.specs.DdmTypes.ItemTable.{item_count, row_at}
use Rattle.report.specs.TreeModel.State.Shape.{IsShaped, depth_of, tree_counts}
use Rattle.report.specs.TreeModel.State.Values.{LeafValue, MachineValue}
use Rattle.report.specs.TreeModel.Turns.Found.{states_of}
use Rattle.report.specs.TreeModel.Turns.Machine.{machine_leaves, no_traffic}
use Rattle.report.specs.TreeModel.Turns.Witness.{sorted_ops}
use Rattle.text_model.specs.declared.RunCounts.{RunCounts}
use Rattle.text_model.specs.Report.{HartView, ReportView, bus_line, head_lines, letter_texts, op_lines}
use Rattle.text_model.specs.Run.{item_view, view_of}
use Rattle.report.proofs.DdmTree.LeafList.{leaf-number, leaves-counted}
use Rattle.report.proofs.InspectorCrate.LeafStates.{states-counted}
use Rattle.report.specs.MachineView.{harts_of, shown, IsGiven}
use Rattle.report.specs.ReportLeft.{front_of, hart_front, no_item, no_view, states_shown, HasPart, operation_part, item_part, bus_part, hart_part, Gives, HasSize}
use Rattle.report.specs.declared.report_parts.ReportPart.{ReportPart}
use Rattle.report.specs.declared.report_parts.ReportPart.TheVariants.{Head, Hart, Output, Bus, Item, States, Operation, End, Nothing}
use Rattle.report.specs.declared.report_parts.ReportSize.{ReportSize}
use Rattle.report.proofs.MachineLines.{harts-counted, item-shown, items-counted}
use Rattle.report.proofs.ReportParts.{head-gives, hart-gives, bus-gives, item-gives, states-gives, states-end, operations-give, end-gives, nothing-gives}

numbered : (f : LeafValue → HartView) (vs : List LeafValue) (k n : ℕ) (d : HartView) → ((v : LeafValue) → (f v).number ≡ v.number) → ((v : LeafValue) → slice_get vs k ≡ Some v → v.number ≡ n) → k < length vs → (get_or (map f vs) k d).number ≡ n
numbered f [] k n d same is inside = absurd (omega (arith, inside))
numbered f (v ∷ vs) zero n d same is inside = same v ∙ is v refl
numbered f (v ∷ vs) (suc k) n d same is inside = numbered f vs k n d same is (omega (arith, inside))

-- a hart is shown with its own number
hart-numbered : (m : MachineValue) (k : ℕ) → IsShaped m → k < length (harts_of m) → (get_or (harts_of m) k no_view).number ≡ k
unfolding view_of
hart-numbered m k shaped inside =
    let size = harts-counted m in
    let leaves = leaves-counted m in
    numbered _ (machine_leaves m) k k no_view (λ v. refl) (λ v there. leaf-number k m v shaped there) (omega (arith, inside, size, leaves))

gives : {v : ReportView} {p q next after : ReportPart} {text : List ℕ} → p ≡ q → next ≡ after → Gives v q text after → Gives v p text next
gives {v} {p} {q} {next} {after} {text} is then given =
    subst (λ (r : ReportPart). Gives v r text next) (sym is) (subst (λ (n : ReportPart). Gives v q text n) (sym then) given)

module _ (counts : RunCounts) (m : MachineValue) (ops : List Op) (size : ReportSize) (part : ReportPart) (given : IsGiven counts m ops size part) where
  there : (p : ReportPart) → part ≡ p → HasPart (shown counts m) p
  there p is = subst (HasPart (shown counts m)) is given.there

  -- ---- what is there

  pub hart-there : (k : ℕ) → part ≡ Hart k → k < (tree_counts m).leaves
  unfolding view_of
  hart-there k is = let counted = harts-counted m in omega (arith, there (Hart k) is, counted)

  pub output-hart : (k n : ℕ) → part ≡ Output k n → k < size.harts
  output-hart k n is = let harts = given.size.harts in omega (arith, (there (Output k n) is).0, harts)

  pub output-there : (k n : ℕ) (done : List Op) → done ≡ m.ops → part ≡ Output k n → n ≤ length done
  unfolding view_of
  output-there k n done same is = subst (λ (os : List Op). n ≤ length os) (sym same) (there (Output k n) is).1

  pub bus-there : (k : ℕ) → part ≡ Bus k → k < length m.traffic
  unfolding view_of
  bus-there k is = there (Bus k) is

  pub item-there : (k : ℕ) → part ≡ Item k → k < item_count m.items
  unfolding view_of
  item-there k is = let counted = items-counted m in omega (arith, there (Item k) is, counted)

  pub states-there : (k n : ℕ) → part ≡ States k n → (k < item_count m.items) × (n ≤ size.harts)
  unfolding view_of
  states-there k n is =
      let items = items-counted m in
      let harts = given.size.harts in
      (omega (arith, (there (States k n) is).0, items), omega (arith, (there (States k n) is).1, harts))

  pub leaves-shown : size.harts ≡ (tree_counts m).leaves
  unfolding view_of
  leaves-shown = sym given.size.harts ∙ harts-counted m

  pub operation-there : (k : ℕ) → part ≡ Operation k → k < length ops
  unfolding view_of
  operation-there k is = let same = ap length given.witness in omega (arith, there (Operation k) is, same)

  -- ---- what each part gives

  module _ (line : List ℕ) (next : ReportPart) where
    pub head : part ≡ Head → line ≡ head_lines counts → next ≡ hart_part size 0 → Gives (shown counts m) part line next
    unfolding view_of
    head is put then = gives is then (head-gives (shown counts m) size given.size line put)

    pub hart : (k : ℕ) → part ≡ Hart k → line ≡ hart_front (get_or (harts_of m) k no_view) → next ≡ Output k 0 → Gives (shown counts m) part line next
    unfolding view_of
    hart k is put then = gives is then (hart-gives (shown counts m) k line (there (Hart k) is) (hart-numbered m k given.shaped (there (Hart k) is)) put)

    pub output : (k n : ℕ) (done : List Op) → done ≡ m.ops → part ≡ Output k n → ((v : ReportView) → v.completed ≡ done → HasSize v size → HasPart v (Output k n) → Gives v (Output k n) line next) → Gives (shown counts m) part line next
    unfolding view_of
    output k n done same is each = gives is refl (each (shown counts m) (sym same) given.size (there (Output k n) is))

    pub bus : (k : ℕ) → part ≡ Bus k → line ≡ bus_line k (get_or m.traffic k no_traffic) → next ≡ bus_part size (k + 1) → Gives (shown counts m) part line next
    unfolding view_of
    bus k is put then = gives is then (bus-gives (shown counts m) size given.size k line (there (Bus k) is) put)

    pub item : (k : ℕ) → part ≡ Item k → line ≡ front_of (item_view m k (row_at m.items k)) → next ≡ States k 0 → Gives (shown counts m) part line next
    unfolding view_of
    item k is put then =
        let here = item-shown m k no_item (item-there k is) in
        gives is then (item-gives (shown counts m) k line (there (Item k) is) (put ∙ sym (ap front_of here)))

    states-are : (k n : ℕ) → part ≡ States k n → states_shown (shown counts m) k ≡ states_of k m
    unfolding view_of
    states-are k n is = ap (λ i. i.states) (item-shown m k no_item (states-there k n is).0)

    pub states : (k n after : ℕ) → part ≡ States k n → after ≤ size.harts → letter_texts (drop n (states_of k m)) ≡ line ++ letter_texts (drop after (states_of k m)) → 500 ≤ length line → next ≡ States k after → Gives (shown counts m) part line next
    states k n after is within put long then =
        let put' = subst (λ (ss : List (Option LeafState)). letter_texts (drop n ss) ≡ line ++ letter_texts (drop after ss)) (sym (states-are k n is)) put in
        let harts = given.size.harts in
        gives is then (states-gives (shown counts m) k n after line (there (States k n) is) (omega (arith, within, harts)) put' (omega (arith, long)))

    pub states-ended : (k n after : ℕ) (put : List ℕ) → part ≡ States k n → size.harts ≤ after → letter_texts (drop n (states_of k m)) ≡ put ++ letter_texts (drop after (states_of k m)) → line ≡ put ++ codes "\n" → next ≡ item_part size (k + 1) → Gives (shown counts m) part line next
    unfolding letter_texts
    states-ended k n after put is past states ended then =
        let counted = states-counted m k in
        let leaves = leaves-shown in
        let none = drop_all after (states_of k m) (omega (arith, past, counted, leaves)) in
        let last : letter_texts (drop n (states_of k m)) ≡ put = states ∙ ap (λ (ss : List (Option LeafState)). put ++ letter_texts ss) none ∙ append-nil put in
        gives is then (states-end (shown counts m) size given.size k n put line (there (States k n) is)
        (subst (λ (ss : List (Option LeafState)). letter_texts (drop n ss) ≡ put) (sym (states-are k n is)) last) ended)

    pub operations : (k after : ℕ) → part ≡ Operation k → op_lines size.depth (drop k ops) ≡ line ++ op_lines size.depth (drop after ops) → 0 < length line → next ≡ operation_part size after → Gives (shown counts m) part line next
    unfolding view_of
    operations k after is put some then =
        let lines : op_lines (depth_of m) (drop k (sorted_ops m.ops)) ≡ line ++ op_lines (depth_of m) (drop after (sorted_ops m.ops)) =
        subst (λ (os : List Op). op_lines (depth_of m) (drop k os) ≡ line ++ op_lines (depth_of m) (drop after os)) given.witness
        (subst (λ (d : ℕ). op_lines d (drop k ops) ≡ line ++ op_lines d (drop after ops)) (sym given.size.depth) put) in
        gives is then (operations-give (shown counts m) size given.size k after line lines some)

    pub end_given : part ≡ End → line ≡ codes "end\n" → next ≡ Nothing → Gives (shown counts m) part line next
    end_given is put then = gives is then (end-gives (shown counts m) line put)

    pub nothing_given : part ≡ Nothing → line ≡ [] → next ≡ Nothing → Gives (shown counts m) part line next
    nothing_given is put then = gives is then (nothing-gives (shown counts m) line put)
