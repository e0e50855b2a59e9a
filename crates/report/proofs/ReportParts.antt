-- A report as the texts of its parts, one behind the other.
-- Letters: v is what a report shows, k and n are numbers of parts, t is a part's text.
use Rattle.std.proofs.Common.{◌≡◌, ◌<◌, ◌≤◌, ℕ, ◌+◌, Bool, true, false, cond, List, [], ◌∷◌, ◌++◌, length, drop, get_or, refl, sym, ap, ◌∙◌, arith, append_assoc}
use Rattle.std.specs.Prelude.{codes, decimal, nat_lt}
use Rattle.std.specs.List.{flat_map}
use Rattle.std.proofs.lemmas.Bool.{ltb-true, ltb-false}
use Rattle.std.proofs.lemmas.List.{append-nil, drop_all, drop_more}
use Rattle.report.specs.DdmTypes.declared.operations.Op.{Op}
use Rattle.report.specs.TreeModel.declared.Traffic.{Traffic}
use Rattle.report.specs.TreeModel.Turns.Machine.{no_traffic}
use Rattle.text_model.specs.declared.RunCounts.{RunCounts}
use Rattle.text_model.specs.Report.{HartView, ItemView, ReportView, bus_line, bus_lines_from, hart_line_of, hart_lines, head_lines, item_line, item_lines, letter_texts, op_line, op_lines, out_line, put_texts, regs_line, report_of, hart_line}
use Rattle.report.specs.LineParts.{dash_behind, item_front}
use Rattle.report.specs.ReportLeft.{from_operation, from_item, from_bus, from_hart, hart_front, front_of, no_item, no_view, states_shown, from_part, HasPart, HasSize, operation_part, item_part, bus_part, hart_part, Gives}
use Rattle.report.specs.declared.report_parts.ReportPart.{ReportPart}
use Rattle.report.specs.declared.report_parts.ReportPart.TheVariants.{Head, Hart, Output, Bus, Item, States, Operation, End, Nothing}
use Rattle.report.specs.declared.report_parts.ReportSize.{ReportSize}
use Rattle.report.proofs.Lines.{item_line-parts, none-left, none-put, not-empty, or_dash-parts}

not-ended : (xs ys : List ℕ) → 0 < length ys → xs ++ ys ≡ [] → ⊥
not-ended [] ys some e = let none : length ys ≡ 0 = ap length e in omega (arith, some, none)
not-ended (x ∷ xs) ys some e = not-empty e

-- ---- no line is empty

head-some : (c : RunCounts) → head_lines c ≡ [] → ⊥
unfolding head_lines
head-some c none = not-empty none

front-some : (h : HartView) → hart_front h ≡ [] → ⊥
unfolding hart_line
front-some h none = not-empty none

bus-some : (k : ℕ) (traffic : Traffic) → bus_line k traffic ≡ [] → ⊥
unfolding bus_line
bus-some k traffic none = not-empty none

item-some : (item : ItemView) → front_of item ≡ [] → ⊥
unfolding item_front
item-some item none = not-empty none

pub operation-some : (depth : ℕ) (op : Op) → 0 < length (op_line depth op)
unfolding op_line
operation-some depth op = omega arith

-- ---- lists of lines from one on

-- f of the element k, and f of those behind it
mapped-more : {X : Type 0} (f : X → List ℕ) (xs : List X) (k : ℕ) (x : X) → k < length xs → flat_map f (drop k xs) ≡ f (get_or xs k x) ++ flat_map f (drop (k + 1) xs)
mapped-more f xs k x inside = ap (flat_map f) (drop_more xs k x inside)

mapped-none : {X : Type 0} (f : X → List ℕ) (xs : List X) (k : ℕ) → length xs ≤ k → flat_map f (drop k xs) ≡ []
mapped-none f xs k past = ap (flat_map f) (drop_all k xs past)

buses-more : (ts : List Traffic) (k : ℕ) → k < length ts → bus_lines_from k (drop k ts) ≡ bus_line k (get_or ts k no_traffic) ++ bus_lines_from (k + 1) (drop (k + 1) ts)
unfolding bus_lines_from
buses-more ts k inside = ap (bus_lines_from k) (drop_more ts k no_traffic inside)

buses-none : (ts : List Traffic) (k : ℕ) → length ts ≤ k → bus_lines_from k (drop k ts) ≡ []
unfolding bus_lines_from
buses-none ts k past = ap (bus_lines_from k) (drop_all k ts past)

-- f of one element more stands behind a text
pub one-more : {X : Type 0} (f : X → List ℕ) (xs : List X) (k : ℕ) (x : X) (whole old new : List ℕ) → k < length xs → x ≡ get_or xs k x → whole ≡ old ++ flat_map f (drop k xs) → new ≡ old ++ f x → whole ≡ new ++ flat_map f (drop (k + 1) xs)
one-more f xs k x whole old new inside here so_far put =
    let rest = flat_map f (drop (k + 1) xs) in
    so_far ∙ ap (λ t. old ++ t) (mapped-more f xs k x inside) ∙ sym (append_assoc old (f (get_or xs k x)) rest) ∙ ap (λ t. t ++ rest) (ap (λ y. old ++ f y) (sym here) ∙ sym put)

-- ---- a hart's lines

regrouped : (a b c d e f g h i j : List ℕ) → (((a ++ b) ++ ((((c ++ d) ++ e) ++ (f ++ g)) ++ h)) ++ i) ++ j ≡ ((((a ++ b) ++ c) ++ d) ++ e) ++ (f ++ (g ++ (h ++ (i ++ j))))
regrouped a b c d e f g h i j = simp append_assoc

hart-parts : (completed : List Op) (hart : HartView) (i j : List ℕ) → (hart_lines completed hart ++ i) ++ j ≡ hart_front hart ++ (put_texts hart.number completed ++ (dash_behind (put_texts hart.number completed) ++ (codes "\n" ++ (i ++ j))))
unfolding hart_lines out_line
hart-parts completed hart i j =
    let output = put_texts hart.number completed in
    ap (λ o. ((hart_line_of hart ++ regs_line hart.number hart.hart.registers ++ (codes "out " ++ decimal hart.number ++ codes " " ++ o ++ codes "\n")) ++ i) ++ j) (or_dash-parts output)
    ∙ regrouped (hart_line_of hart) (regs_line hart.number hart.hart.registers) (codes "out ") (decimal hart.number) (codes " ") output (dash_behind output) (codes "\n") i j

-- ---- the part that comes next

-- a part that is there is next; behind the last one, what follows
chosen : (v : ReportView) (k n : ℕ) (part other : ReportPart) (text : List ℕ) → (k < n → (from_part v part ≡ text) × HasPart v part) → (n ≤ k → (from_part v other ≡ text) × HasPart v other) → (from_part v (cond (nat_lt k n) part other) ≡ text) × HasPart v (cond (nat_lt k n) part other)
chosen v k n part other text there past = go (nat_lt k n) refl
  where
    go : (b : Bool) → nat_lt k n ≡ b → (from_part v (cond b part other) ≡ text) × HasPart v (cond b part other)
    go true is = there (ltb-true k n is)
    go false is = past (ltb-false k n is)

module _ (v : ReportView) (size : ReportSize) (s : HasSize v size) where
  operation-next : (k : ℕ) → (from_part v (operation_part size k) ≡ from_operation v k) × HasPart v (operation_part size k)
  unfolding op_lines
  operation-next k = chosen v k size.operations (Operation k) End (from_operation v k)
      (λ l. (refl, omega (arith, s.operations, l)))
      (λ l. (sym (ap (λ (t : List ℕ). t ++ codes "end\n") (mapped-none (op_line v.depth) v.ops k (omega (arith, s.operations, l)))), tt))

  item-next : (k : ℕ) → (from_part v (item_part size k) ≡ from_item v k) × HasPart v (item_part size k)
  unfolding item_lines
  item-next k = chosen v k size.items (Item k) (operation_part size 0) (from_item v k)
      (λ l. (refl, omega (arith, s.items, l)))
      (λ l. ((operation-next 0).0 ∙ sym (ap (λ (t : List ℕ). t ++ from_operation v 0) (mapped-none item_line v.items k (omega (arith, s.items, l)))), (operation-next 0).1))

  bus-next : (k : ℕ) → (from_part v (bus_part size k) ≡ from_bus v k) × HasPart v (bus_part size k)
  bus-next k = chosen v k size.buses (Bus k) (item_part size 0) (from_bus v k)
      (λ l. (refl, omega (arith, s.buses, l)))
      (λ l. ((item-next 0).0 ∙ sym (ap (λ (t : List ℕ). t ++ from_item v 0) (buses-none v.traffic k (omega (arith, s.buses, l)))), (item-next 0).1))

  hart-next : (k : ℕ) → (from_part v (hart_part size k) ≡ from_hart v k) × HasPart v (hart_part size k)
  hart-next k = chosen v k size.harts (Hart k) (bus_part size 0) (from_hart v k)
      (λ l. (refl, omega (arith, s.harts, l)))
      (λ l. ((bus-next 0).0 ∙ sym (ap (λ (t : List ℕ). t ++ from_bus v 0) (mapped-none (hart_lines v.completed) v.harts k (omega (arith, s.harts, l)))), (bus-next 0).1))

  -- ---- each part's text

  pub head-gives : (t : List ℕ) → t ≡ head_lines v.counts → Gives v Head t (hart_part size 0)
  unfolding report_of
  head-gives t is = record {
    left = rw (is, (hart-next 0).0) (simp append_assoc);
    there = (hart-next 0).1;
    some = λ none. absurd (head-some v.counts (sym is ∙ none));
  }

  pub output-ends : (k n : ℕ) (put t : List ℕ) → HasPart v (Output k n) → put_texts k (drop n v.completed) ≡ put → t ≡ put ++ dash_behind (put_texts k v.completed) ++ codes "\n" → Gives v (Output k n) t (hart_part size (k + 1))
  output-ends k n put t there puts is = record {
    left = rw (is, puts, (hart-next (k + 1)).0) (simp append_assoc);
    there = (hart-next (k + 1)).1;
    some = λ none. absurd (not-ended (put ++ dash_behind (put_texts k v.completed)) (codes "\n") (omega arith) (sym is ∙ none));
  }

  -- where no hart has put anything
  pub silence-ends : (k n : ℕ) (t : List ℕ) → size.silent ≡ true → HasPart v (Output k n) → t ≡ codes "-\n" → Gives v (Output k n) t (hart_part size (k + 1))
  silence-ends k n t silent there is =
      let none = none-put k v.completed (sym s.silent ∙ silent) in
      output-ends k n [] t there (none-left k n v.completed none) (is ∙ ap (λ (o : List ℕ). [] ++ dash_behind o ++ codes "\n") (sym none))

  pub bus-gives : (k : ℕ) (t : List ℕ) → HasPart v (Bus k) → t ≡ bus_line k (get_or v.traffic k no_traffic) → Gives v (Bus k) t (bus_part size (k + 1))
  bus-gives k t there is = record {
    left = rw (is, (bus-next (k + 1)).0, buses-more v.traffic k there) (simp append_assoc);
    there = (bus-next (k + 1)).1;
    some = λ none. absurd (bus-some k (get_or v.traffic k no_traffic) (sym is ∙ none));
  }

  pub states-end : (k n : ℕ) (put t : List ℕ) → HasPart v (States k n) → letter_texts (drop n (states_shown v k)) ≡ put → t ≡ put ++ codes "\n" → Gives v (States k n) t (item_part size (k + 1))
  states-end k n put t there shown is = record {
    left = rw (is, shown, (item-next (k + 1)).0) (simp append_assoc);
    there = (item-next (k + 1)).1;
    some = λ none. absurd (not-ended put (codes "\n") (omega arith) (sym is ∙ none));
  }

  pub operations-give : (k next : ℕ) (t : List ℕ) → op_lines v.depth (drop k v.ops) ≡ t ++ op_lines v.depth (drop next v.ops) → 0 < length t → Gives v (Operation k) t (operation_part size next)
  operations-give k next t lines some = record {
    left = rw ((operation-next next).0, lines) (simp append_assoc);
    there = (operation-next next).1;
    some = λ none. let empty : length t ≡ 0 = ap length none in absurd (omega (arith, some, empty));
  }

module _ (v : ReportView) where
  pub hart-gives : (k : ℕ) (t : List ℕ) → HasPart v (Hart k) → (get_or v.harts k no_view).number ≡ k → t ≡ hart_front (get_or v.harts k no_view) → Gives v (Hart k) t (Output k 0)
  hart-gives k t there number is =
      let hart = get_or v.harts k no_view in
      let others = flat_map (hart_lines v.completed) (drop (k + 1) v.harts) in
      let behind : ℕ → List ℕ = λ n. put_texts n v.completed ++ (dash_behind (put_texts n v.completed) ++ (codes "\n" ++ (others ++ from_bus v 0))) in
      record {
        left = ap (λ l. l ++ from_bus v 0) (mapped-more (hart_lines v.completed) v.harts k no_view there)
            ∙ hart-parts v.completed hart others (from_bus v 0)
            ∙ ap (λ n. hart_front hart ++ behind n) number
            ∙ ap (λ l. l ++ behind k) (sym is);
        there = (there, omega arith);
        some = λ none. absurd (front-some hart (sym is ∙ none));
      }

  pub output-gives : (k n next : ℕ) (t : List ℕ) → HasPart v (Output k n) → next ≤ length v.completed → put_texts k (drop n v.completed) ≡ t ++ put_texts k (drop next v.completed) → 0 < length t → Gives v (Output k n) t (Output k next)
  output-gives k n next t there within puts some = record {
    left = rw puts (simp append_assoc);
    there = (there.0, within);
    some = λ none. let empty : length t ≡ 0 = ap length none in absurd (omega (arith, some, empty));
  }

  pub item-gives : (k : ℕ) (t : List ℕ) → HasPart v (Item k) → t ≡ front_of (get_or v.items k no_item) → Gives v (Item k) t (States k 0)
  unfolding item_lines
  item-gives k t there is = record {
    left = rw (is, mapped-more item_line v.items k no_item there, item_line-parts (get_or v.items k no_item)) (simp append_assoc);
    there = (there, omega arith);
    some = λ none. absurd (item-some (get_or v.items k no_item) (sym is ∙ none));
  }

  pub states-gives : (k n next : ℕ) (t : List ℕ) → HasPart v (States k n) → next ≤ length v.harts → letter_texts (drop n (states_shown v k)) ≡ t ++ letter_texts (drop next (states_shown v k)) → 0 < length t → Gives v (States k n) t (States k next)
  states-gives k n next t there within shown some = record {
    left = rw shown (simp append_assoc);
    there = (there.0, within);
    some = λ none. let empty : length t ≡ 0 = ap length none in absurd (omega (arith, some, empty));
  }

  pub end-gives : (t : List ℕ) → t ≡ codes "end\n" → Gives v End t Nothing
  end-gives t is = record {
    left = rw is (sym (append-nil (codes "end\n")));
    there = tt;
    some = λ none. absurd (not-empty (sym is ∙ none));
  }

  pub nothing-gives : (t : List ℕ) → t ≡ [] → Gives v Nothing t Nothing
  nothing-gives t is = record { left = rw is refl; there = tt; some = λ none. refl }
