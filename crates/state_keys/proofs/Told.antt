-- The test of machines is exact: what is stored alike is alike, and what is alike is stored alike.
-- Letters: m and n are machines, a, b, c and d are values as a proof stores them.
use Rattle.std.specs.Prelude.{◌≡◌, ℕ, true, List, [], refl}
use Rattle.std.proofs.Common.{ap, sym, ◌∙◌}
use Rattle.std.specs.Cmp.Derive.{both_true}
use Rattle.std.proofs.lemmas.Bool.{and_parts, eqb-true, eq-eqb}
use base.Stored.{Gv, gnil, gnum, gcons}
use Rattle.state_keys.specs.DdmTypes.CodeMap.{CodeWord}
use Rattle.state_keys.specs.DdmTypes.ItemTable.{ItemTable}
use Rattle.state_keys.specs.TreeModel.declared.Traffic.{Traffic}
use Rattle.state_keys.specs.TreeModel.State.Codes.{stored_node, stored_node-injective}
use Rattle.state_keys.specs.TreeModel.State.Values.{DirValue, Nodes, dir_node, MachineValue, root_of}
use Rattle.time_laws.specs.Forget.{forget, puts_of, Alike}
use Rattle.state_keys.specs.Same.{parts_code, state_parts, stored_state, same_stored, same_state}

stored-same : (a b : Gv) → same_stored a b ≡ true → a ≡ b
stored-same gnil gnil e = refl
stored-same gnil (gnum b) e = cc
stored-same gnil (gcons b d) e = cc
stored-same (gnum a) gnil e = cc
stored-same (gnum a) (gnum b) e = ap gnum (eqb-true a b e)
stored-same (gnum a) (gcons b d) e = cc
stored-same (gcons a c) gnil e = cc
stored-same (gcons a c) (gnum b) e = cc
stored-same (gcons a c) (gcons b d) e =
    let first = stored-same a b (and_parts _ _ e).0 in
    let rest = stored-same c d (and_parts _ _ e).1 in
    rw (first, rest) refl

stored-itself : (a : Gv) → same_stored a a ≡ true
stored-itself gnil = refl
stored-itself (gnum a) = eq-eqb a a refl
stored-itself (gcons a c) = both_true (stored-itself a) (stored-itself c)

-- a machine without operations, of its parts
abbrev made_of : List CodeWord → ItemTable → DirValue → Nodes → List Traffic → MachineValue
made_of code items top kids traffic = record { code = code; items = items; top = top; kids = kids; ops = []; traffic = traffic }

same_parts : (a b : List CodeWord) (c d : ItemTable) (e f : DirValue) (g h : Nodes) (k l : List Traffic) → a ≡ b → c ≡ d → e ≡ f → g ≡ h → k ≡ l → made_of a c e g k ≡ made_of b d f h l
same_parts a b c d e f g h k l code items top kids traffic = rw (code, items, top, kids, traffic) refl

top_same : (d e : DirValue) (ns ms : Nodes) → dir_node d ns ≡ dir_node e ms → d ≡ e
top_same d e ns ms same = cc

kids_same : (d e : DirValue) (ns ms : Nodes) → dir_node d ns ≡ dir_node e ms → ns ≡ ms
kids_same d e ns ms same = cc

stored-alike : (m n : MachineValue) → stored_state m ≡ stored_state n → Alike m n
stored-alike m n e =
    let parts = parts_code.inj _ _ e in
    let tree : stored_node (root_of (forget m)) ≡ stored_node (root_of (forget n)) = cc in
    let root = stored_node-injective (root_of (forget m)) (root_of (forget n)) tree in
    let top = top_same (forget m).top (forget n).top (forget m).kids (forget n).kids root in
    let kids = kids_same (forget m).top (forget n).top (forget m).kids (forget n).kids root in
    let code : (forget m).code ≡ (forget n).code = cc in
    let items : (forget m).items ≡ (forget n).items = cc in
    let traffic : (forget m).traffic ≡ (forget n).traffic = cc in
    let puts : puts_of m ≡ puts_of n = cc in
    record {
      state = same_parts (forget m).code (forget n).code (forget m).items (forget n).items (forget m).top (forget n).top (forget m).kids (forget n).kids (forget m).traffic (forget n).traffic code items top kids traffic;
      puts = puts;
    }

pub same-alike : (m n : MachineValue) → same_state m n ≡ true → Alike m n
unfolding same_state
same-alike m n e = stored-alike m n (stored-same (stored_state m) (stored_state n) e)

alike-stored : (m n : MachineValue) → Alike m n → stored_state m ≡ stored_state n
alike-stored m n alike =
    let forgotten : parts_code.code (state_parts (forget m).code (forget m).items (stored_node (root_of (forget m))) (forget m).traffic (puts_of m))
    ≡ parts_code.code (state_parts (forget n).code (forget n).items (stored_node (root_of (forget n))) (forget n).traffic (puts_of m))
    = ap (λ (k : MachineValue). parts_code.code (state_parts k.code k.items (stored_node (root_of k)) k.traffic (puts_of m))) alike.state in
    forgotten ∙ ap (λ (puts : List (List ℕ)). parts_code.code (state_parts (forget n).code (forget n).items (stored_node (root_of (forget n))) (forget n).traffic puts)) alike.puts

pub alike-same : (m n : MachineValue) → Alike m n → same_state m n ≡ true
unfolding same_state
alike-same m n alike = ap (same_stored (stored_state m)) (sym (alike-stored m n alike)) ∙ stored-itself (stored_state m)
