-- Lines of a report as their parts.
use Rattle.std.proofs.Common.{◌≡◌, ◌<◌, ◌≤◌, ℕ, ◌+◌, Bool, true, false, true≢false, List, [], ◌∷◌, ◌++◌, length, take, drop, get_or, refl, sym, ap, ◌∙◌}
use Rattle.std.specs.Prelude.{codes, nat_eq, if◌then◌else◌}
use Rattle.std.specs.List.{flat_map}
use Rattle.std.proofs.lemmas.List.{append-nil, at_drop_more, drop_all, take-append-drop}
use Rattle.std.proofs.lemmas.Grind.{flat_map-append}
use Rattle.report.specs.DdmTypes.declared.operations.Op.{Op}
use Rattle.text_model.specs.Report.{ItemView, item_line, letter_texts, or_dash, put_text, put_text_by, put_texts}
use Rattle.report.specs.LineParts.{any_byte, are_silent, dash_behind, item_front}

pub not-empty : {x : ℕ} {xs : List ℕ} → x ∷ xs ≡ [] → ⊥
not-empty none = cc

pub item_line-parts : (v : ItemView) → item_line v ≡ item_front v.number v.address v.words v.place ++ letter_texts v.states ++ codes "\n"
unfolding item_line item_front
item_line-parts v = refl

-- a hart's output with its dash
pub or_dash-parts : (output : List ℕ) → or_dash output ≡ output ++ dash_behind output
or_dash-parts [] = refl
or_dash-parts (byte ∷ bytes) = sym (append-nil (byte ∷ bytes))

-- ---- a hart's output from an operation on

-- all of it is put where nothing comes behind
pub output-last : (hart from after : ℕ) (ops : List Op) (put : List ℕ) → length ops ≤ after → put_texts hart (drop from ops) ≡ put ++ put_texts hart (drop after ops) → put_texts hart (drop from ops) ≡ put
unfolding put_texts
output-last hart from after ops put past puts = puts ∙ ap (λ (os : List Op). put ++ put_texts hart os) (drop_all after ops past) ∙ append-nil put

-- it stands behind that of the operations before
output-cut : (hart from : ℕ) (ops : List Op) → put_texts hart ops ≡ put_texts hart (take from ops) ++ put_texts hart (drop from ops)
unfolding put_texts
output-cut hart from ops = ap (put_texts hart) (sym (take-append-drop from ops)) ∙ flat_map-append (put_text_by hart) (take from ops) (drop from ops)

-- a byte is put by an operation or by those behind it
either-byte : (xs ys : List ℕ) → any_byte (xs ++ ys) ≡ (if any_byte xs then true else any_byte ys)
either-byte [] ys = refl
either-byte (x ∷ xs) ys = refl

pub byte-from : (hart k : ℕ) (ops : List Op) (op : Op) (puts : Bool) → k < length ops → op ≡ get_or ops k op → any_byte (put_text_by hart op) ≡ puts
    → any_byte (put_texts hart (drop k ops)) ≡ (if puts then true else any_byte (put_texts hart (drop (k + 1) ops)))
unfolding put_texts
byte-from hart k ops op puts inside here is =
    let behind = flat_map (put_text_by hart) (drop (k + 1) ops) in
    at_drop_more (λ os. any_byte (flat_map (put_text_by hart) os)) ops k op inside ∙ (either-byte (put_text_by hart (get_or ops k op)) behind
    ∙ ap (λ (b : Bool). if b then true else any_byte behind) (ap (λ o. any_byte (put_text_by hart o)) (sym here) ∙ is))

-- whoever's byte it is
pub silent-from : (k : ℕ) (ops : List Op) (op : Op) (puts : Bool) → k < length ops → op ≡ get_or ops k op → any_byte (put_text op.effect) ≡ puts
    → are_silent (drop k ops) ≡ (if puts then false else are_silent (drop (k + 1) ops))
silent-from k ops op puts inside here is =
    at_drop_more are_silent ops k op inside ∙ ap (λ (b : Bool). if b then false else are_silent (drop (k + 1) ops)) (ap (λ (o : Op). any_byte (put_text o.effect)) (sym here) ∙ is)

-- none is there where no operation puts a byte
no-byte : (text : List ℕ) → any_byte text ≡ false → text ≡ []
no-byte [] none = refl
no-byte (byte ∷ bytes) none = absurd (true≢false none)

put-by-none : (hart : ℕ) (op : Op) → put_text op.effect ≡ [] → put_text_by hart op ≡ []
put-by-none hart op none = elim (nat_eq op.hart hart) as (λ b. (if b then put_text op.effect else []) ≡ []) [ true ↦ none | false ↦ refl ]

pub none-put : (hart : ℕ) (ops : List Op) → are_silent ops ≡ true → put_texts hart ops ≡ []
unfolding put_texts
none-put hart [] silent = refl
none-put hart (op ∷ ops) silent = go (any_byte (put_text op.effect)) refl silent (none-put hart ops)
  where
    go : (b : Bool) → any_byte (put_text op.effect) ≡ b → (if b then false else are_silent ops) ≡ true → (are_silent ops ≡ true → flat_map (put_text_by hart) ops ≡ []) → flat_map (put_text_by hart) (op ∷ ops) ≡ []
    go true is silent rest = absurd (true≢false (sym silent))
    go false is silent rest = ap (λ t. t ++ flat_map (put_text_by hart) ops) (put-by-none hart op (no-byte (put_text op.effect) is)) ∙ rest silent

behind-none : (xs ys : List ℕ) → xs ++ ys ≡ [] → ys ≡ []
behind-none [] ys none = none
behind-none (x ∷ xs) ys none = absurd (not-empty none)

pub none-left : (hart from : ℕ) (ops : List Op) → put_texts hart ops ≡ [] → put_texts hart (drop from ops) ≡ []
none-left hart from ops none = behind-none (put_texts hart (take from ops)) (put_texts hart (drop from ops)) (sym (output-cut hart from ops) ∙ none)

no-dash : (before : List ℕ) (byte : ℕ) (bytes : List ℕ) → dash_behind (before ++ byte ∷ bytes) ≡ []
no-dash [] byte bytes = refl
no-dash (first ∷ before) byte bytes = refl

-- the dash behind it, by what the operations before have put
before-by : (before : List ℕ) (found : Bool) → any_byte before ≡ found → dash_behind before ≡ (if found then [] else codes "-")
before-by before found is = ap (λ (b : Bool). if b then [] else codes "-") is

module _ (hart from : ℕ) (ops : List Op) (line : List ℕ) (puts : put_texts hart (drop from ops) ≡ line) where
  -- where it isn't empty no dash follows
  pub no-dash_behind : (line ≡ [] → ⊥) → line ≡ line ++ dash_behind (put_texts hart ops)
  no-dash_behind some = sym (ap (λ d. line ++ d) (by_line line puts some) ∙ append-nil line)
    where
      by_line : (line : List ℕ) → put_texts hart (drop from ops) ≡ line → (line ≡ [] → ⊥) → dash_behind (put_texts hart ops) ≡ []
      by_line [] puts some = absurd (some refl)
      by_line (byte ∷ bytes) puts some =
          ap dash_behind (output-cut hart from ops ∙ ap (λ l. put_texts hart (take from ops) ++ l) puts) ∙ no-dash (put_texts hart (take from ops)) byte bytes

  -- where it is empty the operations before decide
  pub dash-by : (found : Bool) → line ≡ [] → any_byte (put_texts hart (take from ops)) ≡ found → dash_behind (put_texts hart ops) ≡ (if found then [] else codes "-")
  dash-by found none is =
      let before = put_texts hart (take from ops) in
      ap dash_behind (output-cut hart from ops ∙ ap (λ l. before ++ l) (puts ∙ none) ∙ append-nil before) ∙ before-by before found is
