use Rattle.std.proofs.Common.{◌≡◌, ℕ, Bool, true, false, cond, List, [], ◌∷◌, Option, Some, None, refl, sym, ap, ◌∙◌}
use Rattle.std.specs.Prelude.{bytes_eq, codes, option_map}
use Rattle.witness_check.specs.DdmTypes.declared.keys.Key.{Key}
use Rattle.witness_check.specs.DdmTypes.declared.operations.Op.{Op}
use Rattle.text_model.specs.Schedule.{pieces_at, place_in}
use Rattle.witness_check.specs.Lines.{effect_of_words, hex8_in, key_in, op_in, op_of_parts, op_of_words, without_key}
use Rattle.witness_check.proofs.lines.op_of_line.Goals as goal

no_effect : (hart : Option ℕ) (key : Option Key) (pc : Option ℕ) → op_of_parts hart key pc None ≡ None
no_effect (Some hart) (Some key) (Some pc) = refl
no_effect (Some hart) (Some key) None = refl
no_effect (Some hart) None pc = refl
no_effect None key pc = refl

no_op : (d : Bool) (o : Option Op) → o ≡ None → cond d o None ≡ None
no_op true o none = none
no_op false o none = refl

-- a text of four words
too_few : (line first second third a b c : List ℕ) → pieces_at 32 line ≡ a ∷ pieces_at 32 first → pieces_at 32 first ≡ b ∷ pieces_at 32 second → pieces_at 32 second ≡ c ∷ pieces_at 32 third
    → pieces_at 32 third ≡ third ∷ [] → None ≡ option_map without_key (op_in line)
unfolding op_in op_of_words effect_of_words
too_few line first second third a b c one two three four =
    sym (ap (λ ws. option_map without_key (op_of_words ws)) (one ∙ ap (λ (ws : List (List ℕ)). a ∷ ws) (two ∙ ap (λ (ws : List (List ℕ)). b ∷ ws) (three ∙ ap (λ (ws : List (List ℕ)). c ∷ ws) four)))
    ∙ ap (λ o. option_map without_key o) (no_op (bytes_eq a (codes "op")) _ (no_effect (place_in b) (key_in c) (hex8_in third))))

pub returns-in_default : goal.returns-in_default
returns-in_default c =
    too_few c.args.line.now c.in_ok-mark.first.now c.in_ok-hart.second.now c.in_ok-key.third.now c.in_ok-mark.mark.now c.in_ok-hart.hart.now c.in_ok-key.key.now
    c.in_ok-mark.ensures c.in_ok-hart.ensures c.in_ok-key.ensures c.in_default.ensures
