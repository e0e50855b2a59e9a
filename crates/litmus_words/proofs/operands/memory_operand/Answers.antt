use Rattle.std.proofs.Common.{◌≡◌, length, get_or, sym, ◌∙◌, arith}
use Rattle.std.proofs.lemmas.List.{get_or_default}
use Rattle.litmus_words.proofs.Places.{after_none, after_one, after_two}
use Rattle.litmus_words.proofs.operands.memory_operand.Goals as goal

pub returns-in-len3-clause-place : goal.returns-in-len3-clause-place
returns-in-len3-clause-place c =
    let parts = c.args.parts.now in
    let count : length c.args.parts.now ≡ 3 = omega (arith, c.in-len3.len_at_least, c.in-len3.len_below) in
    let whole = after_none c.args.line parts c.left-item.result count in
    let left : get_or c.args.parts.now 0 c.left-item.result ≡ c.left-item.result = sym c.left-item.is in
    let register : get_or c.args.parts.now 1 c.left-item.result ≡ c.register-item.result =
    get_or_default parts 1 c.left-item.result c.register-item.result (omega (arith, count)) ∙ sym c.register-item.is in
    let right : get_or c.args.parts.now 2 c.left-item.result ≡ c.right-item.result =
    get_or_default parts 2 c.left-item.result c.right-item.result (omega (arith, count)) ∙ sym c.right-item.is in
    cc (whole, left, register, right, c.plain_place.ensures.place)

pub returns-in-len4-clause-place : goal.returns-in-len4-clause-place
returns-in-len4-clause-place c =
    let parts = c.args.parts.now in
    let count : length c.args.parts.now ≡ 4 = omega (arith, c.in-len4.len_at_least, c.in-len4.len_below) in
    let whole = after_one c.args.line parts c.left-item-then-parts-lt5.result count in
    let left : get_or c.args.parts.now 1 c.left-item-then-parts-lt5.result ≡ c.left-item-then-parts-lt5.result = sym c.left-item-then-parts-lt5.is in
    let register : get_or c.args.parts.now 2 c.left-item-then-parts-lt5.result ≡ c.register-item-then-parts-lt5.result =
    get_or_default parts 2 c.left-item-then-parts-lt5.result c.register-item-then-parts-lt5.result (omega (arith, count)) ∙ sym c.register-item-then-parts-lt5.is in
    let right : get_or c.args.parts.now 3 c.left-item-then-parts-lt5.result ≡ c.right-item-then-parts-lt5.result =
    get_or_default parts 3 c.left-item-then-parts-lt5.result c.right-item-then-parts-lt5.result (omega (arith, count)) ∙ sym c.right-item-then-parts-lt5.is in
    cc (whole, left, register, right, c.bracketed.ensures.place)

pub returns-in-len5-clause-place : goal.returns-in-len5-clause-place
returns-in-len5-clause-place c =
    let parts = c.args.parts.now in
    let count : length c.args.parts.now ≡ 5 = omega (arith, c.in-len5.len_at_least, c.in-len5.len_below) in
    let whole = after_two c.args.line parts c.left-item-then-parts-lt6.result count in
    let left : get_or c.args.parts.now 2 c.left-item-then-parts-lt6.result ≡ c.left-item-then-parts-lt6.result = sym c.left-item-then-parts-lt6.is in
    let register : get_or c.args.parts.now 3 c.left-item-then-parts-lt6.result ≡ c.register-item-then-parts-lt6.result =
    get_or_default parts 3 c.left-item-then-parts-lt6.result c.register-item-then-parts-lt6.result (omega (arith, count)) ∙ sym c.register-item-then-parts-lt6.is in
    let right : get_or c.args.parts.now 4 c.left-item-then-parts-lt6.result ≡ c.right-item-then-parts-lt6.result =
    get_or_default parts 4 c.left-item-then-parts-lt6.result c.right-item-then-parts-lt6.result (omega (arith, count)) ∙ sym c.right-item-then-parts-lt6.is in
    cc (whole, left, register, right, c.bracketed-in-len5.ensures.place)
