use Rattle.std.proofs.Common.{◌≡◌, sym, rules}
use Rattle.std.specs.List.{filter, flat_map}
use Rattle.std.specs.List.Sorted.{IsPermutation, IsNonDecreasingBy}
use Rattle.std.proofs.lemmas.List.Elements.{filter_from_retain}
use Rattle.std.proofs.lemmas.List.Sorted.{IsNonDecreasingBy-from_sort_by_key}
use Rattle.ddm_types.proofs.code_map.Code.from_parts.Goals as goal
use Rattle.ddm_types.proofs.code_map.Code.from_parts.Goals.{In_ok-sort_by_key}
use Rattle.ddm_types.specs.CodeMap.{code_of, part_words}
use Rattle.ddm_types.proofs.Entries.{code_of-rule}
use Rattle.ddm_types.proofs.Parts.{is_full, sorted-in_order, sorted-code}

kept : (c : In_ok-sort_by_key) → c.retain.new.self.items ≡ filter is_full c.args.parts.items
kept c = filter_from_retain _ is_full (λ p x b q k. search rules) _ _ _ c.retain.ensures.filtered

moves : (c : In_ok-sort_by_key) → IsPermutation (filter is_full c.args.parts.items) c.sort_by_key.new.self.items
moves c = rw (sym (kept c)) c.sort_by_key.ensures.permutation

rise : (c : In_ok-sort_by_key) → IsNonDecreasingBy (λ p. p.start) c.sort_by_key.new.self.items
rise c = IsNonDecreasingBy-from_sort_by_key (λ p. p.start) _ c.in_ok-sort_by_key.ensures.sorted (λ a r q k. search rules)

pub invariant_of-result : goal.invariant_of-result
invariant_of-result c = sorted-in_order c.args.parts.items c.sort_by_key.new.self.items (moves c) c.requires.disjoint (rise c)

is_code : (c : In_ok-sort_by_key) → flat_map part_words c.sort_by_key.new.self.items ≡ code_of (flat_map part_words c.args.parts.items)
is_code c = sorted-code c.args.parts.items c.sort_by_key.new.self.items (moves c) c.requires.disjoint (rise c)

pub returns-clause-code : goal.returns-clause-code
returns-clause-code c = is_code c

pub returns-clause-rule : goal.returns-clause-rule
returns-clause-rule c = rw (is_code c) (code_of-rule (flat_map part_words c.args.parts.items))
