-- The definition computed on files.
use Rattle.std.proofs.Common.{◌≡◌, ℕ, List, [], ◌∷◌, ◌++◌, Ok, Err, refl}
use Rattle.std.specs.Prelude.{codes}
use Rattle.tree_model.specs.Start.Sources.{TreeValue}
use Rattle.tree_config.specs.declared.refusal.TreeKey.TheVariants as key
use Rattle.tree_config.specs.declared.refusal.TreeRefusal.TheVariants as refusal
use Rattle.tree_config.specs.ShapeText.{read_from}
use Rattle.tree_config.proofs.OnLiterals.{tree_file_on_literals}
use Rattle.tree_config.specs.TreeFile.{levels_in, tree_of}

a_leaf : levels_in (codes "(L)") ≡ Ok ((1 ∷ []) ∷ [])
unfolding levels_in read_from
a_leaf = refl

two_levels : levels_in (codes "((LL)(L))") ≡ Ok ((2 ∷ []) ∷ (2 ∷ 1 ∷ []) ∷ [])
unfolding levels_in read_from
two_levels = refl

no_node : levels_in (codes "()") ≡ Err (refusal.BadShape 1)
unfolding levels_in read_from
no_node = refl

no_text : levels_in [] ≡ Err (refusal.BadShape 0)
unfolding levels_in read_from
no_text = refl

cut_off : levels_in (codes "((L)") ≡ Err (refusal.BadShape 4)
unfolding levels_in read_from
cut_off = refl

more_behind : levels_in (codes "(L)L") ≡ Err (refusal.BadShape 3)
unfolding levels_in read_from
more_behind = refl

uneven : levels_in (codes "((L)L)") ≡ Err refusal.Uneven
unfolding levels_in read_from
uneven = refl

depth_four : levels_in (codes "((((L))))") ≡ Ok ((1 ∷ []) ∷ (1 ∷ []) ∷ (1 ∷ []) ∷ (1 ∷ []) ∷ [])
unfolding levels_in read_from
depth_four = refl

depth_five : levels_in (codes "(((((L)))))") ≡ Err refusal.TooDeep
unfolding levels_in read_from
depth_five = refl

seventeen : levels_in (codes "(LLLLLLLLLLLLLLLLL)") ≡ Err refusal.TooWide
unfolding levels_in read_from
seventeen = refl

-- ---- whole files

shape_judged_first : tree_of (codes "shape = \"()\"") ≡ Err (refusal.BadShape 1)
unfolding tree_file_on_literals
shape_judged_first = refl

no_value : tree_of (codes "shape = ") ≡ Err refusal.NotToml
unfolding tree_file_on_literals
no_value = refl

abbrev before_ways : List ℕ
before_ways = codes "shape = \"((LL)(L))\"\n"

abbrev sizes : List ℕ
sizes = codes "sets = 1\nbuffer = 2\nparking = 3\ndown = 16\nrequests = 17\n"

abbrev stacks : List ℕ
stacks = codes "stack_base = 196608\nstack_bytes = 16\n"

abbrev plain : List ℕ
plain = before_ways ++ codes "ways = 4\n" ++ sizes ++ codes "replies = 18\n" ++ stacks

abbrev tree_with : ℕ → TreeValue
tree_with item_bytes = record {
  levels = (2 ∷ []) ∷ (2 ∷ 1 ∷ []) ∷ [];
  way_count = 4;
  sizes = record { sets = 1; buffer = 2; parking = 3; down = 16; requests = 17; replies = 18 };
  stack_base = 196608;
  stack_bytes = 16;
  item_bytes = item_bytes;
}

ten_lines : tree_of plain ≡ Ok (tree_with 16)
unfolding tree_file_on_literals
ten_lines = refl

wide_items : tree_of (plain ++ codes "item_bytes = 64\n") ≡ Ok (tree_with 64)
unfolding tree_file_on_literals
wide_items = refl

items_of_32 : tree_of (plain ++ codes "item_bytes = 32\n") ≡ Err (refusal.OutOfRange key.ItemBytes)
unfolding tree_file_on_literals
items_of_32 = refl

three_ways : tree_of (before_ways ++ codes "ways = 3\n" ++ sizes ++ codes "replies = 18\n" ++ stacks) ≡ Err (refusal.OutOfRange key.Ways)
unfolding tree_file_on_literals
three_ways = refl

sets_as_text : tree_of (before_ways ++ codes "ways = 4\nsets = \"4\"\n") ≡ Err (refusal.WrongType key.Sets)
unfolding tree_file_on_literals
sets_as_text = refl

no_replies : tree_of (before_ways ++ codes "ways = 4\n" ++ sizes ++ stacks) ≡ Err (refusal.MissingKey key.Replies)
unfolding tree_file_on_literals
no_replies = refl

unknown_key : tree_of (plain ++ codes "cache = 1\n") ≡ Err (refusal.UnknownKey (codes "cache"))
unfolding tree_file_on_literals
unknown_key = refl

least_of_two : tree_of (plain ++ codes "zebra = 1\nant = 1\nbee = 2\n") ≡ Err (refusal.UnknownKey (codes "ant"))
unfolding tree_file_on_literals
least_of_two = refl

stacks_too_high : tree_of (before_ways ++ codes "ways = 4\n" ++ sizes ++ codes "replies = 18\nstack_base = 4294967264\nstack_bytes = 16\n") ≡ Err (refusal.OutOfRange key.StackBytes)
unfolding tree_file_on_literals
stacks_too_high = refl

negative_ways : tree_of (before_ways ++ codes "ways = -1\n") ≡ Err (refusal.OutOfRange key.Ways)
unfolding tree_file_on_literals
negative_ways = refl

not_utf8 : tree_of (35 ∷ 255 ∷ []) ≡ Err refusal.NotToml
unfolding tree_file_on_literals
not_utf8 = refl
