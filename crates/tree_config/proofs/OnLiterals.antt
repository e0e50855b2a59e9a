-- What an answer unfolds to compute a tree file's tree on a literal.
use Rattle.std.specs.Prelude.{⊤}
use Rattle.std.specs.Char.{encode_utf8}
use Rattle.std.specs.Str.{chars, is_utf8}
use Rattle.toml.proofs.OnLiterals.{toml_on_literals}
use Rattle.tree_config.specs.ShapeText.{read_from}
use Rattle.tree_config.specs.TreeFile.{number_at, sizes_at, stack_bytes_at, item_bytes_at, levels_in, shape_at, tree_in, tree_of}

unfoldable pub tree_file_on_literals : ⊤
unfolding encode_utf8 chars is_utf8 toml_on_literals read_from number_at sizes_at stack_bytes_at item_bytes_at levels_in shape_at tree_in tree_of
tree_file_on_literals = tt
