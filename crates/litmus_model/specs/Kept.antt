-- The test that the code keeps.
use Rattle.litmus_model.specs.declared.test.Test as kept
use Rattle.litmus_model.specs.Test.{Test}

abbrev pub test_from : kept.Test → Test
test_from t = record {
  name = t.name.items;
  threads = t.threads;
  program = t.program.items;
  init = t.init.items;
  quantifier = t.quantifier;
  chunks = t.chunks.items;
  observed = t.observed.items;
  locations = t.locations.items;
}
