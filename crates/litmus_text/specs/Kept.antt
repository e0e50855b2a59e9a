-- The sections that the code keeps.
use Rattle.litmus_model.specs.Sections.{Sections}
use Rattle.litmus_text.specs.declared.sections.Sections as kept

abbrev pub sections_from : kept.Sections → Sections
sections_from s = record {
  name = s.name.items;
  init = s.init.items;
  closing = s.closing;
  program = s.program.items;
  condition_line = s.condition_line;
  final = s.last.items;
  end = s.end;
}
