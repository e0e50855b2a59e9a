-- Of `litmus_model`, what crates above this one name.
pub use Rattle.litmus_model.specs.declared
pub use Rattle.litmus_model.specs.Image
pub use Rattle.litmus_model.specs.Kept
pub use Rattle.litmus_model.specs.Sound
pub use Rattle.litmus_model.specs.Test
