-- Of `ddm_words`, what those above this crate name.
pub use Rattle.ddm_words.specs.Commands
pub use Rattle.ddm_words.specs.declared
