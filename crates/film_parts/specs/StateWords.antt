-- Of `state_words`, what this crate and those above it name.
pub use Rattle.state_words.specs.Numbers
pub use Rattle.state_words.specs.Parts
