-- Of `made_image`, what this crate and those above it name.
pub use Rattle.run_engine.specs.MadeImage.MadeImage
