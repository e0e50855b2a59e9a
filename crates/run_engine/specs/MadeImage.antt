-- Of `made_image`, what this crate and those above it name.
pub use Rattle.made_image.specs.MadeImage
