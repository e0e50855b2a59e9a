-- Of `rv_decode`, what this crate and those above it name.
pub use Rattle.rv_decode.specs.Encode
pub use Rattle.rv_decode.specs.Table
pub use Rattle.rv_decode.specs.Valid
pub use Rattle.rv_decode.specs.declared
