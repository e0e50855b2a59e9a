-- Of `order_laws`, what this crate and those above it name.
pub use Rattle.headline.proofs.OrderLaws.EveryTurn
pub use Rattle.headline.proofs.OrderLaws.Hart
