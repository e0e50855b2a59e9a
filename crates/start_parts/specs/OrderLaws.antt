-- Of `order_laws`, what this crate and those above it name.
pub use Rattle.cluster.specs.OrderLaws.EveryTurn
