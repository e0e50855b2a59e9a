-- Of `order_laws`, what this crate and those above it name.
pub use Rattle.ddm_tree.specs.OrderLaws.EveryTurn
