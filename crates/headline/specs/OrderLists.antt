-- Of `order_lists`, what this crate and those above it name.
pub use Rattle.order_laws.specs.OrderLists.Copies
