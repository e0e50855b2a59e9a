-- Of `order_lists`, what this crate and those above it name.
pub use Rattle.inspector.proofs.OrderLists.Listed
pub use Rattle.inspector.proofs.OrderLists.Sorted
