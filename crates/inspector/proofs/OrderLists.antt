-- Of `order_lists`, what this crate and those above it name.
pub use Rattle.start_parts.proofs.OrderLists.Listed
pub use Rattle.start_parts.proofs.OrderLists.Sorted
