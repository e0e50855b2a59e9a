-- Of `order_lists`, what this crate and those above it name.
pub use Rattle.cluster.proofs.OrderLists.Listed
pub use Rattle.cluster.proofs.OrderLists.Sorted
