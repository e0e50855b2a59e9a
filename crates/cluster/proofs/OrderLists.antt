-- Of `order_lists`, what this crate and those above it name.
pub use Rattle.ddm_tree.proofs.OrderLists.Listed
pub use Rattle.ddm_tree.proofs.OrderLists.Sorted
