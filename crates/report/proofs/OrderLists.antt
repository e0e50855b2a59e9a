-- Of `order_lists`, what this crate and those above it name.
pub use Rattle.any_machine.proofs.OrderLists.Listed
pub use Rattle.any_machine.proofs.OrderLists.Sorted
