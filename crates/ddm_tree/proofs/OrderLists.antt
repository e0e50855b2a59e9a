-- Of `order_lists`, what this crate and those above it name.
pub use Rattle.headline.proofs.OrderLists.Filters
pub use Rattle.headline.proofs.OrderLists.Keys
pub use Rattle.headline.proofs.OrderLists.Levels
pub use Rattle.headline.proofs.OrderLists.Listed
pub use Rattle.headline.proofs.OrderLists.Moments
pub use Rattle.headline.proofs.OrderLists.NoHold
pub use Rattle.headline.proofs.OrderLists.OneLeaf
pub use Rattle.headline.proofs.OrderLists.Sorted
pub use Rattle.headline.proofs.OrderLists.Stamps
