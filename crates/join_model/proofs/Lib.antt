pub mod DdmText
pub mod OutcomeModel
pub mod TextModel
mod Found
mod Joining
mod OneTable
mod Ranges
pub mod ReadBack
pub mod Counted
mod Summed
mod RangeTexts
mod OutcomeTexts
