pub mod Markup
pub mod ReportMarkup
pub mod FilmMarkup
pub mod RegistersKept
pub mod StillKeys
pub mod Replay
pub mod KeysApart
