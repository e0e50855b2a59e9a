pub mod DdmText
pub mod Page
