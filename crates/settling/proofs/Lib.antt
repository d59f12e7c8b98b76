pub mod SettledLaws
pub mod DraftLaws
