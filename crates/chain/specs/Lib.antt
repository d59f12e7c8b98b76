pub mod Chain
pub mod Length
