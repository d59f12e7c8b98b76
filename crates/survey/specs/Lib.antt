pub mod Chunks
pub mod Survey
