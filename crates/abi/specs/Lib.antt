pub mod Flat
pub mod Handed
pub mod Replied
