pub mod Links
pub mod Mends
pub mod Skim
pub mod Walks
pub mod Tours
