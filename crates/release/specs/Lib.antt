pub mod Release
pub mod Give
