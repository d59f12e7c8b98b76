pub mod Need
pub mod Choose
pub mod Cut
pub mod Serve
