pub mod Reclaim
