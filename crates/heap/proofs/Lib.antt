pub mod CallLaws
pub mod AllocateLaws
pub mod FreeLaws
pub mod ReallocateLaws
