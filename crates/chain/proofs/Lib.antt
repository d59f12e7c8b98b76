pub mod EndLaws
pub mod LengthLaws
