pub mod MoveMeaning
pub mod ResizeMeaning
