pub mod Heap
pub mod Answers
pub mod Questions
pub mod Table
