pub mod MarksLaws
