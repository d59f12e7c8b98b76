pub mod ChooseLaws
pub mod ChooseMeaning
pub mod CutMeaning
pub mod ServeMeaning
pub mod NeedMeaning
