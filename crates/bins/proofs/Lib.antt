pub mod BinsSteps
pub mod SearchLaws
pub mod BinsMeaning
