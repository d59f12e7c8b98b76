pub mod AnswersLaws
pub mod TableLaws
pub mod TableSteps
pub mod HalvingLaws
