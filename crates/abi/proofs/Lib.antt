pub mod FlatLaws
pub mod ComplementLaws
pub mod AnswerLaws
pub mod BackLaws
pub mod HandedLaws
