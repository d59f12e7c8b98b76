pub mod AskLaws
pub mod AskMeaning
