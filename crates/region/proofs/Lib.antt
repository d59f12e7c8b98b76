pub mod WordsLaws
pub mod PrefixLaws
