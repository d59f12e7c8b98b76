pub mod BlocksLaws
pub mod BlocksMeaning
