pub mod JoinMeaning
pub mod GivingMeaning
pub mod ReleaseMeaning
pub mod FindLaws
pub mod TailMeaning
pub mod GiveMeaning
