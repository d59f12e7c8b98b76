pub mod LinksLaws
pub mod MendsLaws
pub mod SkimLaws
pub mod WalksLaws
pub mod RunMeaning
pub mod TourMeaning
