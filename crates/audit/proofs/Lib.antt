pub mod SurveyMeaning
pub mod MarksMeaning
pub mod SweepMeaning
pub mod AuditLaws
pub mod WalksMeaning
pub mod AuditMeaning
