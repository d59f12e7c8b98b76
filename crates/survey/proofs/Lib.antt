pub mod ChunkLaws
pub mod SurveyLaws
pub mod WalkLaws
