pub mod FirstRecordMeaning
pub mod FirstHeadersMeaning
