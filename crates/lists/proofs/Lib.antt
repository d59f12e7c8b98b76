pub mod ListsLaws
pub mod MembersLaws
pub mod SplitLaws
pub mod AscendingLaws
pub mod CountLaws
pub mod TotalLaws
