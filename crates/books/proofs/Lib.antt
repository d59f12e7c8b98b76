pub mod SegmentLaws
pub mod BooksLaws
pub mod HeapBooks
pub mod WayLaws
