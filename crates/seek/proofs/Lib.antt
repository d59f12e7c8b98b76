pub mod SeekLaws
