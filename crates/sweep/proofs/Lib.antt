pub mod SweepLaws
