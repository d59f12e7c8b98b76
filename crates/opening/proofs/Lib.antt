pub mod SetupMeaning
