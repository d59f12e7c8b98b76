pub mod ReclaimMeaning
