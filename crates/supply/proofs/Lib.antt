pub mod SupplyMeaning
