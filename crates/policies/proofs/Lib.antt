pub mod ViewMeaning
