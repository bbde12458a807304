pub mod Kinds
pub mod Model
pub mod Views
pub mod Product
pub mod ProductMeaning
