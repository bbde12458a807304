pub mod Marks
pub mod Steps
pub mod Listed
