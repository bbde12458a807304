pub mod Splits
pub mod Runs
