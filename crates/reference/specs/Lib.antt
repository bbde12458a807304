pub mod Results
pub mod Refusals
pub mod Entries
