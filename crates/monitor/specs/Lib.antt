pub mod Rows
pub mod TableRows
pub mod View
pub mod MonitorView
