pub mod Range
pub mod SixLabels
pub mod RangeMeaning
pub mod Tests
