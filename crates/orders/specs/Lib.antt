pub mod Order
pub mod Pairs
pub mod Bounds
pub mod Products
