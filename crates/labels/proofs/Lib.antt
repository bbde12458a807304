pub mod Octets
pub mod Categories
pub mod Coverage
pub mod Filled
