pub mod Tests
pub mod Words
pub mod Members
pub mod Comings
