pub mod Places
pub mod Moves
pub mod Refusals
pub mod Faults
pub mod Tasks
pub mod Lists
