pub mod Places
pub mod Bearing
pub mod Chains
pub mod Checks
pub mod Fine
