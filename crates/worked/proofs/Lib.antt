pub mod Laws
pub mod Rounds
pub mod Estimates
pub mod Tables
pub mod Only
pub mod Play
pub mod Cases
