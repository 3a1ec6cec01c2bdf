pub mod Trails
pub mod Ends
pub mod Outcomes
