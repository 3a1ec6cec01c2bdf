pub mod Places
pub mod Growing
pub mod Picks
pub mod Entering
pub mod Steps
