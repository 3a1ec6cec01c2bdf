pub mod Piles
pub mod Shares
pub mod Floors
