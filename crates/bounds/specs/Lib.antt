pub mod Sound
pub mod Piles
