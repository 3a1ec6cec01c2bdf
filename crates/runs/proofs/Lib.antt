pub mod Trailing
pub mod Climbing
pub mod Endings
pub mod Threading
pub mod Carrying
