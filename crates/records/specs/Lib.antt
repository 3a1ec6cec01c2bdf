pub mod Choice
pub mod Tables
pub mod Entries
pub mod Openings
