pub mod Floors
pub mod Texts
pub mod Responses
