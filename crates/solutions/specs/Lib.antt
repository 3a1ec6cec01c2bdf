pub mod Texts
pub mod Solutions
pub mod Responses
