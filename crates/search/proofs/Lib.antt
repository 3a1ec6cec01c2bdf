pub mod Making
pub mod Answering
