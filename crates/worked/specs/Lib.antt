pub mod Tasks
pub mod Lending
pub mod Cases
