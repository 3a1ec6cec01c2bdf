pub mod Fronting
pub mod Booking
pub mod Promising
