mod Commas
mod Comings
