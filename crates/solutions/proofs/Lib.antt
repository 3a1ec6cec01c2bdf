mod Fronts
mod Working
mod Ended
mod Laws
mod Bounding
mod Telling
mod Asking
