pub mod SetPlaces
pub mod Sorting
