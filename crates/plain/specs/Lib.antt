-- What a reader must believe: the maps, what a sender writes, what a receiver reads, and that the two agree. Area is for private functions only.
pub mod Area
pub mod Maps
pub mod Stuffing
pub mod ReadBack
