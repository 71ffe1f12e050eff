-- What a reader must believe: what read_on does, and what follows of it. Stretches is for the contracts of its parts.
pub mod Reading
pub mod NothingLost
pub mod Stretches
