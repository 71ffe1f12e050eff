-- What a reader must believe: what write_on does, and what follows for a program that writes its line in pieces.
pub mod Writing
pub mod Pieces
