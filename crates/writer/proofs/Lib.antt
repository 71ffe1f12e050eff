-- Steps: writing on, octet by octet. Pieces: a line written in pieces.
pub mod Steps
pub mod Pieces
