pub mod CodeBlocks
pub mod Frames
pub mod Shortest
