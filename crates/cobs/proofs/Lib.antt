-- The crates above see proofs by tests and the laws; how leading octets are counted, and the phantom, are this crate's own.
pub mod Tests
mod Leading
mod Phantom
pub mod Table
pub mod Exchange
pub mod Chosen
pub mod Blocks
pub mod Frame
pub mod Shortest
