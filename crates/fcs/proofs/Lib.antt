-- The crates above see the laws alone, and what is told of bursts.
mod Xor
mod Steps
mod Same
mod Table
mod Linear
mod Octets
mod Fold
mod Words16
mod Words32
pub mod Laws
pub mod Bursts
