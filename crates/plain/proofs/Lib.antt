-- The crates above see the laws, and what is told of reading back; the others are what the proofs of the calls share.
mod Some
mod Bit
pub mod Laws
pub mod ReadBack
mod Area
mod Stuffed
mod Rules
