-- What the proofs of the sender's functions share.
pub mod Bounds
pub mod Load
