-- What follows of the definitions: what is shown is the packet reported, and what the counts come to.
pub mod Packet
pub mod Sums
