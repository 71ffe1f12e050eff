-- Steps: reading on, octet by octet. NothingLost: the theorems. Quiet: many octets at once.
pub mod Steps
pub mod NothingLost
pub mod Quiet
