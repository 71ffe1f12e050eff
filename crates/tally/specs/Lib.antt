-- What a reader must believe: what is shown of a packet, how a report is counted, and what the counts come to.
pub mod Display
pub mod Counts
pub mod Sums
