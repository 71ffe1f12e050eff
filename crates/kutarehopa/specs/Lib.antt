-- What a reader must believe: the numbers of answers (Numbers), the octets of a state (Layout), the calls on them (Calls); and what follows.
pub mod Numbers
pub mod Layout
pub mod Calls
pub mod Spelling
pub mod AsTheCalls
pub mod Marked
