-- Calls: the calls by cases. The others: the theorems'.
pub mod Numbers
pub mod Calls
pub mod Spelling
pub mod AsTheCalls
pub mod Marked
