-- Laws: a reading's report noted, and its line on the page. LinesOfReports, NothingLeftOut: the theorems.
pub mod Counting
pub mod Printing
pub mod LinesOfReports
pub mod NothingLeftOut
