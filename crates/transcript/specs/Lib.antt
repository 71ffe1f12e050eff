-- What a reader must believe: what is printed of a stretch of a line, which line each report has, and that nothing is left out of what is
-- printed and counted.
pub mod Transcript
pub mod LinesOfReports
pub mod NothingLeftOut
