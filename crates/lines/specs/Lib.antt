-- What a reader must believe: the page, the text of a report, and the lines of document 01's capture.
pub mod Lines
pub mod Marked
pub mod Pages
