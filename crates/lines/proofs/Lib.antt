-- Laws: text appended to a page, decimal digits, octets shown, the length of a line, and the line of each kind of report.
pub mod Append
pub mod DecimalDigits
pub mod DigitsWritten
pub mod Hexadecimal
pub mod Lengths
pub mod Reports
pub mod Marked
