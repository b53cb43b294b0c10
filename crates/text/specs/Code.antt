-- How the code reads a line a byte at a time, takes one, and prints an answer in two halves. `scan_line_lem` of ScanLaws and `accepted_halves` of PrintLaws
-- tie both to the rules.
pub mod Scan
pub mod Put
pub mod Halves
