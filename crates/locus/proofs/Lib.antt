mod Curves
mod Admitting
