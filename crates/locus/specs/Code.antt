-- What the code keeps of the locus, and what its functions ask of each other. `PieceLaws` proves that it gives the locus of the rules.
pub mod Bounds
pub mod Fits
pub mod Pieces
pub mod NearestSoFar
