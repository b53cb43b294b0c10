-- What the code keeps of a search, and what its functions ask of each other, in terms of the states of `Golden`.
pub mod Found
pub mod Progress
