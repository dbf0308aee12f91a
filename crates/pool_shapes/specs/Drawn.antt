-- What is drawn of a run: marks of a lane, lanes of a picture, labels of a row.
pub mod Marks
pub mod Frames
pub mod Labels
