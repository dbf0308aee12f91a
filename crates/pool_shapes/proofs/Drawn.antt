-- The lemmas on lanes and labels: marks laid end to end, lanes that grow by a column, labels apart in a row.
pub mod LaidMarks
pub mod GrownLanes
pub mod Words
pub mod PutLabels
