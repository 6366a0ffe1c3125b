-- ranges of leaves and counts of keys, with no node numbers
pub mod Counts
pub mod Ranges
-- the descent from node number to node number
pub mod Descents
pub mod Ends
