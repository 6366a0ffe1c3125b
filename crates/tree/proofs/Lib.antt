-- lists
pub mod Orders
pub mod Parts
-- levels, separators and leaves, with no node numbers
pub mod Valuations
pub mod Hosts
pub mod Takers
pub mod Leaves
pub mod Growths
-- the packed numbering
pub mod Numbers
pub mod Runs
pub mod Allotments
pub mod Apart
-- an index that holds the tree: one key more, written whole
pub mod Packings
pub mod WrittenAt
pub mod Written
pub mod PlaceLaws
pub mod Rooms
pub mod Appends
pub mod FillingsAt
pub mod Fillings
pub mod AppendFrames
pub mod Gatherings
pub mod Stretches
pub mod Cases
