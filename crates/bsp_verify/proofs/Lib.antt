pub mod Pass
pub mod Ways
pub mod PathLemmas
pub mod RunLemmas
pub mod ArrivalLemmas
pub mod StretchLemmas
pub mod WorkedStretchLemmas
pub mod WorkerLemmas
