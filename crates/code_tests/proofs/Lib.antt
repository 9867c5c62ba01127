pub mod FloodLemmas
