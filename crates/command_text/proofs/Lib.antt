pub mod Reporting
pub mod ChosenSpans
pub mod StepsWritten
pub mod TracesWritten
pub mod CycleSaid
pub mod FaultSaid
