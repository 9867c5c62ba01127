pub mod Printed
pub mod Moving
pub mod StmtMoving
pub mod RoundTrip
