pub mod TraceReading
pub mod TraceSpelling
pub mod WitnessReading
pub mod WitnessSpelling
