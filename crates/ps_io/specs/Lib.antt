pub mod Causes
pub mod Bytes
pub mod SourceState
pub mod SinkState
