pub mod Modes
pub mod Options
pub mod Command
pub mod Asked
pub mod Plain
pub mod Examples
pub mod inner
