pub mod Gaps
pub mod Front
pub mod Cuts
pub mod OneCut
pub mod WrittenWords
pub mod Examples
