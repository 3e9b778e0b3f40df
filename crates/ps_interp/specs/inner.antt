pub mod KeyLaws
pub mod Keys
pub mod Meetings
pub mod Parts
pub mod Places
pub mod Starts
pub mod Triples
