pub mod Embedding
pub mod Trials
