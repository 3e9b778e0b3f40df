pub mod Embedding
pub mod Trying
