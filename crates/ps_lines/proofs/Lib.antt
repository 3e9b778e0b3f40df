pub mod Digits
pub mod Ahead
pub mod Loop
pub mod Cutting
pub mod Bytes
pub mod Exact
pub mod Decimals
pub mod Forms
pub mod LineList
mod Members
mod Shorter
