pub mod Choosing
pub mod Trials
pub mod Arranging
