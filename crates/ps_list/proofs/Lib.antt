pub mod Mapped
pub mod Members
pub mod Numbers
