pub mod Made
pub mod Numbers
pub mod Asking
pub mod Once
pub mod Plain
pub mod Refused
