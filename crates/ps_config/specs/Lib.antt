pub mod Configurations
pub mod Forms
pub mod Next
pub mod Sent
pub mod Zeros
pub mod inner
