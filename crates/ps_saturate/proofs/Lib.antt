pub mod Ascents
pub mod Trying
pub mod Finding
pub mod Asking
pub mod Arranged
pub mod Showing
pub mod Lasting
pub mod Leading
mod Counter
pub mod Anys
pub mod Stepping
