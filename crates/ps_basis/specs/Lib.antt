pub mod Basis
pub mod Demands
pub mod Feasible
pub mod inner
pub mod Shown
pub mod Space
