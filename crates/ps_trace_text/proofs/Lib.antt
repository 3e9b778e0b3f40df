pub mod ThreadLines
pub mod TraceLaws
pub mod WitnessLaws
pub mod WitnessPrinted
