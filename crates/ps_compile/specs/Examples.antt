-- Worked examples: how bodies are laid out, the rows of initial states, which limit is exceeded first, and which programs
-- can be compiled.
pub mod Bodies
pub mod Conditions
pub mod Limits
pub mod Programs
pub mod Starts
