pub mod Verdicts
pub mod ForLegal
