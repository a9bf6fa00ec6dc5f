pub mod Block
pub mod BlockLaws
pub mod Evaluate
pub mod EvaluateLaws
pub mod OneEvaluation
