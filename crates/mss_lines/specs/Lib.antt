pub mod Fields
pub mod Lines
pub mod DigitsLaws
pub mod FieldSizesLaws
pub mod OneLineLaws
pub mod SpacedNumbersLaws
