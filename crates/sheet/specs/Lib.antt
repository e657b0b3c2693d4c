pub mod RuleMeaning
pub mod Body
pub mod Rule
pub mod Sheet
pub mod Meaning
pub mod Inner
pub mod Shown
