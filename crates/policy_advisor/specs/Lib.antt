pub mod Advice
pub mod AdvisedStates
pub mod Reports
pub mod Steps
pub mod WorkedAdvice
