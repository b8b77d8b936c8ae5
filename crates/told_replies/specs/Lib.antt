pub mod Tellings
pub mod EarlyAnswers
pub mod Laws
