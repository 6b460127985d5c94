pub mod Text
pub mod Judge
pub mod Examples
