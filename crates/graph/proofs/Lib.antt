pub mod Sweeps
pub mod Rows
pub mod WordLaws
pub mod MemberLaws
pub mod SideLaws
