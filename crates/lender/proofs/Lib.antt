pub mod Fresh
pub mod Packs
pub mod Within
pub mod Places
