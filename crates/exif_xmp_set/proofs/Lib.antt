pub mod Additions
pub mod Contents
pub mod OneMore
pub mod Places
pub mod Settings
