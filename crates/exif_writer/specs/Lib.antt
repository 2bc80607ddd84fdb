pub mod Arranging
pub mod Contained
pub mod Counted
pub mod Drafts
pub mod Plans
pub mod Running
pub mod Sending
pub mod Tails
