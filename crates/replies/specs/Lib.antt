pub mod Replying
pub mod Replies
