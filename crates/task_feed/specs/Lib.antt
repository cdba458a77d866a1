-- Tasks that are dealt out.
pub mod Dealt
pub mod FeedContents
pub mod Hands
pub mod Takers
pub mod Shares
