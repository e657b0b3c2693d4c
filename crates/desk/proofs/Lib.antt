pub mod Tight
pub mod Order
pub mod Unread
pub mod Shared
pub mod Broken
