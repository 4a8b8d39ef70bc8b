pub mod Known
pub mod Built
pub mod Noted
pub mod Deep
pub mod Whole
pub mod Exact
pub mod Compiled
pub mod Small
