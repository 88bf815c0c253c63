pub mod WalkLemmas
pub mod ColumnLemmas
pub mod FrameLemmas
pub mod SettledLemmas
mod SameLemmas
pub mod ScreenLemmas
pub mod ReplayLemmas
pub mod RepaintLemmas
pub mod GivenLemmas
pub mod EnoughLemmas
pub mod DiffLemmas
pub mod DiffPromise
