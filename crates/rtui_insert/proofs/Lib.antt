pub mod ShownLemmas
pub mod CountLemmas
pub mod MarkLemmas
pub mod PushLemmas
