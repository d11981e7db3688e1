pub mod Queue
pub mod QueueReplies
pub mod QueueCalls
pub mod QueueChanges
pub mod Inside
