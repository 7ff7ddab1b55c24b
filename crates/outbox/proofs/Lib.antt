pub mod QueueTurn
