-- A batch of rows: which caller submits what, its threads, and its run on a pool of its own.
pub mod Submit
pub mod WorkerThreads
pub mod CallerThreads
pub mod Run
