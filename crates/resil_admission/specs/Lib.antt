pub mod JobsInvariant
pub mod KeptJob
pub mod MachineInvariant
pub mod SubmissionTable
pub mod JobsView
pub mod MachineView
pub mod Words
