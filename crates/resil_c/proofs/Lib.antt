pub mod BookLaws
mod Handles
mod Parts
mod Walks
