pub mod CommandLineLaws
