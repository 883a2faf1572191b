pub mod RunLogLaws
pub mod HeldPermitLaws
pub mod ChainLimitLaws
pub mod PassesLaws
pub mod LayerCallLaws
mod RetryCallLaws
pub mod RecountLaws
pub mod GrantLaws
