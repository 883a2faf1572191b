pub mod StepLaws
pub mod WovenLaws
