pub mod EffectLaws
pub mod StepLaws
