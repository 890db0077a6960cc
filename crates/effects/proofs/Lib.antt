pub mod CountLaws
pub mod EffectLaws
pub mod StepAgreement
