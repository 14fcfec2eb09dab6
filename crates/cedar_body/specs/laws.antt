pub mod BodyLaws
pub mod BodySlots
pub mod EffectLaws
