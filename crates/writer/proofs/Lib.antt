pub mod WriterLaws
pub mod WriterAgreement
pub mod WorkLaws
pub mod StepInPlace
pub mod StartsInPlace
pub mod CountedWork
