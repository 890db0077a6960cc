pub mod ConditionLaws
