pub mod StepWork
