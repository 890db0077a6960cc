pub mod MarkedValues
