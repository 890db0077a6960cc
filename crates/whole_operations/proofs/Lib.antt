pub mod ChangesLaws
mod ChangesMade
pub mod WholeLaws
mod WholeSearch
pub mod WholeLookup
pub mod WholeEnds
mod WholeWriting
mod WorkBeside
mod Puts
mod WriterSearch
mod Removals
pub mod LookupSteps
