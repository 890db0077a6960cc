pub mod AnswerLaws
mod BigEndian
mod Judged
mod LayoutLaws
mod Outcomes
pub mod RoundTrip
