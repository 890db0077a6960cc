pub mod Laws
mod Table
