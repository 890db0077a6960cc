pub mod FreshPanel
