pub mod InterruptLaws
