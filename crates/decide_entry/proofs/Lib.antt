pub mod PromiseLaws
pub mod FunctionLaws
