pub mod FunctionLaws
