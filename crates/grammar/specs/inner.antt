pub mod Kinds
pub mod Table
pub mod Lexer
pub mod Parse
