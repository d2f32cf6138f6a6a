pub mod Heads
pub use Rattle.dsm_syntax.specs.Lexemes
pub use Rattle.dsm_laws_grammar.specs.Programs
pub use Rattle.dsm_laws_grammar.specs.Refusals
