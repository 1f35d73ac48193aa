-- What the crates of the commands cite.
pub use Rattle.mz_tool_engine.proofs.Endings.{answers-of, at_once-fits, at_once-log, none-short}
