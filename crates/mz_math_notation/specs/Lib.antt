pub use Rattle.mz_math_operators.specs.Names
