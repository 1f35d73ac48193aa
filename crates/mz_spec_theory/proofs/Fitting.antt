-- What a lexeme that passes a test is.
use Rattle.std.proofs.Common.{◌≡◌, ◌⊎◌, ℕ, List, true, refl, inl, inr}
use Rattle.std.specs.Prelude.{codes}
use Rattle.std.proofs.lemmas.Bool.{false≢true}
use Rattle.mz_base.proofs.Offered.{both-true as both, same-bytes as same}
use Rattle.mz_lex.specs.declared.token.TokenKind.{TokenKind}
use Rattle.mz_lex.specs.declared.token.TokenKind.TheVariants as kinds
use Rattle.mz_spec_theory.specs.Tests.{Test, the_keyword, the_symbol, a_name, a_name_or_blank, a_formula, a_number, only, fits}

abbrev pub IsFit : Test → TokenKind → List ℕ → Type 0
IsFit (the_keyword text) kind bytes = (kind ≡ kinds.Name) × (bytes ≡ text)
IsFit (the_symbol text) kind bytes = (kind ≡ kinds.Symbol) × (bytes ≡ text)
IsFit a_name kind bytes = kind ≡ kinds.Name
IsFit a_name_or_blank kind bytes = (kind ≡ kinds.Name) ⊎ ((kind ≡ kinds.Symbol) × (bytes ≡ codes "_"))
IsFit a_formula kind bytes = kind ≡ kinds.Math
IsFit a_number kind bytes = kind ≡ kinds.Number
IsFit (only b t) kind bytes = (b ≡ true) × IsFit t kind bytes

pub fits-is : (t : Test) (kind : TokenKind) (bytes : List ℕ) → fits t kind bytes ≡ true → IsFit t kind bytes
fits-is (the_keyword text) kinds.Name bytes e = (refl, same bytes text e)
fits-is (the_keyword text) kinds.Symbol bytes e = absurd (false≢true e)
fits-is (the_keyword text) kinds.Number bytes e = absurd (false≢true e)
fits-is (the_keyword text) kinds.Math bytes e = absurd (false≢true e)
fits-is (the_symbol text) kinds.Name bytes e = absurd (false≢true e)
fits-is (the_symbol text) kinds.Symbol bytes e = (refl, same bytes text e)
fits-is (the_symbol text) kinds.Number bytes e = absurd (false≢true e)
fits-is (the_symbol text) kinds.Math bytes e = absurd (false≢true e)
fits-is a_name kinds.Name bytes e = refl
fits-is a_name kinds.Symbol bytes e = absurd (false≢true e)
fits-is a_name kinds.Number bytes e = absurd (false≢true e)
fits-is a_name kinds.Math bytes e = absurd (false≢true e)
fits-is a_name_or_blank kinds.Name bytes e = inl refl
fits-is a_name_or_blank kinds.Symbol bytes e = inr (refl, same bytes (codes "_") e)
fits-is a_name_or_blank kinds.Number bytes e = absurd (false≢true e)
fits-is a_name_or_blank kinds.Math bytes e = absurd (false≢true e)
fits-is a_formula kinds.Name bytes e = absurd (false≢true e)
fits-is a_formula kinds.Symbol bytes e = absurd (false≢true e)
fits-is a_formula kinds.Number bytes e = absurd (false≢true e)
fits-is a_formula kinds.Math bytes e = refl
fits-is a_number kinds.Name bytes e = absurd (false≢true e)
fits-is a_number kinds.Symbol bytes e = absurd (false≢true e)
fits-is a_number kinds.Number bytes e = refl
fits-is a_number kinds.Math bytes e = absurd (false≢true e)
fits-is (only b t) kind bytes e = let parts = both (fits t kind bytes) b e in (parts.1, fits-is t kind bytes parts.0)
