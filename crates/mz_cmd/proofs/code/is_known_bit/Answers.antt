use Rattle.std.proofs.Common.{◌≡◌, ◌<◌, ◌==◌, ◌∙◌, ℕ, ap, refl}
use Rattle.std.specs.Int.{bit_at}
use Rattle.std.proofs.lemmas.Bool.{agree_below_at}
use Rattle.std.proofs.lemmas.Nat.Bits.{shr_and_one}
use Rattle.mz_cmd.specs.declared.code.TheConstants.{KNOWN}
use Rattle.mz_cmd.specs.Codes.{is_known}
use Rattle.mz_cmd.proofs.code.is_known_bit.Goals as goal

-- all 64 agree
known-bit : (code : ℕ) → code < 64 → (bit_at KNOWN code == 1) ≡ is_known code
known-bit code low = agree_below_at (λ k. bit_at KNOWN k == 1) is_known 64 code refl low

pub returns : goal.returns
returns c = ap (λ (n : ℕ). n == 1) (shr_and_one KNOWN c.args.code) ∙ known-bit c.args.code c.requires
