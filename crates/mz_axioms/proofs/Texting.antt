-- The text of the supports, written whole or cut short.
use Rattle.std.proofs.Common.{◌≡◌, ◌∙◌, ℕ, List, [], Result, Ok, Err, sym, ap, subst, append-nil}
use Rattle.mz_io.specs.Calls.{Call, IsWritten, IsWriting}
use Rattle.mz_spec.specs.declared.names.NamedSpec.{NamedSpec}
use Rattle.mz_spec.specs.Named.{IsNamed}
use Rattle.mz_axioms.specs.Lists.{TheoremSupport}
use Rattle.mz_axioms.specs.Pieces.{IsAdded}
use Rattle.mz_axioms.specs.Text.{IsTextOf, supports_text}

-- nothing is held back of a text that is added whole
pub written-added : {T E : Type 0} (r : Result T E) (text : List ℕ) (calls : List Call) → IsAdded r [] [] text calls → IsWriting r text calls
written-added (Ok u) text calls (front, w, is) = subst (λ whole. IsWritten whole calls) (sym (append-nil front) ∙ is) w
written-added (Err e) text calls cut = cut

pub text-of : (text : List ℕ) (s : NamedSpec) (supports told : List TheoremSupport) → IsNamed text s → supports ≡ told → IsTextOf text supports (supports_text s.text.now s.declared told)
text-of text s supports told named same =
    (s.declared, named.makes, ap (λ f. supports_text f s.declared told) named.is_text ∙ ap (supports_text text s.declared) (sym same))
