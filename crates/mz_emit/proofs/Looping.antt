-- The loop over the statements of a text.
use Rattle.std.proofs.Common.{Bool, ℕ, zero, suc, ◌≡◌, ◌≤◌, ◌<◌, ◌+◌, List, [], ◌∷◌, ◌++◌, ◌∙◌, length, take, drop, refl, sym, subst, ap, arith, add-one}
use Rattle.std.specs.Prelude.{Some, None, slice_get}
use Rattle.std.proofs.lemmas.List.{take_more, take_all}
use Rattle.std.proofs.Math.Seq.{drop-nil}
use Rattle.mz_logic_theory.specs.Declaration.{Declaration}
use Rattle.mz_mmu_theory.specs.Statements.{Statement}
use Rattle.mz_mmu_theory.specs.Name.{no_names}
use Rattle.mz_mmu_theory.proofs.Offered.{only_drafts, are_whole, statements_there}
use Rattle.mz_mmu_theory.specs.Meaning.{LegalAsStated}
use Rattle.mz_mmu_theory.specs.TextOf.{TextOf}
use Rattle.mz_type.specs.StatedView.{AreRead, with_decl, statements_of}
use Rattle.mz_type.specs.declared.typed.Beside.{Beside}
use Rattle.mz_type.specs.TypedText.{statement_at}
use Rattle.mz_mmu_theory.specs.Weight.{IsWithinLimits}
use Rattle.mz_type.specs.Ready.{StatementsCanBeWords}
use Rattle.mz_emit.specs.Emitting.{IsLegalWith, MayFollow, HasEmitted, EmitsNext}
use Rattle.mz_emit.specs.declared.emitter.Emitter.{Emitter}
use Rattle.mz_emit.proofs.Following.{follows}
use Rattle.mz_emit.proofs.Stated.{all_stated}

-- the statements of bytes are, and those that are read are in the text's mode
pub legal_with : (gaps : Bool) (bytes : List ℕ) (ss : List Statement) → TextOf gaps bytes ss → IsLegalWith gaps ss
legal_with gaps bytes ss ((ns, read), legal) = (legal, only_drafts (no_names gaps) ns ss read.1)

pub own_mode : (mode : Bool) (ss : List Statement) → AreRead mode ss → LegalAsStated mode ss → IsLegalWith mode ss
own_mode mode ss (nodes, read) legal = (legal, only_drafts (no_names mode) nodes ss read)

pub all_follow : StatementsCanBeWords → (mode : Bool) (ss : List Statement) → AreRead mode ss → IsWithinLimits ss
    → (gaps : Bool) → IsLegalWith gaps ss → (i : ℕ) → i < length ss → MayFollow gaps (take i ss) (statement_at ss i)
all_follow ready mode ss (nodes, read) within gaps (legal, has_gaps) i below =
    let whole = are_whole (no_names mode) nodes ss read in
    follows gaps ss legal (statements_there mode nodes ss read) whole (all_stated (no_names mode) nodes ss read) has_gaps (ready gaps ss legal whole within) within i below

pub one_more : (ss : List Statement) (i : ℕ) → i < length ss → take i ss ++ statement_at ss i ∷ [] ≡ take (i + 1) ss
one_more ss i below = sym (take_more ss i _ below)

pub emitted_all : (ss : List Statement) (i : ℕ) (e : Emitter) → length ss ≤ i → HasEmitted (take i ss) e → HasEmitted ss e
emitted_all ss i e past h = subst (λ ts. HasEmitted ts e) (take_all i ss past) h

-- ---- what is left of a text that is taken apart

-- from a place on these declarations and what is said beside them are the statements
pub record AreLeft (ss : List Statement) (env : List Declaration) (bs : List Beside) (place : ℕ) : Type 0 where
  pub many : length env ≡ place + length bs
  pub are : statements_of (drop place env) bs ≡ drop place ss

-- the first of them, and the others
first_left : (ss : List Statement) (env : List Declaration) (b : Beside) (bs : List Beside) (place : ℕ) (d : Declaration) → length env ≡ place + suc (length bs)
    → statements_of (drop place env) (b ∷ bs) ≡ drop place ss → slice_get env place ≡ Some d
    → (place < length ss) × (statement_at ss place ≡ with_decl d b) × (statements_of (drop (suc place) env) bs ≡ drop (suc place) ss)
first_left ss [] b bs place d many are at = absurd (omega (arith, many))
first_left [] (x ∷ env) b bs zero d many are at = absurd cc
first_left (s ∷ ss) (x ∷ env) b bs zero d many are at =
    let same : x ≡ d = cc in
    let head : s ≡ with_decl x b = cc in
    let tail : statements_of env bs ≡ ss = cc in
    (omega arith, head ∙ ap (λ y. with_decl y b) same, tail)
first_left [] (x ∷ env) b bs (suc place) d many are at =
    let none = first_left [] env b bs place d (omega (arith, many)) (are ∙ sym (drop-nil place)) at in
    absurd (omega (arith, none.0))
first_left (s ∷ ss) (x ∷ env) b bs (suc place) d many are at =
    let rest = first_left ss env b bs place d (omega (arith, many)) are at in
    (omega (arith, rest.0), rest.1, rest.2)

module _ (ss : List Statement) (env : List Declaration) (b : Beside) (bs : List Beside) (place : ℕ) (h : AreLeft ss env (b ∷ bs) place) (d : Declaration) (at : slice_get env place ≡ Some d) where
  pub within : place < length ss
  within = (first_left ss env b bs place d h.many h.are at).0

  pub is_there : statement_at ss place ≡ with_decl d b
  is_there = (first_left ss env b bs place d h.many h.are at).1

  pub others_left : AreLeft ss env bs (place + 1)
  others_left = record {
    many = omega (arith, h.many);
    are = rw add-one ((first_left ss env b bs place d h.many h.are at).2);
  }

  -- the first of them is written, and with it one more
  pub written_more : (e e' : Emitter) → EmitsNext (with_decl d b) e e' → HasEmitted (take place ss) e → HasEmitted (take (place + 1) ss) e'
  written_more e e' emits written =
      subst (λ ts. HasEmitted ts e') (one_more ss place within) (subst (λ s. HasEmitted (take place ss ++ s ∷ []) e') (sym is_there) (emits (take place ss) written))

-- a declaration is there
pub is_declared : (env : List Declaration) (place : ℕ) (n : ℕ) → length env ≡ place + suc n → slice_get env place ≡ None → ⊥
is_declared [] place n many none = absurd (omega (arith, many))
is_declared (d ∷ env) zero n many none = cc
is_declared (d ∷ env) (suc place) n many none = is_declared env place n (omega (arith, many)) none

-- none are left at the end
pub all_taken : (ss : List Statement) (env : List Declaration) (place : ℕ) → AreLeft ss env [] place → length ss ≤ place
all_taken ss env place h = shorter ss place (nothing (drop place env) ∙ h.are)
  where
    nothing : (ds : List Declaration) → [] ≡ statements_of ds []
    nothing [] = refl
    nothing (d ∷ ds) = refl

    shorter : (ts : List Statement) (i : ℕ) → [] ≡ drop i ts → length ts ≤ i
    shorter [] i e = omega arith
    shorter (t ∷ ts) zero e = absurd cc
    shorter (t ∷ ts) (suc i) e = let le = shorter ts i e in omega (arith, le)
