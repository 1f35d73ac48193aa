-- An expression as what stands first in it and the infix forms around that, from the inside out.
use Rattle.std.proofs.Common.{◌≡◌, ◌≤◌, ◌<◌, ◌+◌, ◌++◌, ◌∙◌, ℕ, List, [], ◌∷◌, Bool, true, false, ap, sym, refl, subst, inl, inr, arith, append_assoc, Contains, if◌then◌else◌}
use Rattle.std.proofs.lemmas.Bool.{ne_eqb}
use Rattle.std.proofs.lemmas.List.{append-nil}
use Rattle.mz_math_theory.specs.Notation.{max_level, above}
use Rattle.mz_math_theory.specs.declared.notation.Notation.{Notation}
use Rattle.mz_math_theory.specs.Grammar.{ParseHead, Parse, Parts, headed, joined, level_of, last_level, tokens_of, part_tokens, Words, IsExp, CanLead}
use Rattle.mz_math_theory.specs.Reading.{Step, build, step_tokens}

abbrev pub base : Parse → ParseHead
base (headed h ps) = h
base (joined k p ps) = base p

abbrev pub base_parts : Parse → Parts
base_parts (headed h ps) = ps
base_parts (joined k p ps) = base_parts p

abbrev pub steps_of : Parse → List Step
steps_of (headed h ps) = []
steps_of (joined k p ps) = steps_of p ++ record { notation = k; parts = ps } ∷ []

build-append : (p : Parse) (ss : List Step) (s : Step) → build p (ss ++ s ∷ []) ≡ joined s.notation (build p ss) s.parts
build-append p [] s = refl
build-append p (t ∷ ss) s = build-append (joined t.notation p t.parts) ss s

pub rebuilt : (p : Parse) → build (headed (base p) (base_parts p)) (steps_of p) ≡ p
rebuilt (headed h ps) = refl
rebuilt (joined k p ps) = build-append (headed (base p) (base_parts p)) (steps_of p) (record { notation = k; parts = ps }) ∙ ap (λ q. joined k q ps) (rebuilt p)

pub tokens-build : (p : Parse) (ss : List Step) → tokens_of (build p ss) ≡ tokens_of p ++ step_tokens ss
tokens-build p [] = sym (append-nil (tokens_of p))
tokens-build p (s ∷ ss) = tokens-build (joined s.notation p s.parts) ss ∙ append_assoc (tokens_of p) (part_tokens s.parts) (step_tokens ss)

-- ---- precedences

pub above-more : (q : ℕ) → q < max_level → q + 1 ≡ above q
above-more q less = ap (λ b. if b then max_level else q + 1) (sym (ne_eqb q max_level (λ e. absurd (omega (arith, e)))))

pub le_last : (k : Notation) → k.level < max_level → k.level ≤ last_level k
le_last k less = go k.is_right
  where
    go : (b : Bool) → k.level ≤ (if b then k.level else above k.level)
    go true = omega arith
    go false = omega (arith, above-more k.level less)

pub last_left : (k : Notation) → k.is_right ≡ false → k.level < max_level → k.level < last_level k
last_left k left less = subst (λ b. k.level < (if b then k.level else above k.level)) (sym left) (omega (arith, above-more k.level less))

module _ (ws : Words) where
  pub inner : (p : Parse) (ss : List Step) → IsExp ws (build p ss) → IsExp ws p
  inner p [] is = is
  inner p (s ∷ ss) is = (inner (joined s.notation p s.parts) ss is).2

  lead-level : (k : Notation) (p : Parse) → k.level < max_level → CanLead k p → k.level ≤ level_of p
  lead-level k p less (inl more) = omega (arith, above-more k.level less)
  lead-level k p less (inr (left, form, same)) = omega (arith, same)

  pub level-falls : ((k : Notation) → Contains ws.infixes k → k.level < max_level) → (p : Parse) (ss : List Step) → IsExp ws (build p ss) → level_of (build p ss) ≤ level_of p
  level-falls not_max p [] is = omega arith
  level-falls not_max p (s ∷ ss) is =
      let here = inner (joined s.notation p s.parts) ss is in
      let rest = level-falls not_max (joined s.notation p s.parts) ss is in
      let lead = lead-level s.notation p (not_max s.notation here.0) here.1 in
      omega (arith, rest, lead)
