-- Distinct bound variables are no more than there are; and what stands in a definition's row and body.
use Rattle.std.proofs.Common.{◌≡◌, ◌≤◌, ◌⊎◌, ◌∙◌, ℕ, suc, Bool, true, false, cond, List, [], ◌∷◌, ◌++◌, length, refl, sym, ap, subst, inl, inr, arith}
use Rattle.std.specs.Prelude.{if◌then◌else◌, Contains}
use Rattle.std.specs.List.{filter}
use Rattle.mz_logic_theory.specs.Tree.{Tree}
use Rattle.mz_logic_theory.specs.Conversions.{AreFresh}
use Rattle.mz_logic_theory.specs.Words.{binders_from, word_bound}
use Rattle.mz_logic_theory.specs.declared.binder.Binder.{Binder}
use Rattle.mz_logic_theory.specs.declared.word.Word.{Word}
use Rattle.mz_machine_theory.specs.Spells.{trees_of}
use Rattle.mz_machine_theory.specs.Premises.{bound_count}
use Rattle.mz_layout_tables.specs.RowWords.{bound_count as bound_words}

abbrev pub Among : ℕ → List ℕ → Type 0
Among y [] = ⊥
Among y (z ∷ zs) = (y ≡ z) ⊎ Among y zs

pub among-contains : (y : ℕ) (zs : List ℕ) → Among y zs → Contains zs y
among-contains y [] h = absurd h
among-contains y (z ∷ zs) (inl is) = (0, omega arith, sym is)
among-contains y (z ∷ zs) (inr later) = let (i, below, is) = among-contains y zs later in (suc i, omega (arith, below), is)

pub without : (y : ℕ) (zs : List ℕ) → Among y zs → (rest : List ℕ) × (length zs ≡ suc (length rest)) × ((x : ℕ) → Among x zs → (x ≡ y → ⊥) → Among x rest)
without y [] h = absurd h
without y (z ∷ zs) (inl is) = (zs, refl, λ x h other. elim h [ inl same ↦ absurd (other (same ∙ sym is)) | inr later ↦ later ])
without y (z ∷ zs) (inr later) =
    let (rest, many, keep) = without y zs later in
    (z ∷ rest, ap suc many, λ x h other. elim h [ inl same ↦ inl same | inr there ↦ inr (keep x there other) ])

-- distinct ones are no more than those among which they all are
pub fresh-fewer : (ctx : List Binder) (es : List Tree) (ys : List ℕ) (ds : List Binder) (zs : List ℕ) → AreFresh ctx (trees_of es) ys ds
    → ((y : ℕ) → Among y ys → Among y zs) → length ds ≤ length zs
fresh-fewer ctx es [] [] zs fresh all = omega arith
fresh-fewer ctx es [] (d ∷ ds) zs fresh all = absurd fresh
fresh-fewer ctx es (y ∷ ys) [] zs fresh all = absurd fresh
fresh-fewer ctx es (y ∷ ys) (d ∷ ds) zs (bound, free, once, later) all =
    let (rest, many, keep) = without y zs (all y (inl refl)) in
    let fewer = fresh-fewer ctx es ys ds rest later (λ x h. keep x (all x (inr h)) (λ same. once (among-contains y ys (subst (λ (z : ℕ). Among z ys) same h)))) in
    omega (arith, fewer, many)

-- ---- a definition's row and body

pub words-bound : (i : ℕ) (places : List ℕ) (ws : List Word) → bound_count (binders_from i places ws) ≡ bound_words ws
words-bound i places [] = refl
words-bound i places (w ∷ ws) = go (word_bound w) (words-bound (suc i) (if word_bound w then places ++ i ∷ [] else places) ws)
  where
    rest : List Binder
    rest = binders_from (suc i) (if word_bound w then places ++ i ∷ [] else places) ws

    go : (b : Bool) → bound_count rest ≡ bound_words ws → cond b (suc (bound_count rest)) (bound_count rest) ≡ length (cond b (w ∷ filter word_bound ws) (filter word_bound ws))
    go true e = ap suc e
    go false e = e
