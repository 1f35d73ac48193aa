-- How much the parts of a text cost, statement by statement.
use Rattle.std.proofs.Common.{ℕ, ◌≡◌, ◌≤◌, ◌+◌, ◌*◌, List, [], ◌∷◌, ◌++◌, length, ap, arith, append_assoc, append-nil, length-append}
use Rattle.mz_logic_theory.specs.Declaration.{Declaration}
use Rattle.mz_layout_tables.specs.Normal.{Row, Written, Parts, file_length}
use Rattle.mz_layout_tables.specs.NormalLaws.{rows_cost, statements_cost, LengthIsBounded}
use Rattle.mz_mmu_theory.specs.Statements.{Statement}
use Rattle.mz_type.specs.TypedText.{declared}
use Rattle.mz_mmu_theory.specs.Weight.{statement_weight, weight_after, weight_of, byte_bound}

-- ---- the weight of one more statement

pub weight_more : (env : List Declaration) (ss : List Statement) (s : Statement)
    → weight_after env (ss ++ s ∷ []) ≡ weight_after env ss + statement_weight (env ++ declared ss) s
weight_more env [] s = omega (arith, ap (λ d. statement_weight d s) (append-nil env))
weight_more env (t ∷ ss) s =
    let e : (env ++ t.decl ∷ []) ++ declared ss ≡ env ++ (t.decl ∷ declared ss) = append_assoc env (t.decl ∷ []) (declared ss) in
    omega (arith, weight_more (env ++ t.decl ∷ []) ss s, ap (λ d. statement_weight d s) e)

-- ---- the cost of one more row and statement

-- what rows and statements cost
abbrev pub cost_of : Parts → ℕ
cost_of p = length p.sorts + rows_cost p.terms + rows_cost p.thms + statements_cost p.statements

rows_more : (rs : List Row) (r : Row) → rows_cost (rs ++ r ∷ []) ≡ rows_cost rs + (15 + 8 * length r.words + length r.stream)
rows_more [] r = omega arith
rows_more (q ∷ rs) r = omega (arith, rows_more rs r)

statements_more : (ws : List Written) (w : Written) → statements_cost (ws ++ w ∷ []) ≡ statements_cost ws + (5 + length w.body)
statements_more [] w = omega arith
statements_more (v ∷ ws) w = omega (arith, statements_more ws w)

module _ (p : Parts) (w : Written) where
  pub sort_more : (m : ℕ) → cost_of (record p { sorts = p.sorts ++ m ∷ []; statements = p.statements ++ w ∷ [] }) ≡ cost_of p + (6 + length w.body)
  sort_more m = omega (arith, length-append p.sorts (m ∷ []), statements_more p.statements w)

  pub term_more : (r : Row) → cost_of (record p { terms = p.terms ++ r ∷ []; statements = p.statements ++ w ∷ [] })
      ≡ cost_of p + (20 + 8 * length r.words + length r.stream + length w.body)
  term_more r = omega (arith, rows_more p.terms r, statements_more p.statements w)

  pub thm_more : (r : Row) → cost_of (record p { thms = p.thms ++ r ∷ []; statements = p.statements ++ w ∷ [] })
      ≡ cost_of p + (20 + 8 * length r.words + length r.stream + length w.body)
  thm_more r = omega (arith, rows_more p.thms r, statements_more p.statements w)

-- ---- in proportion to the weight

pub short_more : (p p' : Parts) (ss : List Statement) (s : Statement) → cost_of p ≤ 32 * weight_of ss
    → cost_of p' ≤ cost_of p + 32 * statement_weight (declared ss) s → cost_of p' ≤ 32 * weight_of (ss ++ s ∷ [])
short_more p p' ss s short grown = omega (arith, short, grown, weight_more [] ss s)

pub short_file : LengthIsBounded → (p : Parts) (ss : List Statement) → cost_of p ≤ 32 * weight_of ss → file_length p ≤ byte_bound ss
short_file bound p ss short = omega (arith, bound p, short)
