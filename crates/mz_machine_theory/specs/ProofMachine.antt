-- The proof machine: the commands of a body build expressions, proofs and conversions (the .mmb format).
use Rattle.std.specs.Prelude.{ℕ, suc, Bool, not, ◌==◌, ◌&&◌, nat_lt, nat_le, if◌then◌else◌, List, [], ◌∷◌, ◌++◌, length, map, reverse, Option, Some, None, Result, Ok, Err, slice_get}
use Rattle.mz_cmd.specs.declared.rule.K.{K}
use Rattle.mz_cmd.specs.declared.rule.K.TheVariants as k
use Rattle.mz_cmd.specs.declared.code.ProofCode.{ProofCode}
use Rattle.mz_cmd.specs.declared.code.ProofCode.TheVariants as code
use Rattle.mz_logic_theory.specs.Legality.{sort_of}
use Rattle.mz_logic_theory.specs.declared.binder.Binder.{Binder}
use Rattle.mz_machine_theory.specs.Steps.{◌>>=◌, ◌>>◌, need, want, rule_of}
use Rattle.mz_machine_theory.specs.Profile.{Profile, Item, expr, proof, obligation, conversion}
use Rattle.mz_machine_theory.specs.Spells.{SpelledTerm, dummy_of}
use Rattle.mz_machine_theory.specs.UnifyMachine.{UnifyMode, in_citation, at_end, in_definition, Matching, UnifyState, unify}
use Rattle.mz_machine_theory.specs.MachineState.{RowsBefore, signatures_in, State, Kind, is_axiom, is_theorem, is_definition, Heading}
use Rattle.mz_machine_theory.specs.FreeVars.{free_within}
use Rattle.mz_machine_theory.specs.Premises.{pop, pop_expr, pop_proof, pop_obligation, pop_conversion, pop_operands, pop_sides, is_conversion, is_obligation, may_be_dummy_sort, is_provable_sort, bound_count, operands_fit, are_disjoint}

-- ---- expressions and citations

abbrev pub push : {T : Type 0} → Item T → List (Item T) → State T → State T
push x xs st = record st { stack = x ∷ xs }

-- to the heap too
abbrev pub saved : {T : Type 0} → Item T → State T → State T
saved x st = record st { heap = st.heap ++ x ∷ [] }

-- the application that Term makes, and the items below its operands
unfoldable pub built : (P : Profile) → RowsBefore → ℕ → ℕ → State P.T → Result (P.T × List (Item P.T)) K
built P tables at t st = do
  row ← want (slice_get tables.terms t) k.TermIndex
  es ← pop_operands (length row.signature.params) st.stack
  operands_fit (signatures_in tables) st.ctx (map P.tree es.0) row.signature.params
  Ok (P.make at t es.0, es.1)

-- what a citation of assertion t matches: the row's stream on the expression on top
unfoldable pub citation : (P : Profile) → RowsBefore → ℕ → State P.T → Result (Matching P.T) K
citation P tables t st = do
  row ← want (slice_get tables.thms t) k.TheoremIndex
  need (nat_le (suc (length row.params)) (length st.stack)) k.Underflow
  e ← pop_expr st.stack
  es ← pop_operands (length row.params) e.1
  operands_fit (signatures_in tables) st.ctx (map P.tree es.0) row.params
  need (are_disjoint st.ctx (map P.tree es.0) row.params) k.Disjoint
  Ok (record { mode = in_citation; stream = row.stream; operands = es.0; target = e.0; items = es.1 })

-- the stream runs; a rule that fails in it is the command's
abbrev pub matched_by : (P : Profile) → RowsBefore → List Binder → Matching P.T → Result (UnifyState P.T) K
matched_by P tables ctx m = rule_of (unify P (signatures_in tables) ctx m)

-- the expression that is cited, and the items that are left
unfoldable pub cited : (P : Profile) → RowsBefore → ℕ → State P.T → Result (P.T × List (Item P.T)) K
cited P tables t st = do
  m ← citation P tables t st
  u ← matched_by P tables st.ctx m
  Ok (m.target, u.items)

-- an item of the heap: a conversion pays the obligation on top, another is pushed
abbrev pub referred : (P : Profile) → Item P.T → State P.T → Result (State P.T) K
referred P (conversion l r) st = do
  o ← pop_obligation st.stack
  need (P.same l o.0 && P.same r o.1) k.ConversionReference
  Ok (record st { stack = o.2 })
referred P x st = Ok (push x st.stack st)

-- ---- conversions

-- the sides of e1 =?= f1 .. en =?= fn, the first on top
abbrev pub sides : {T : Type 0} → List T → List T → List (Item T) → List (Item T)
sides [] fs xs = xs
sides (e ∷ es) [] xs = xs
sides (e ∷ es) (f ∷ fs) xs = obligation e f ∷ sides es fs xs

-- the operands of two applications of one term
abbrev pub same_term : {T : Type 0} → Option (ℕ × List T) → Option (ℕ × List T) → Option (List T × List T)
same_term None q = None
same_term (Some p) None = None
same_term (Some p) (Some q) = if p.0 == q.0 then Some (p.1, q.1) else None

abbrev pub stream_of : Option SpelledTerm → Option (List ℕ)
stream_of None = None
stream_of (Some row) = row.stream

-- what an unfolding matches: the definition's stream on the expression on top; with the right side of
-- the obligation and the items below
unfoldable pub unfolding_of : (P : Profile) → RowsBefore → State P.T → Result (Matching P.T × P.T × List (Item P.T)) K
unfolding_of P tables st = do
  e ← pop_expr st.stack
  o ← pop_sides P e.1
  p ← want (P.parts o.0) k.Unfold
  stream ← want (stream_of (slice_get tables.terms p.0)) k.Unfold
  Ok (record { mode = in_definition; stream = stream; operands = p.1; target = e.0; items = [] }, o.1, o.2)

-- a gap: an expression becomes a proof, an obligation goes
abbrev pub gapped : (P : Profile) → RowsBefore → State P.T → Item P.T → List (Item P.T) → Result (State P.T) K
gapped P tables st (expr e) xs =
    need (is_provable_sort (slice_get tables.sorts (sort_of (signatures_in tables) st.ctx (P.tree e)))) k.NotProvable >> Ok (push (proof e) xs st)
gapped P tables st (obligation l r) xs =
    need (sort_of (signatures_in tables) st.ctx (P.tree l) == sort_of (signatures_in tables) st.ctx (P.tree r)) k.Sorry >> Ok (record st { stack = xs })
gapped P tables st (proof e) xs = Err k.Kind
gapped P tables st (conversion l r) xs = Err k.Kind

-- ---- the rows

abbrev pub has_provable_sort : (P : Profile) → RowsBefore → List Binder → P.T → Bool
has_provable_sort P tables ctx e = is_provable_sort (slice_get tables.sorts (sort_of (signatures_in tables) ctx (P.tree e)))

-- One clause a command, with its operand: its premises in order, and the next state. The number before the
-- command is its place.
unfoldable pub proof_step : (P : Profile) → RowsBefore → ℕ → ProofCode → ℕ → State P.T → Result (State P.T) K
proof_step P tables at code.Term t st = do
  e ← built P tables at t st
  Ok (push (expr e.0) e.1 st)
proof_step P tables at code.TermSave t st = do
  e ← built P tables at t st
  Ok (saved (expr e.0) (push (expr e.0) e.1 st))
proof_step P tables at code.Ref i st = do
  x ← want (slice_get st.heap i) k.HeapIndex
  referred P x st
proof_step P tables at code.ConvRef i st = do
  x ← want (slice_get st.heap i) k.HeapIndex
  need (is_conversion x) k.Kind
  referred P x st
proof_step P tables at code.Dummy s st = do
  need (may_be_dummy_sort (slice_get tables.sorts s)) k.DummySort
  need (nat_lt (bound_count st.ctx) 55) k.DummyCount
  Ok (record {
    ctx = st.ctx ++ dummy_of s ∷ [];
    heap = st.heap ++ expr (P.variable (length st.ctx)) ∷ [];
    stack = expr (P.variable (length st.ctx)) ∷ st.stack;
    hyps = st.hyps;
  })
proof_step P tables at code.Thm t st = do
  e ← cited P tables t st
  Ok (push (proof e.0) e.1 st)
proof_step P tables at code.ThmSave t st = do
  e ← cited P tables t st
  Ok (saved (proof e.0) (push (proof e.0) e.1 st))
proof_step P tables at code.Hyp n st = do
  e ← pop_expr st.stack
  need (has_provable_sort P tables st.ctx e.0) k.NotProvable
  Ok (record st { heap = st.heap ++ proof e.0 ∷ []; stack = e.1; hyps = st.hyps ++ e.0 ∷ [] })
proof_step P tables at code.Conv n st = do
  p ← pop_proof st.stack
  e ← pop_expr p.1
  Ok (push (obligation e.0 p.0) (proof e.0 ∷ e.1) st)
proof_step P tables at code.Refl n st = do
  o ← pop_obligation st.stack
  need (P.same o.0 o.1) k.Refl
  Ok (record st { stack = o.2 })
proof_step P tables at code.Symm n st = do
  o ← pop_obligation st.stack
  Ok (push (obligation o.1 o.0) o.2 st)
proof_step P tables at code.Cong n st = do
  o ← pop_obligation st.stack
  es ← want (same_term (P.parts o.0) (P.parts o.1)) k.Cong
  Ok (record st { stack = sides es.0 es.1 o.2 })
proof_step P tables at code.Unfold n st = do
  m ← unfolding_of P tables st
  u ← matched_by P tables st.ctx m.0
  Ok (push (obligation m.0.target m.1) m.2 st)
proof_step P tables at code.ConvCut n st = do
  o ← pop_obligation st.stack
  Ok (push (obligation o.0 o.1) (conversion o.0 o.1 ∷ o.2) st)
proof_step P tables at code.ConvSave n st = do
  o ← pop_conversion st.stack
  Ok (saved (conversion o.0 o.1) (record st { stack = o.2 }))
proof_step P tables at code.Save n st = do
  x ← pop st.stack
  need (not (is_obligation x.0)) k.SaveKind
  Ok (saved x.0 st)
proof_step P tables at code.Sorry n st = do
  need P.gaps k.Sorry
  x ← pop st.stack
  gapped P tables st x.0 x.1

-- ---- the END of a body

-- the one item that is left, by the statement's kind
abbrev pub last_item : {T : Type 0} → Kind → List (Item T) → Result T K
last_item is_theorem (proof e ∷ []) = Ok e
last_item is_axiom (expr e ∷ []) = Ok e
last_item is_definition (expr e ∷ []) = Ok e
last_item kind xs = Err k.FinalStack

-- the hypotheses as proofs, the last one first
abbrev pub as_proofs : {T : Type 0} → List T → List (Item T)
as_proofs es = map proof (reverse es)

abbrev pub own_variables : (P : Profile) → ℕ → List Binder → List P.T
own_variables P i [] = []
own_variables P i (b ∷ bs) = P.variable i ∷ own_variables P (suc i) bs

-- the row's own stream, on what the body made, with the parameters as operands
abbrev pub own_stream : (P : Profile) → Heading → UnifyMode → P.T → List (Item P.T) → Matching P.T
own_stream P h mode e items = record { mode = mode; stream = h.stream; operands = own_variables P 0 h.params; target = e; items = items }

-- what the END of a body matches
abbrev pub ending : (P : Profile) → RowsBefore → Heading → State P.T → Kind → P.T → Result (Matching P.T) K
ending P tables h st is_axiom e = do
  need (has_provable_sort P tables st.ctx e) k.NotProvable
  Ok (own_stream P h at_end e (as_proofs st.hyps))
ending P tables h st is_theorem e = Ok (own_stream P h at_end e (as_proofs st.hyps))
ending P tables h st is_definition e = do
  need (sort_of (signatures_in tables) st.ctx (P.tree e) == h.result.sort) k.DefinitionSort
  need (free_within (signatures_in tables) st.ctx h.result.deps (P.tree e) (length st.ctx)) k.DefinitionDependencies
  Ok (own_stream P h in_definition e [])

unfoldable pub ends_with : (P : Profile) → RowsBefore → Heading → State P.T → Result (Matching P.T) K
ends_with P tables h st = do
  e ← last_item h.kind st.stack
  ending P tables h st h.kind e

unfoldable pub proof_end : (P : Profile) → RowsBefore → Heading → State P.T → Result (State P.T) K
proof_end P tables h st = do
  m ← ends_with P tables h st
  u ← matched_by P tables st.ctx m
  Ok st
