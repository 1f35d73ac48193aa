-- Which line may come next is what a listing's grammar says: lines of statements lead from a head to a head.
use Rattle.std.proofs.Common.{◌≡◌, ◌-◌, ℕ, suc, true, false, cond, List, [], ◌∷◌, ◌++◌, length, map, Option, Some, None, refl, sym, ap, ◌∙◌, arith, not}
use Rattle.std.specs.Prelude.{◌==◌, ◌&&◌}
use Rattle.std.proofs.lemmas.Bool.{ne_eqb}
use Rattle.mz_cmd.specs.declared.code.ProofCode.{ProofCode}
use Rattle.mz_cmd.specs.declared.code.UnifyCode.{UnifyCode}
use Rattle.mz_logic_theory.specs.declared.word.Word.{Word}
use Rattle.mz_asm.specs.declared.kind.Kind.{Kind}
use Rattle.mz_asm.specs.declared.kind.Kind.TheVariants as kinds
use Rattle.mz_asm.specs.declared.line.Line.{Line}
use Rattle.mz_asm.specs.declared.line.Line.TheVariants as lines
use Rattle.mz_asm.specs.declared.expected.Want.{Want}
use Rattle.mz_asm.specs.declared.expected.Want.TheVariants as wants
use Rattle.mz_asm.specs.Statements.{Statement, unify_line, proof_line, stream_lines, statement_lines, all_lines, listing_lines, has_result}
use Rattle.mz_asm.specs.Progress.{opened, next, next_of, next_from}
use Rattle.mz_asm.specs.Assembling.{Begins}

pub next-append : (o : Option Want) (a b : List Line) → next_from o (a ++ b) ≡ next_from (next_from o a) b
next-append (Some w) (l ∷ ls) b = next-append (next w l) ls b
next-append _ _ b = refl

-- a parameter, where one is left
step-param : (kind : Kind) (n : ℕ) (p : Word) → next (wants.Words kind (suc n)) (lines.Param p) ≡ Some (wants.Words kind n)
step-param kind n p =
    let some : (suc n == 0) ≡ false = ne_eqb (suc n) 0 (omega arith) in
    let less : suc n - 1 ≡ n = omega arith in
    ap (λ b. next_of (cond (b && not (has_result kind)) (wants.Unify kind) (wants.Words kind (suc n))) (lines.Param p)) some
    ∙ ap (λ b. cond b None (Some (wants.Words kind (suc n - 1)))) some
    ∙ ap (λ (k : ℕ). Some (wants.Words kind k)) less

params-path : (kind : Kind) (ps : List Word) → next_from (Some (wants.Words kind (length ps))) (map lines.Param ps) ≡ Some (wants.Words kind 0)
params-path kind [] = refl
params-path kind (p ∷ ps) = ap (λ o. next_from o (map lines.Param ps)) (step-param kind (length ps) p) ∙ params-path kind ps

unify-path : (kind : Kind) (us : List (UnifyCode × ℕ)) → next_from (Some (wants.Unify kind)) (map unify_line us) ≡ Some (wants.Unify kind)
unify-path kind [] = refl
unify-path kind (u ∷ us) = unify-path kind us

proof-path : (kind : Kind) (ps : List (ProofCode × ℕ)) → next_from (Some (wants.Proof kind)) (map proof_line ps) ≡ Some (wants.Proof kind)
proof-path kind [] = refl
proof-path kind (p ∷ ps) = proof-path kind ps

streams-path : (kind : Kind) (s : Statement) → next_from (Some (wants.Unify kind)) (stream_lines true s) ≡ Some wants.Head
streams-path kind s =
    next-append (Some (wants.Unify kind)) (map unify_line s.unify) _
    ∙ ap (λ o. next_from o (lines.UnifyEnd ∷ (map proof_line s.proof ++ (lines.ProofEnd ∷ [])))) (unify-path kind s.unify)
    ∙ next-append (Some (wants.Proof kind)) (map proof_line s.proof) (lines.ProofEnd ∷ [])
    ∙ ap (λ o. next_from o (lines.ProofEnd ∷ [])) (proof-path kind s.proof)

zero-open : (kind : Kind) → has_result kind ≡ false → opened (wants.Words kind 0) ≡ wants.Unify kind
zero-open kind e = ap (λ r. cond (true && not r) (wants.Unify kind) (wants.Words kind 0)) e

-- a row without a result goes on with its unify stream
open-path : (kind : Kind) → has_result kind ≡ false → (s : Statement) → next_from (Some (wants.Words kind 0)) (stream_lines true s) ≡ next_from (Some (wants.Unify kind)) (stream_lines true s)
open-path kind e s = by-list s.unify
  where
    by-list : (us : List (UnifyCode × ℕ)) → next_from (Some (wants.Words kind 0)) (map unify_line us ++ (lines.UnifyEnd ∷ (map proof_line s.proof ++ (lines.ProofEnd ∷ [])))) ≡ next_from (Some (wants.Unify kind)) (map unify_line us ++ (lines.UnifyEnd ∷ (map proof_line s.proof ++ (lines.ProofEnd ∷ []))))
    by-list [] = ap (λ v. next_from (next_of v lines.UnifyEnd) (map proof_line s.proof ++ (lines.ProofEnd ∷ []))) (zero-open kind e)
    by-list (u ∷ us) = ap (λ v. next_from (next_of v (unify_line u)) (map unify_line us ++ (lines.UnifyEnd ∷ (map proof_line s.proof ++ (lines.ProofEnd ∷ []))))) (zero-open kind e)

row-path : (kind : Kind) (s : Statement) (rest : List Line) → next_from (Some (wants.Words kind (length s.params))) (map lines.Param s.params ++ rest) ≡ next_from (Some (wants.Words kind 0)) rest
row-path kind s rest = next-append (Some (wants.Words kind (length s.params))) (map lines.Param s.params) rest ∙ ap (λ o. next_from o rest) (params-path kind s.params)

pub statement-path : (k : Kind) (s : Statement) → s.kind ≡ k → next_from (Some wants.Head) (statement_lines s) ≡ Some wants.Head
statement-path kinds.Sort s e = rw e refl
statement-path kinds.Term s e = rw e (row-path kinds.Term s (lines.Outcome s.outcome ∷ []))
statement-path kinds.Definition s e = rw e (row-path kinds.Definition s (lines.Outcome s.outcome ∷ stream_lines true s) ∙ streams-path kinds.Definition s)
statement-path kinds.LocalDefinition s e = rw e (row-path kinds.LocalDefinition s (lines.Outcome s.outcome ∷ stream_lines true s) ∙ streams-path kinds.LocalDefinition s)
statement-path kinds.Axiom s e = rw e (row-path kinds.Axiom s (stream_lines true s) ∙ open-path kinds.Axiom refl s ∙ streams-path kinds.Axiom s)
statement-path kinds.Theorem s e = rw e (row-path kinds.Theorem s (stream_lines true s) ∙ open-path kinds.Theorem refl s ∙ streams-path kinds.Theorem s)
statement-path kinds.LocalTheorem s e = rw e (row-path kinds.LocalTheorem s (stream_lines true s) ∙ open-path kinds.LocalTheorem refl s ∙ streams-path kinds.LocalTheorem s)

all-path : (ss : List Statement) → next_from (Some wants.Head) (all_lines ss) ≡ Some wants.Head
all-path [] = refl
all-path (s ∷ ss) =
    next-append (Some wants.Head) (statement_lines s) (all_lines ss)
    ∙ ap (λ o. next_from o (all_lines ss)) (statement-path s.kind s refl)
    ∙ all-path ss

pub listing-path : (ss : List Statement) → next_from (Some wants.Head) (listing_lines ss) ≡ Some wants.Nothing
listing-path ss = next-append (Some wants.Head) (all_lines ss) (lines.End ∷ []) ∙ ap (λ o. next_from o (lines.End ∷ [])) (all-path ss)

-- lines with which some listing begins lead somewhere
pub begins-leads : (ls : List Line) → Begins ls → next_from (Some wants.Head) ls ≡ None → ⊥
begins-leads ls (ss, more, is) none =
    let lost : next_from (Some wants.Head) (ls ++ more) ≡ next_from None more = next-append (Some wants.Head) ls more ∙ ap (λ o. next_from o more) none in
    let found : next_from (Some wants.Head) (ls ++ more) ≡ Some wants.Nothing = sym (ap (next_from (Some wants.Head)) is) ∙ listing-path ss in
    let both : next_from None more ≡ Some wants.Nothing = sym lost ∙ found in
    absurd cc

-- a line that leads nowhere may not come
pub stuck-begins-none : (ls : List Line) (w : Want) (l : Line) → next_from (Some wants.Head) ls ≡ Some w → next w l ≡ None → Begins (ls ++ (l ∷ [])) → ⊥
stuck-begins-none ls w l path stuck begins =
    begins-leads (ls ++ (l ∷ [])) begins (next-append (Some wants.Head) ls (l ∷ []) ∙ ap (λ o. next_from o (l ∷ [])) path ∙ ap (λ o. next_from o []) stuck)

-- one line more
pub path-more : (ls : List Line) (w v : Want) (l : Line) → next_from (Some wants.Head) ls ≡ Some w → next w l ≡ Some v → next_from (Some wants.Head) (ls ++ (l ∷ [])) ≡ Some v
path-more ls w v l path comes = next-append (Some wants.Head) ls (l ∷ []) ∙ ap (λ o. next_from o (l ∷ [])) path ∙ ap (λ o. next_from o []) comes
