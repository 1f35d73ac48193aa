-- What the lines of a statement say of it.
use Rattle.std.proofs.Common.{◌≡◌, ◌≤◌, ◌<◌, ◌^◌, ℕ, true, false, List, [], ◌∷◌, ◌++◌, length, map, refl, subst, arith, append_assoc}
use Rattle.std.specs.Prelude.{⊤, All}
use Rattle.std.proofs.lemmas.List.Elements.{All-nil, All-cons}
use Rattle.mz_cmd.specs.declared.code.ProofCode.{ProofCode}
use Rattle.mz_cmd.specs.declared.code.UnifyCode.{UnifyCode}
use Rattle.mz_logic_theory.specs.declared.word.Word.{Word}
use Rattle.mz_asm.specs.declared.kind.Kind.{Kind}
use Rattle.mz_asm.specs.declared.kind.Kind.TheVariants as kinds
use Rattle.mz_asm.specs.declared.line.Line.{Line}
use Rattle.mz_asm.specs.declared.line.Line.TheVariants as lines
use Rattle.mz_asm.specs.declared.rows.Rows.{Rows}
use Rattle.mz_asm.specs.Lines.{IsLine}
use Rattle.mz_asm.specs.Statements.{Statement, unify_line, proof_line, statement_lines, is_sort, has_result, has_streams}
use Rattle.mz_asm.specs.Rows.{next_row, taken, rows_after, HasRoom, IsInRange, TakesRow}
use Rattle.mz_asm.specs.Assembling.{behind_line, HasLines, AreFitting}
use Rattle.mz_asm.proofs.OneText.{st, both_streams}
use Rattle.mz_asm.proofs.Runs.{AreShort}

-- the word of a line has 64 bits
abbrev pub HasWord : Line → Type 0
HasWord (lines.Param w) = w.0 < 2 ^ 64
HasWord (lines.Outcome w) = w.0 < 2 ^ 64
HasWord _ = ⊤

abbrev pub AllGood : Rows → List Line → Type 0
AllGood rows [] = ⊤
AllGood rows (l ∷ ls) = (IsInRange rows l × TakesRow rows l × HasWord l) × AllGood (rows_after rows l) ls

has-word : (bytes : List ℕ) (l : Line) → IsLine bytes l → HasWord l
has-word bytes (lines.Param w) is = is.0
has-word bytes (lines.Outcome w) is = is.0
has-word bytes _ is = tt

pub good-lines : (text : List ℕ) (ls : List Line) (rest : List ℕ) (rows : Rows) → HasLines text ls rest → AreFitting rows ls → AllGood rows ls
good-lines text [] rest rows h fit = tt
good-lines text (l ∷ ls) rest rows (begins, more) (range, row, fit) = ((range, row, has-word _ l begins.1), good-lines (behind_line text) ls rest (rows_after rows l) more fit)

good-params : (rows : Rows) (ps : List Word) (more : List Line) → AllGood rows (map lines.Param ps ++ more) → All (λ w. w.0 < 2 ^ 64) ps × AllGood rows more
good-params rows [] more good = (All-nil _, good)
good-params rows (p ∷ ps) more (here, good) =
    let rest = good-params rows ps more good in
    (All-cons (λ (w : Word). w.0 < 2 ^ 64) p ps here.2 rest.0, rest.1)

good-unify : (rows : Rows) (us : List (UnifyCode × ℕ)) (more : List Line) → AllGood rows (map unify_line us ++ more) → AreShort us × AllGood rows more
good-unify rows [] more good = (tt, good)
good-unify rows (u ∷ us) more (here, good) =
    let rest = good-unify rows us more good in
    let range = here.0 in
    ((omega (arith, range), rest.0), rest.1)

good-proof : (rows : Rows) (ps : List (ProofCode × ℕ)) (more : List Line) → AllGood rows (map proof_line ps ++ more) → AreShort ps × AllGood rows more
good-proof rows [] more good = (tt, good)
good-proof rows (u ∷ us) more (here, good) =
    let rest = good-proof rows us more good in
    let range = here.0 in
    ((omega (arith, range), rest.0), rest.1)

good-streams : (rows : Rows) (us : List (UnifyCode × ℕ)) (qs : List (ProofCode × ℕ)) (more : List Line) → AllGood rows (both_streams us qs ++ more) → AreShort us × AreShort qs × AllGood rows more
good-streams rows us qs more good =
    let first = good-unify rows us _ (subst (AllGood rows) (append_assoc (map unify_line us) (lines.UnifyEnd ∷ (map proof_line qs ++ (lines.ProofEnd ∷ []))) more) good) in
    let second = good-proof rows qs (lines.ProofEnd ∷ more) (subst (AllGood rows) (append_assoc (map proof_line qs) (lines.ProofEnd ∷ []) more) first.1.1) in
    (first.0, second.0, second.1.1)

-- a statement whose row is the next one, whose numbers aren't too large, and whose words have 64 bits
pub record Fine (rows : Rows) (s : Statement) : Type 0 where
  pub row : s.row ≡ next_row rows s.kind
  pub room : HasRoom (is_sort s.kind) rows
  pub mods : is_sort s.kind ≡ true → s.mods ≤ 15
  pub few : is_sort s.kind ≡ false → length s.params ≤ 65535
  pub words : is_sort s.kind ≡ false → All (λ w. w.0 < 2 ^ 64) s.params
  pub outcome : has_result s.kind ≡ true → s.outcome.0 < 2 ^ 64
  pub unify : has_streams s.kind ≡ true → AreShort s.unify
  pub proof : has_streams s.kind ≡ true → AreShort s.proof

module _ (rows : Rows) (row mods : ℕ) (ps : List Word) (o : Word) (us : List (UnifyCode × ℕ)) (qs : List (ProofCode × ℕ)) (more : List Line) where
  row-fine : (k : Kind) → is_sort k ≡ false → (rest : List Line) → AllGood (taken rows k) ((map lines.Param ps ++ rest) ++ more) → All (λ w. w.0 < 2 ^ 64) ps × AllGood (taken rows k) (rest ++ more)
  row-fine k n rest good = good-params (taken rows k) ps (rest ++ more) (subst (AllGood (taken rows k)) (append_assoc (map lines.Param ps) rest more) good)

  fine-of : (k : Kind) → AllGood rows (statement_lines (st k row mods ps o us qs) ++ more) → Fine rows (st k row mods ps o us qs) × AllGood (taken rows k) more
  fine-of kinds.Sort (((r, m, room), is, _), rest) = (record { row = is; room = room; mods = λ _. m; few = λ e. absurd cc; words = λ e. absurd cc; outcome = λ e. absurd cc; unify = λ e. absurd cc; proof = λ e. absurd cc }, rest)
  fine-of kinds.Term (((r, m, room), is, _), rest) =
      let w = row-fine kinds.Term refl (lines.Outcome o ∷ []) rest in
      (record { row = is; room = room; mods = λ e. absurd cc; few = λ _. m; words = λ _. w.0; outcome = λ _. w.1.0.2; unify = λ e. absurd cc; proof = λ e. absurd cc }, w.1.1)
  fine-of kinds.Definition (((r, m, room), is, _), rest) =
      let w = row-fine kinds.Definition refl (lines.Outcome o ∷ both_streams us qs) rest in
      let s = good-streams (taken rows kinds.Definition) us qs more w.1.1 in
      (record { row = is; room = room; mods = λ e. absurd cc; few = λ _. m; words = λ _. w.0; outcome = λ _. w.1.0.2; unify = λ _. s.0; proof = λ _. s.1 }, s.2)
  fine-of kinds.LocalDefinition (((r, m, room), is, _), rest) =
      let w = row-fine kinds.LocalDefinition refl (lines.Outcome o ∷ both_streams us qs) rest in
      let s = good-streams (taken rows kinds.LocalDefinition) us qs more w.1.1 in
      (record { row = is; room = room; mods = λ e. absurd cc; few = λ _. m; words = λ _. w.0; outcome = λ _. w.1.0.2; unify = λ _. s.0; proof = λ _. s.1 }, s.2)
  fine-of kinds.Axiom (((r, m, room), is, _), rest) =
      let w = row-fine kinds.Axiom refl (both_streams us qs) rest in
      let s = good-streams (taken rows kinds.Axiom) us qs more w.1 in
      (record { row = is; room = room; mods = λ e. absurd cc; few = λ _. m; words = λ _. w.0; outcome = λ e. absurd cc; unify = λ _. s.0; proof = λ _. s.1 }, s.2)
  fine-of kinds.Theorem (((r, m, room), is, _), rest) =
      let w = row-fine kinds.Theorem refl (both_streams us qs) rest in
      let s = good-streams (taken rows kinds.Theorem) us qs more w.1 in
      (record { row = is; room = room; mods = λ e. absurd cc; few = λ _. m; words = λ _. w.0; outcome = λ e. absurd cc; unify = λ _. s.0; proof = λ _. s.1 }, s.2)
  fine-of kinds.LocalTheorem (((r, m, room), is, _), rest) =
      let w = row-fine kinds.LocalTheorem refl (both_streams us qs) rest in
      let s = good-streams (taken rows kinds.LocalTheorem) us qs more w.1 in
      (record { row = is; room = room; mods = λ e. absurd cc; few = λ _. m; words = λ _. w.0; outcome = λ e. absurd cc; unify = λ _. s.0; proof = λ _. s.1 }, s.2)

pub fine-statement : (rows : Rows) (s : Statement) (more : List Line) → AllGood rows (statement_lines s ++ more) → Fine rows s × AllGood (taken rows s.kind) more
fine-statement rows s more good = fine-of rows s.row s.mods s.params s.outcome s.unify s.proof more s.kind good
