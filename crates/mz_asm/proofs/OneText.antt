-- Lines say one list of parts at the most.
use Rattle.std.proofs.Common.{◌≡◌, ℕ, Bool, true, false, List, [], ◌∷◌, ◌++◌, length, map, refl, sym, ap, ◌∙◌, arith, append_assoc}
use Rattle.mz_cmd.specs.declared.code.ProofCode.{ProofCode}
use Rattle.mz_cmd.specs.declared.code.UnifyCode.{UnifyCode}
use Rattle.mz_logic_theory.specs.declared.word.Word.{Word}
use Rattle.mz_layout_tables.specs.Normal.{Parts}
use Rattle.mz_asm.specs.declared.kind.Kind.{Kind}
use Rattle.mz_asm.specs.declared.kind.Kind.TheVariants as kinds
use Rattle.mz_asm.specs.declared.line.Line.{Line}
use Rattle.mz_asm.specs.declared.line.Line.TheVariants as lines
use Rattle.mz_asm.specs.Statements.{Statement, unify_line, proof_line, lines_of, statement_lines, all_lines, listing_lines, is_sort, with_statement, parts_from, parts_of}

abbrev pub st : Kind → ℕ → ℕ → List Word → Word → List (UnifyCode × ℕ) → List (ProofCode × ℕ) → Statement
st k row mods ps o us qs = record { kind = k; row = row; mods = mods; params = ps; outcome = o; unify = us; proof = qs }

split-params : (ps qs : List Word) (x y : List Line) → length ps ≡ length qs → map lines.Param ps ++ x ≡ map lines.Param qs ++ y → (ps ≡ qs) × (x ≡ y)
split-params [] [] x y n e = (refl, e)
split-params (p ∷ ps) (q ∷ qs) x y n e =
    let first : p ≡ q = cc in
    let others : map lines.Param ps ++ x ≡ map lines.Param qs ++ y = cc in
    let rest = split-params ps qs x y (omega (arith, n)) others in
    let tails : ps ≡ qs = rest.0 in
    (cc, rest.1)
split-params _ _ x y n e = absurd (omega (arith, n))

split-unify : (us vs : List (UnifyCode × ℕ)) (x y : List Line) → map unify_line us ++ (lines.UnifyEnd ∷ x) ≡ map unify_line vs ++ (lines.UnifyEnd ∷ y) → (us ≡ vs) × (x ≡ y)
split-unify [] [] x y e = (refl, cc)
split-unify [] (v ∷ vs) x y e = absurd cc
split-unify (u ∷ us) [] x y e = absurd cc
split-unify ((c, n) ∷ us) ((d, m) ∷ vs) x y e =
    let code : c ≡ d = cc in
    let value : n ≡ m = cc in
    let others : map unify_line us ++ (lines.UnifyEnd ∷ x) ≡ map unify_line vs ++ (lines.UnifyEnd ∷ y) = cc in
    let rest = split-unify us vs x y others in
    let tails : us ≡ vs = rest.0 in
    (ap (λ z. (z, n) ∷ us) code ∙ ap (λ (z : ℕ). (d, z) ∷ us) value ∙ ap (λ z. (d, m) ∷ z) tails, rest.1)

split-proof : (us vs : List (ProofCode × ℕ)) (x y : List Line) → map proof_line us ++ (lines.ProofEnd ∷ x) ≡ map proof_line vs ++ (lines.ProofEnd ∷ y) → (us ≡ vs) × (x ≡ y)
split-proof [] [] x y e = (refl, cc)
split-proof [] (v ∷ vs) x y e = absurd cc
split-proof (u ∷ us) [] x y e = absurd cc
split-proof ((c, n) ∷ us) ((d, m) ∷ vs) x y e =
    let code : c ≡ d = cc in
    let value : n ≡ m = cc in
    let others : map proof_line us ++ (lines.ProofEnd ∷ x) ≡ map proof_line vs ++ (lines.ProofEnd ∷ y) = cc in
    let rest = split-proof us vs x y others in
    let tails : us ≡ vs = rest.0 in
    (ap (λ z. (z, n) ∷ us) code ∙ ap (λ (z : ℕ). (d, z) ∷ us) value ∙ ap (λ z. (d, m) ∷ z) tails, rest.1)

-- the lines of both streams
abbrev pub both_streams : List (UnifyCode × ℕ) → List (ProofCode × ℕ) → List Line
both_streams us qs = map unify_line us ++ (lines.UnifyEnd ∷ (map proof_line qs ++ (lines.ProofEnd ∷ [])))

streams-apart : (us : List (UnifyCode × ℕ)) (qs : List (ProofCode × ℕ)) (x : List Line) → both_streams us qs ++ x ≡ map unify_line us ++ (lines.UnifyEnd ∷ (map proof_line qs ++ (lines.ProofEnd ∷ x)))
streams-apart us qs x =
    append_assoc (map unify_line us) _ x ∙ ap (λ z. map unify_line us ++ (lines.UnifyEnd ∷ z)) (append_assoc (map proof_line qs) (lines.ProofEnd ∷ []) x)

split-streams : (us us' : List (UnifyCode × ℕ)) (qs qs' : List (ProofCode × ℕ)) (x y : List Line) → both_streams us qs ++ x ≡ both_streams us' qs' ++ y → (us ≡ us') × (qs ≡ qs') × (x ≡ y)
split-streams us us' qs qs' x y e =
    let first = split-unify us us' _ _ (sym (streams-apart us qs x) ∙ e ∙ streams-apart us' qs' y) in
    let second = split-proof qs qs' x y first.1 in
    (first.0, second.0, second.1)

module _ (row row' mods mods' : ℕ) (ps ps' : List Word) (o o' : Word) (us us' : List (UnifyCode × ℕ)) (qs qs' : List (ProofCode × ℕ)) (x y : List Line) where
  abbrev Same : Kind → Type 0
  Same k = ((p : Parts) → with_statement p (st k row mods ps o us qs) ≡ with_statement p (st k row' mods' ps' o' us' qs')) × (x ≡ y)

  -- behind the first line of a row without a result, and of one with a result and streams
  plain-rest : (k : Kind) (a b : List Line) → lines.Head k row (length ps) ∷ ((map lines.Param ps ++ a) ++ x) ≡ lines.Head k row' (length ps') ∷ ((map lines.Param ps' ++ b) ++ y) → (ps ≡ ps') × (a ++ x ≡ b ++ y)
  plain-rest k a b e =
      let many : length ps ≡ length ps' = cc in
      let others : (map lines.Param ps ++ a) ++ x ≡ (map lines.Param ps' ++ b) ++ y = cc in
      split-params ps ps' (a ++ x) (b ++ y) many (sym (append_assoc (map lines.Param ps) a x) ∙ others ∙ append_assoc (map lines.Param ps') b y)

  result-rest : (a b : List Line) → lines.Outcome o ∷ (a ++ x) ≡ lines.Outcome o' ∷ (b ++ y) → (o ≡ o') × (a ++ x ≡ b ++ y)
  result-rest a b e = (cc, cc)

  same-row : (k : Kind) → statement_lines (st k row mods ps o us qs) ++ x ≡ statement_lines (st k row' mods' ps' o' us' qs') ++ y → Same k
  same-row kinds.Sort e =
      let is : mods ≡ mods' = cc in
      ((λ p. rw is refl), cc)
  same-row kinds.Term e =
      let r = plain-rest kinds.Term (lines.Outcome o ∷ []) (lines.Outcome o' ∷ []) e in
      let s = result-rest [] [] r.1 in
      ((λ p. rw (r.0, s.0) refl), s.1)
  same-row kinds.Definition e =
      let r = plain-rest kinds.Definition (lines.Outcome o ∷ both_streams us qs) (lines.Outcome o' ∷ both_streams us' qs') e in
      let s = result-rest (both_streams us qs) (both_streams us' qs') r.1 in
      let t = split-streams us us' qs qs' x y s.1 in
      ((λ p. rw (r.0, s.0, t.0, t.1) refl), t.2)
  same-row kinds.LocalDefinition e =
      let r = plain-rest kinds.LocalDefinition (lines.Outcome o ∷ both_streams us qs) (lines.Outcome o' ∷ both_streams us' qs') e in
      let s = result-rest (both_streams us qs) (both_streams us' qs') r.1 in
      let t = split-streams us us' qs qs' x y s.1 in
      ((λ p. rw (r.0, s.0, t.0, t.1) refl), t.2)
  same-row kinds.Axiom e =
      let r = plain-rest kinds.Axiom (both_streams us qs) (both_streams us' qs') e in
      let t = split-streams us us' qs qs' x y r.1 in
      ((λ p. rw (r.0, t.0, t.1) refl), t.2)
  same-row kinds.Theorem e =
      let r = plain-rest kinds.Theorem (both_streams us qs) (both_streams us' qs') e in
      let t = split-streams us us' qs qs' x y r.1 in
      ((λ p. rw (r.0, t.0, t.1) refl), t.2)
  same-row kinds.LocalTheorem e =
      let r = plain-rest kinds.LocalTheorem (both_streams us qs) (both_streams us' qs') e in
      let t = split-streams us us' qs qs' x y r.1 in
      ((λ p. rw (r.0, t.0, t.1) refl), t.2)

-- ---- statements one after another

same-kind : (s t : Statement) (x y : List Line) (a b : Bool) → lines_of a s ++ x ≡ lines_of b t ++ y → t.kind ≡ s.kind
same-kind s t x y true true e = sym cc
same-kind s t x y false true e = sym cc
same-kind s t x y _ _ e = sym cc

same-statement : (s t : Statement) (x y : List Line) → statement_lines s ++ x ≡ statement_lines t ++ y → ((p : Parts) → with_statement p s ≡ with_statement p t) × (x ≡ y)
same-statement s t x y e =
    let is : t.kind ≡ s.kind = same-kind s t x y (is_sort s.kind) (is_sort t.kind) e in
    let moved : t ≡ record t { kind = s.kind } = ap (λ (k : Kind). record t { kind = k }) is in
    let there : statement_lines s ++ x ≡ statement_lines (record t { kind = s.kind }) ++ y = e ∙ ap (λ (v : Statement). statement_lines v ++ y) moved in
    let both = same-row s.row t.row s.mods t.mods s.params t.params s.outcome t.outcome s.unify t.unify s.proof t.proof x y s.kind there in
    ((λ p. both.0 p ∙ ap (λ (v : Statement). with_statement p v) (sym moved)), both.1)

head-or-end : (s : Statement) (x y : List Line) (b : Bool) → lines_of b s ++ x ≡ lines.End ∷ y → ⊥
head-or-end s x y true e = absurd cc
head-or-end s x y false e = absurd cc

listing-cons : (s : Statement) (ss : List Statement) → listing_lines (s ∷ ss) ≡ statement_lines s ++ listing_lines ss
listing-cons s ss = append_assoc (statement_lines s) (all_lines ss) (lines.End ∷ [])

parts-same : (p : Parts) (ss ts : List Statement) → listing_lines ss ≡ listing_lines ts → parts_from p ss ≡ parts_from p ts
parts-same p [] [] e = refl
parts-same p [] (t ∷ ts) e = absurd (head-or-end t (listing_lines ts) [] (is_sort t.kind) (sym (listing-cons t ts) ∙ sym e))
parts-same p (s ∷ ss) [] e = absurd (head-or-end s (listing_lines ss) [] (is_sort s.kind) (sym (listing-cons s ss) ∙ e))
parts-same p (s ∷ ss) (t ∷ ts) e =
    let both = same-statement s t (listing_lines ss) (listing_lines ts) (sym (listing-cons s ss) ∙ e ∙ listing-cons t ts) in
    ap (λ (q : Parts). parts_from q ss) (both.0 p) ∙ parts-same (with_statement p t) ss ts both.1

pub one-list : (ss ts : List Statement) → listing_lines ss ≡ listing_lines ts → parts_of ss ≡ parts_of ts
one-list ss ts e = parts-same _ ss ts e
