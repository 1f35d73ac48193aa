use Rattle.std.proofs.Common.{◌≤◌, ◌∙◌, ℕ, reverse, length, refl, sym, subst, inl, inr}
use Rattle.mz_logic_theory.specs.Tree.{listed}
use Rattle.mz_layout_tables.specs.Tables.{thm_row}
use Rattle.mz_match_rows.specs.ReportedRow.{SaysClaims}
use Rattle.mz_match_rows.proofs.Offered.{claims-plain, turned-twice, exact-no, exact-yes}
use Rattle.mz_match.proofs.statement.match_claims.Goals as goal

pub match_params-requires-clause-row : goal.match_params-requires-clause-row
match_params-requires-clause-row c = let (b, row) = c.requires in row.there

pub match_params-requires-clause-few : goal.match_params-requires-clause-few
match_params-requires-clause-few c = let (b, row) = c.requires in row.few

pub kept_marks-requires : goal.kept_marks-requires
kept_marks-requires c =
    let (b, row) = c.requires in
    subst (λ (at : ℕ). at ≤ length c.args.mmb.now) (sym c.unify_of_thm-start.ensures.place) row.claims.conclusion.within

pub same_hyps-requires : goal.same_hyps-requires
same_hyps-requires c =
    let (b, row) = c.requires in
    let says = subst (λ (n : ℕ). SaysClaims c.args.mmb.now n c.unify_of_thm-start.result.0 b) (sym c.thm_arity.ensures) (subst (λ (at : ℕ). SaysClaims c.args.mmb.now (length (thm_row c.args.mmb.now c.args.row).params) at b) (sym c.unify_of_thm-start.ensures.place) row.claims) in
    (says.marks, reverse (listed b.hyps), claims-plain _ b says refl c.kept_marks.ensures, (b.conclusion, says.conclusion.to, says.conclusion.said, says.hyps))

pub same_first-requires : goal.same_first-requires
same_first-requires c =
    let (b, row) = c.requires in
    let says = subst (λ (n : ℕ). SaysClaims c.args.mmb.now n c.unify_of_thm-start.result.0 b) (sym c.thm_arity.ensures) (subst (λ (at : ℕ). SaysClaims c.args.mmb.now (length (thm_row c.args.mmb.now c.args.row).params) at b) (sym c.unify_of_thm-start.ensures.place) row.claims) in
    (says.marks, b.conclusion, says.conclusion.to, claims-plain _ b says refl c.kept_marks.ensures, says.conclusion.said)

pub returns-then-not-match_params : goal.returns-then-not-match_params
returns-then-not-match_params c = λ b row.
    inl ((λ same. exact-no c.match_params.result _ c.match_params.ensures c.if-not-match_params.true (c.as_slice.ensures ∙ same ∙ row.params)), refl)

pub returns-then-not-same_hyps : goal.returns-then-not-same_hyps
returns-then-not-same_hyps c = λ b row.
    let says = subst (λ (n : ℕ). SaysClaims c.args.mmb.now n c.unify_of_thm-start.result.0 b) (sym c.thm_arity.ensures) (subst (λ (at : ℕ). SaysClaims c.args.mmb.now (length (thm_row c.args.mmb.now c.args.row).params) at b) (sym c.unify_of_thm-start.ensures.place) row.claims) in
    let params = sym c.as_slice.ensures ∙ c.match_params.ensures.0 c.if-not-match_params.false ∙ sym row.params in
    let exact = turned-twice c.args.publics.now c.args.thm.now.hyps b.hyps _ (c.same_hyps.ensures says.marks (reverse (listed b.hyps)) (claims-plain _ b says refl c.kept_marks.ensures) (b.conclusion, says.conclusion.to, says.conclusion.said, says.hyps)) in
    inr (params, inl (exact-no c.same_hyps.result _ exact c.if-not-same_hyps.true, refl))

pub returns-then-not-same_first : goal.returns-then-not-same_first
returns-then-not-same_first c = λ b row.
    let says = subst (λ (n : ℕ). SaysClaims c.args.mmb.now n c.unify_of_thm-start.result.0 b) (sym c.thm_arity.ensures) (subst (λ (at : ℕ). SaysClaims c.args.mmb.now (length (thm_row c.args.mmb.now c.args.row).params) at b) (sym c.unify_of_thm-start.ensures.place) row.claims) in
    let params = sym c.as_slice.ensures ∙ c.match_params.ensures.0 c.if-not-match_params.false ∙ sym row.params in
    let exact = turned-twice c.args.publics.now c.args.thm.now.hyps b.hyps _ (c.same_hyps.ensures says.marks (reverse (listed b.hyps)) (claims-plain _ b says refl c.kept_marks.ensures) (b.conclusion, says.conclusion.to, says.conclusion.said, says.hyps)) in
    let first = c.same_first.ensures says.marks b.conclusion says.conclusion.to (claims-plain _ b says refl c.kept_marks.ensures) says.conclusion.said in
    inr (params, inr (exact-yes c.same_hyps.result _ exact c.if-not-same_hyps.false, inl (exact-no c.same_first.result _ first c.if-not-same_first.true, refl)))

pub returns : goal.returns
returns c = λ b row.
    let says = subst (λ (n : ℕ). SaysClaims c.args.mmb.now n c.unify_of_thm-start.result.0 b) (sym c.thm_arity.ensures) (subst (λ (at : ℕ). SaysClaims c.args.mmb.now (length (thm_row c.args.mmb.now c.args.row).params) at b) (sym c.unify_of_thm-start.ensures.place) row.claims) in
    let params = sym c.as_slice.ensures ∙ c.match_params.ensures.0 c.if-not-match_params.false ∙ sym row.params in
    let exact = turned-twice c.args.publics.now c.args.thm.now.hyps b.hyps _ (c.same_hyps.ensures says.marks (reverse (listed b.hyps)) (claims-plain _ b says refl c.kept_marks.ensures) (b.conclusion, says.conclusion.to, says.conclusion.said, says.hyps)) in
    let first = c.same_first.ensures says.marks b.conclusion says.conclusion.to (claims-plain _ b says refl c.kept_marks.ensures) says.conclusion.said in
    (params, (exact-yes c.same_hyps.result _ exact c.if-not-same_hyps.false, (exact-yes c.same_first.result _ first c.if-not-same_first.false, tt)))
