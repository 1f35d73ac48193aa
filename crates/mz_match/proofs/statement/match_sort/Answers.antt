use Rattle.std.proofs.Common.{◌≡◌, ◌∙◌, Bool, true, false, nat_eq, not, sym, ap, arith}
use Rattle.std.proofs.lemmas.Bool.{eqb-true, eqb-false}
use Rattle.mz_logic_theory.specs.declared.binder.SortMods.{SortMods}
use Rattle.mz_layout_tables.proofs.Offered.{length-sorts}
use Rattle.mz_match_rows.proofs.Offered.{exact-no, sort-kind-differs, sort-mods-differ, sort-same, sort-row}
use Rattle.mz_match.proofs.statement.match_sort.Goals as goal

negated : (b c : Bool) → not b ≡ c → b ≡ not c
negated true c e = ap not e
negated false c e = ap not e

mods-same : (m n : SortMods) → nat_eq m.0 n.0 ≡ true → m ≡ n
mods-same m n e = ap (λ x. record { 0 = x }) (eqb-true m.0 n.0 e)

pub mods-requires : goal.mods-requires
mods-requires c =
    let here = sort-row c.args.mmb.now c.args.statement.now c.requires.0 c.requires.1 (c.has_kind.ensures.0 c.if-not-has_kind.false) in
    omega (arith, here, length-sorts c.args.mmb.now)

pub returns-then-not-has_kind : goal.returns-then-not-has_kind
returns-then-not-has_kind c = λ p row.
    sort-kind-differs c.args.publics.now c.args.mmb.now c.args.statement.now c.args.mods p row (exact-no c.has_kind.result _ c.has_kind.ensures c.if-not-has_kind.true)

pub returns-then-ne : goal.returns-then-ne
returns-then-ne c = λ p row.
    sort-mods-differ c.args.publics.now c.args.mmb.now c.args.statement.now c.args.mods p row (c.has_kind.ensures.0 c.if-not-has_kind.false)
    (λ same. eqb-false c.args.mods.0 c.mods.result.0 (negated _ true (sym c.ne.ensures ∙ c.if-ne.true)) (ap (λ (m : SortMods). m.0) (same ∙ sym c.mods.ensures.byte)))

pub returns : goal.returns
returns c = λ p row.
    sort-same c.args.publics.now c.args.mmb.now c.args.statement.now c.args.mods p row (c.has_kind.ensures.0 c.if-not-has_kind.false)
    (mods-same c.args.mods c.mods.result (negated _ false (sym c.ne.ensures ∙ c.if-ne.false)) ∙ c.mods.ensures.byte)
