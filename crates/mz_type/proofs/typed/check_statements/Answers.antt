use Rattle.std.proofs.Common.{◌∷◌, [], ◌++◌, ◌+◌, ◌<◌, ◌^◌, length, map, reverse, suc, sym, ap, ◌∙◌, subst, append_assoc, add-one, arith}
use Rattle.std.proofs.lemmas.List.{length-reverse}
use Rattle.mz_base.specs.Gaps.{gaps_of}
use Rattle.mz_sexpr.specs.Number.{node_count}
use Rattle.mz_mmu.specs.EntryView.{entry}
use Rattle.mz_mmu_theory.specs.TextRules.{text_rules}
use Rattle.mz_type.specs.StatedView.{IsTyped, statements_of}
use Rattle.mz_type.proofs.StatedSteps.{IsAsFar, begins, lighter, goes_on, typed_at_end}
use Rattle.mz_type.proofs.Turned.{taken, fewer, turned}
use Rattle.mz_type.proofs.TypedSteps.{rules_stop}
use Rattle.mz_type.proofs.typed.check_statements.Goals as goal

pub loop-entry-init : goal.loop-entry-init
loop-entry-init c =
    let now = c.reverse.new.self.items in
    let back = turned c.args.entries.items now c.reverse.ensures.items in
    let none = ap (λ e. statements_of e c.in-Ok.beside.items) c.new-env.ensures in
    record {
      split = ap (λ ss. ss ++ map entry (reverse now)) none ∙ ap (map entry) back;
      count = let many = ap length back in omega (arith, many, length-reverse now);
      far = subst (λ done. IsAsFar c.args.nodes.now (map entry c.args.entries.items) done (map entry (reverse now)) c.new-env.result c.in-Ok.beside.items 0 0 c.top-left.result) (sym none)
          (begins (gaps_of c.args.mode) c.args.nodes.now (map entry c.args.entries.items) c.requires.read (map entry (reverse now)) c.new-env.result c.in-Ok.beside.items c.top-left.result
          (ap (map entry) back) c.new-env.ensures c.in-Ok.ensures.items c.top-left.ensures);
    }

pub statement_weight-weight-requires : goal.statement_weight-weight-requires
statement_weight-weight-requires c =
    let at = c.loop-entry in
    let few : node_count c.args.nodes.now < 2 ^ 32 = omega (arith, c.count-nodes.ensures, c.count-nodes.type_inv) in
    let cut = ap (map entry) (taken at.entries.items c.take_last.new.items.items c.in-Some.entry c.in-Some.ensures) in
    let light = lighter (gaps_of c.args.mode) c.args.nodes.now (map entry c.args.entries.items) c.requires.read (statements_of at.env at.beside.items) (map entry (reverse at.entries.items))
    at.env at.beside.items at.number at.weight at.left at.invariant.far (entry c.in-Some.entry) (map entry (reverse c.take_last.new.items.items)) cut few in
    omega (arith, light)

pub overflow_add-number : goal.overflow_add-number
overflow_add-number c =
    let one = fewer c.loop-entry.entries.items c.take_last.new.items.items c.in-Some.entry c.in-Some.ensures in
    omega (arith, one, c.loop-entry.invariant.count, c.requires.few)

pub overflow_add-weight : goal.overflow_add-weight
overflow_add-weight c =
    let at = c.loop-entry in
    let few : node_count c.args.nodes.now < 2 ^ 32 = omega (arith, c.count-nodes.ensures, c.count-nodes.type_inv) in
    let cut = ap (map entry) (taken at.entries.items c.take_last.new.items.items c.in-Some.entry c.in-Some.ensures) in
    let light = lighter (gaps_of c.args.mode) c.args.nodes.now (map entry c.args.entries.items) c.requires.read (statements_of at.env at.beside.items) (map entry (reverse at.entries.items))
    at.env at.beside.items at.number at.weight at.left at.invariant.far (entry c.in-Some.entry) (map entry (reverse c.take_last.new.items.items)) cut few in
    omega (arith, light, c.statement_weight-weight.ensures)

pub declare_statement-requires-clause-small : goal.declare_statement-requires-clause-small
declare_statement-requires-clause-small c =
    let at = c.loop-entry in
    let few : node_count c.args.nodes.now < 2 ^ 32 = omega (arith, c.count-nodes.ensures, c.count-nodes.type_inv) in
    let cut = ap (map entry) (taken at.entries.items c.take_last.new.items.items c.in-Some.entry c.in-Some.ensures) in
    let light = lighter (gaps_of c.args.mode) c.args.nodes.now (map entry c.args.entries.items) c.requires.read (statements_of at.env at.beside.items) (map entry (reverse at.entries.items))
    at.env at.beside.items at.number at.weight at.left at.invariant.far (entry c.in-Some.entry) (map entry (reverse c.take_last.new.items.items)) cut few in
    omega (arith, light)

pub returns-in-Err-clause-stops : goal.returns-in-Err-clause-stops
returns-in-Err-clause-stops c =
    let at = c.loop-entry in
    let cut = ap (map entry) (taken at.entries.items c.take_last.new.items.items c.in-Some.entry c.in-Some.ensures) in
    rules_stop (map entry (reverse at.entries.items)) (map entry (reverse c.take_last.new.items.items)) (entry c.in-Some.entry) cut
    (suc at.number) (at.number + 1) at.env at.left (text_rules c.args.nodes.now (map entry c.args.entries.items)) c.in-Err.stop c.in_statement.result
    (add-one at.number) c.in_statement.ensures c.in-Err.ensures.judged at.invariant.far.asked

pub loop-entry-preserved : goal.loop-entry-preserved
loop-entry-preserved c =
    let at = c.loop-entry in
    let x = c.in-Some.entry in
    let new = c.take_last.new.items.items in
    let done = statements_of at.env at.beside.items in
    let one = fewer at.entries.items new x c.in-Some.ensures in
    let cut = ap (map entry) (taken at.entries.items new x c.in-Some.ensures) in
    let told = c.in_default-declare_statement.ensures.told in
    record {
      split = ap (λ ss. ss ++ map entry (reverse new)) told ∙ append_assoc done (entry x ∷ []) (map entry (reverse new)) ∙ ap (λ xs. done ++ xs) (sym cut) ∙ at.invariant.split;
      count = omega (arith, one, at.invariant.count);
      far = goes_on (gaps_of c.args.mode) c.args.nodes.now (map entry c.args.entries.items) c.requires.read done (map entry (reverse at.entries.items)) at.env at.beside.items at.number at.weight at.left
          at.invariant.far (entry x) (map entry (reverse new)) cut
          (statements_of c.declare_statement.new.env c.declare_statement.new.beside.items) c.declare_statement.new.env c.declare_statement.new.beside.items (at.number + 1) (at.weight + c.statement_weight-weight.result) c.rest-left.result
          told c.in_default-declare_statement.ensures.more c.in_default-declare_statement.ensures.many told
          (add-one at.number) (ap (λ k. at.weight + k) c.statement_weight-weight.ensures) c.rest-left.ensures c.in_default-declare_statement.ensures.judged;
    }

pub loop-entry-smaller : goal.loop-entry-smaller
loop-entry-smaller c =
    let one = fewer c.loop-entry.entries.items c.take_last.new.items.items c.in-Some.entry c.in-Some.ensures in
    omega (arith, one)

-- all are typed at the end
pub invariant_of-result : goal.invariant_of-result
invariant_of-result c =
    let at = c.loop-entry in
    let few : node_count c.args.nodes.now < 2 ^ 32 = omega (arith, c.count-nodes.ensures, c.count-nodes.type_inv) in
    let none = ap length c.in_default-take_last.ensures in
    let empty = ap (λ xs. map entry (reverse xs)) c.in_default-take_last.ensures in
    let short : length at.env < 2 ^ 32 = omega (arith, at.invariant.far.counted, at.invariant.count, none, c.requires.few) in
    subst (λ e. IsTyped (gaps_of c.args.mode) e at.beside.items at.weight) (sym c.into_env.ensures)
    (typed_at_end (gaps_of c.args.mode) c.args.nodes.now (map entry c.args.entries.items) (map entry (reverse at.entries.items)) at.env at.beside.items at.number at.weight at.left c.requires.read
    at.invariant.far at.invariant.split empty short few)

pub returns-clause-legal : goal.returns-clause-legal
returns-clause-legal c =
    let at = c.loop-entry in
    let few : node_count c.args.nodes.now < 2 ^ 32 = omega (arith, c.count-nodes.ensures, c.count-nodes.type_inv) in
    let none = ap length c.in_default-take_last.ensures in
    let empty = ap (λ xs. map entry (reverse xs)) c.in_default-take_last.ensures in
    let short : length at.env < 2 ^ 32 = omega (arith, at.invariant.far.counted, at.invariant.count, none, c.requires.few) in
    let typed = subst (λ e. IsTyped (gaps_of c.args.mode) e at.beside.items at.weight) (sym c.into_env.ensures)
    (typed_at_end (gaps_of c.args.mode) c.args.nodes.now (map entry c.args.entries.items) (map entry (reverse at.entries.items)) at.env at.beside.items at.number at.weight at.left c.requires.read
    at.invariant.far at.invariant.split empty short few) in
    typed.legal
