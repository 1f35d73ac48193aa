use Rattle.std.proofs.Common.{◌∙◌, arith}
use Rattle.std.proofs.lemmas.Result.{IfOk-weaker}
use Rattle.mz_layout_tables.specs.Heads.{body_bytes}
use Rattle.mz_axioms.proofs.Noting.{cited-sets, sets-of-rows, set-of-axiom, set-of-theorem}
use Rattle.mz_axioms.proofs.walk.set_of.Goals as goal

pub single-requires-clause-below : goal.single-requires-clause-below
single-requires-clause-below c = let e = c.len.ensures in let lt = c.requires.room in omega (arith, e, lt)

pub returns-then-place : goal.returns-then-place
returns-then-place c =
    IfOk-weaker c.single.result _ _
    (λ id one. set-of-axiom c.args.sets.now.nodes.items c.single.new.self.nodes.items c.args.size.height c.args.rows.now.items c.args.place (body_bytes c.args.mmb.now c.args.head.body c.args.head.next) c.len.result id
    c.if-place.true (c.len.ensures ∙ c.args.rows.now.ok.0) one)
    c.single.ensures

pub union-requires-clause-sets : goal.union-requires-clause-sets
union-requires-clause-sets c =
    cited-sets c.args.sets.now.nodes.items c.args.size.height c.args.rows.now.items (body_bytes c.args.mmb.now c.args.head.body c.args.head.next) c.in_ok-cited.cited.items (sets-of-rows c.args.rows.now.items c.deref.result.now (body_bytes c.args.mmb.now c.args.head.body c.args.head.next) c.in_ok-cited.cited.items c.deref.ensures.value c.in_ok-cited.ensures) c.requires.sets

pub returns : goal.returns
returns c =
    IfOk-weaker c.union.result _ _
    (λ id made. set-of-theorem c.args.sets.now.nodes.items c.union.new.self.nodes.items c.args.size.height c.args.rows.now.items c.args.place (body_bytes c.args.mmb.now c.args.head.body c.args.head.next)
    c.in_ok-cited.cited.items id c.if-place.false (sets-of-rows c.args.rows.now.items c.deref.result.now (body_bytes c.args.mmb.now c.args.head.body c.args.head.next) c.in_ok-cited.cited.items c.deref.ensures.value c.in_ok-cited.ensures) made)
    c.union.ensures
