use Rattle.std.proofs.Common.{◌∙◌, List, length, Option, unwrap_or, refl, ap}
use Rattle.mz_store.specs.Nodes.{operands_at, sharing_of}
use Rattle.mz_store.specs.Tables.{bucket_of}
use Rattle.mz_store.specs.declared.item.Id.{Id}
use Rattle.mz_store.proofs.Tabled.{link-variable, link-lies, link-lie, link-same, link-kept, link-term}
use Rattle.mz_store.proofs.table.Table.link.Goals as goal

pub returns-in_default-clause-table : goal.returns-in_default-clause-table
returns-in_default-clause-table c =
    let e = c.args.expressions.now in
    link-variable c.args.self.now c.args.self.now e.operands.items e.nodes.items c.args.id.0 c.index-node.result.now c.requires.inside c.index-node.ensures
    c.in_default.field-0 c.in_default.is c.requires.table

pub part-args-requires-clause-order : goal.part-args-requires-clause-order
part-args-requires-clause-order c =
    let e = c.args.expressions.now in
    (link-lies c.args.self.now c.args.self.now e.operands.items e.nodes.items c.args.id.0 c.index-node.result.now c.requires.inside c.index-node.ensures
    c.in-Application.made c.in-Application.is c.requires.lie c.args.id).0

pub part-args-requires-clause-within : goal.part-args-requires-clause-within
part-args-requires-clause-within c =
    let e = c.args.expressions.now in
    rw c.deref.ensures.value
    (link-lies c.args.self.now c.args.self.now e.operands.items e.nodes.items c.args.id.0 c.index-node.result.now c.requires.inside c.index-node.ensures
    c.in-Application.made c.in-Application.is c.requires.lie c.args.id).1

pub returns-clause-table : goal.returns-clause-table
returns-clause-table c =
    let e = c.args.expressions.now in
    link-term c.args.self.now c.put.new.self e.operands.items e.nodes.items c.args.id.0 c.index-node.result.now c.requires.inside c.index-node.ensures
    c.in-Application.made c.in-Application.is c.requires.lie c.unwrap_or-earlier.result c.bucket_of-bucket.result c.args.id refl
    (c.bucket_of-bucket.ensures.is ∙ ap (bucket_of c.args.self.now.factor (length c.args.self.now.buckets.items) c.in-Application.made.head) (c.part-args.ensures ∙ ap (λ (os : List Id). operands_at os c.in-Application.made.from c.in-Application.made.to) c.deref.ensures.value))
    (c.unwrap_or-earlier.ensures ∙ ap (λ (o : Option Id). unwrap_or o c.args.id) c.newest.ensures) c.bucket_of-bucket.ensures.within c.put.ensures c.requires.table

pub returns-clause-lie : goal.returns-clause-lie
returns-clause-lie c =
    let e = c.args.expressions.now in
    link-lie c.args.self.now c.args.self.now e.operands.items e.nodes.items c.args.id.0 c.index-node.result.now c.requires.inside c.index-node.ensures
    c.in-Application.made c.in-Application.is c.requires.lie c.unwrap_or-earlier.result

pub returns-clause-same : goal.returns-clause-same
returns-clause-same c =
    let e = c.args.expressions.now in
    ap (sharing_of e.mode)
    (link-same c.args.self.now c.args.self.now e.operands.items e.nodes.items c.args.id.0 c.index-node.result.now c.requires.inside c.index-node.ensures
    c.in-Application.made c.in-Application.is c.requires.lie c.unwrap_or-earlier.result)

pub returns-clause-kept : goal.returns-clause-kept
returns-clause-kept c =
    let e = c.args.expressions.now in
    link-kept c.args.self.now c.args.self.now e.operands.items e.nodes.items c.args.id.0 c.index-node.result.now c.requires.inside c.index-node.ensures
    c.in-Application.made c.in-Application.is c.requires.lie c.unwrap_or-earlier.result e.mode e.bound_count c.requires.kept
