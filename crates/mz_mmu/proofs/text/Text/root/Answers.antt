use Rattle.std.proofs.Common.{◌≡◌, ◌<◌, ◌∙◌, ap, map, slice_get, Some, subst, refl, length, arith}
use Rattle.std.specs.Prelude.{option_map}
use Rattle.std.proofs.lemmas.List.{length-map}
use Rattle.std.proofs.lemmas.Option.{slice_get-map, slice_get_read}
use Rattle.mz_sexpr.specs.Number.{node_count, node_at}
use Rattle.mz_mmu.specs.EntryView.{entry, root}
use Rattle.mz_mmu.specs.TextRead.{listed}
use Rattle.mz_mmu.proofs.Roots.{numbers_at}
use Rattle.mz_mmu.proofs.text.Text.root.Goals as goal

stands : (c : goal.After-index) → (c.index.result.now.root < node_count c.self.inside.nodes) × (slice_get (listed c.self.inside.nodes) c.args.i ≡ Some (node_at c.self.inside.nodes c.index.result.now.root))
stands c =
    let items = c.self.inside.entries.items in
    let many = length-map items entry in
    let same = ap (λ f. length f.statements) c.self.view_is in
    let within : c.args.i < length items = omega (arith, many, same, c.requires) in
    let here = slice_get-map root items c.args.i ∙ ap (option_map root) (slice_get_read items (length items) c.args.i c.index.result.now refl within c.index.ensures) in
    numbers_at c.self.inside.nodes c.self.inside.nodes (map root items) c.args.i c.index.result.now.root c.self.invariant.roots here

pub returns-clause-within : goal.returns-clause-within
returns-clause-within c = subst (λ ns. c.index.result.now.root < node_count ns) (ap (λ f. f.nodes) c.self.view_is) (stands c).0

pub returns-clause-node : goal.returns-clause-node
returns-clause-node c = subst (λ ns. slice_get (listed ns) c.args.i ≡ Some (node_at ns c.index.result.now.root)) (ap (λ f. f.nodes) c.self.view_is) (stands c).1
