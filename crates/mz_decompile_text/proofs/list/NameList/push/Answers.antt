use Rattle.std.proofs.Common.{◌≡◌, ◌∙◌, ◌++◌, ◌∷◌, [], ℕ, List, length, sym, ap, subst, arith, length-append}
use Rattle.mz_decompile_text.specs.declared.list.Span.{Span}
use Rattle.mz_decompile_text.specs.Spans.{AreWithin, names_at}
use Rattle.mz_decompile_text.proofs.Listing.{within-more, still-within, one-name-more}
use Rattle.mz_decompile_text.proofs.list.NameList.push.Goals as goal

pub invariant_of-self-in_err-push : goal.invariant_of-self-in_err-push
invariant_of-self-in_err-push c =
    let bytes = c.self.inside.bytes.items in
    let name = c.args.name.now in
    let many : length c.extend_from_slice.new.self.items ≡ length (bytes ++ name) = ap (λ (bs : List ℕ). length bs) c.in_ok-extend_from_slice.ensures.items in
    subst (λ (ss : List Span). AreWithin (length c.extend_from_slice.new.self.items) ss) (sym c.in_err-push.ensures.items)
    (within-more (length bytes) (length c.extend_from_slice.new.self.items) c.self.inside.spans.items (let e = length-append bytes name in omega (arith, e, many)) c.self.invariant)

pub invariant_of-self-2 : goal.invariant_of-self-2
invariant_of-self-2 c =
    let bytes = c.self.inside.bytes.items in
    let name = c.args.name.now in
    let span : Span = record { from = c.len-from.result; to = c.len-to.result } in
    let grown = c.in_ok-extend_from_slice.ensures.items in
    let many : length c.extend_from_slice.new.self.items ≡ length (bytes ++ name) = ap (λ (bs : List ℕ). length bs) grown in
    let from : c.len-from.result ≡ length bytes = omega (arith, c.len-from.ensures, c.self.inside.bytes.ok) in
    let to : c.len-to.result ≡ length (bytes ++ name) = omega (arith, c.len-to.ensures, c.extend_from_slice.new.self.ok, many) in
    subst (λ (ss : List Span). AreWithin (length c.extend_from_slice.new.self.items) ss) (sym c.in_ok-push.ensures.items)
    (subst (λ (bs : List ℕ). AreWithin (length bs) (c.self.inside.spans.items ++ span ∷ [])) (sym grown) (still-within bytes name c.self.inside.spans.items span from to c.self.invariant))

pub returns : goal.returns
returns c =
    let bytes = c.self.inside.bytes.items in
    let name = c.args.name.now in
    let span : Span = record { from = c.len-from.result; to = c.len-to.result } in
    let grown = c.in_ok-extend_from_slice.ensures.items in
    let many : length c.extend_from_slice.new.self.items ≡ length (bytes ++ name) = ap (λ (bs : List ℕ). length bs) grown in
    let from : c.len-from.result ≡ length bytes = omega (arith, c.len-from.ensures, c.self.inside.bytes.ok) in
    let to : c.len-to.result ≡ length (bytes ++ name) = omega (arith, c.len-to.ensures, c.extend_from_slice.new.self.ok, many) in
    ap (λ (ss : List Span). names_at c.extend_from_slice.new.self.items ss) c.in_ok-push.ensures.items
    ∙ ap (λ (bs : List ℕ). names_at bs (c.self.inside.spans.items ++ span ∷ [])) grown
    ∙ one-name-more bytes name c.self.inside.spans.items span from to c.self.invariant
    ∙ ap (λ (ns : List (List ℕ)). ns ++ name ∷ []) c.self.view_is
