use Rattle.std.proofs.Common.{[], ◌++◌, ◌≡◌, length, sym, ap, arith}
use Rattle.std.proofs.lemmas.List.{append-nil}
use Rattle.mz_decompile_text.proofs.Adding.{same-kept, same-view, list-kept, list-view}
use Rattle.mz_decompile_text.proofs.Fields.{count, on_err}
use Rattle.mz_decompile_text.proofs.phrases.Phrases.list.Goals as goal

pub overflow_add-depth : goal.overflow_add-depth
overflow_add-depth c =
    let many = count c.self.inside c.args.self.now c.self.view_is in
    omega (arith, many, c.deepest-depth.ensures.low, c.self.inside.nodes.ok, c.self.inside.nodes.small)

pub invariant_of-self-in_err-push : goal.invariant_of-self-in_err-push
invariant_of-self-in_err-push c =
    same-kept c.self.inside.bytes.items [] c.self.inside.parts.items c.args.parts.now c.self.inside.bytes.items c.extend_from_slice.new.self.items
    c.self.inside.nodes.items c.push.new.self.items c.self.invariant
    (sym (append-nil c.self.inside.bytes.items)) c.in_ok-extend_from_slice.ensures.items c.in_err-push.ensures.items

pub returns-in_err-push-clause-err : goal.returns-in_err-push-clause-err
returns-in_err-push-clause-err c =
    on_err c.from_residual-in_err-push.result _
    (
    same-view c.self.inside.bytes.items [] c.self.inside.parts.items c.args.parts.now c.self.inside.bytes.items c.extend_from_slice.new.self.items
    c.self.inside.nodes.items c.push.new.self.items c.args.self.now c.self.invariant c.self.view_is
    (sym (append-nil c.self.inside.bytes.items)) c.in_ok-extend_from_slice.ensures.items c.in_err-push.ensures.items
    )

pub invariant_of-self-2 : goal.invariant_of-self-2
invariant_of-self-2 c =
    let from : c.len-from.result ≡ length c.self.inside.parts.items = omega (arith, c.len-from.ensures, c.self.inside.parts.ok.0) in
    let all = ap length c.in_ok-extend_from_slice.ensures.items in
    let to : c.len-to.result ≡ length (c.self.inside.parts.items ++ c.args.parts.now) = omega (arith, c.len-to.ensures, c.extend_from_slice.new.self.ok.0, all) in
    list-kept c.self.inside.bytes.items c.self.inside.parts.items c.args.parts.now c.extend_from_slice.new.self.items
    c.self.inside.nodes.items c.push.new.self.items c.args.self.now c.len-from.result c.len-to.result
    c.list_len-text_len.result c.list_words-words.result c.deepest-depth.result c.self.invariant c.self.view_is from to c.requires
    (
    record {
      text_len = c.list_len-text_len.ensures;
      words = c.list_words-words.ensures;
      depth = c.deepest-depth.ensures.depth;
      low = c.deepest-depth.ensures.low;
    }
    )
    c.in_ok-extend_from_slice.ensures.items c.in_ok-push.ensures.items

pub returns-clause-number : goal.returns-clause-number
returns-clause-number c =
    let many = count c.self.inside c.args.self.now c.self.view_is in
    omega (arith, many, c.len-number.ensures, c.self.inside.nodes.ok.0)

pub returns-clause-ok : goal.returns-clause-ok
returns-clause-ok c =
    let from : c.len-from.result ≡ length c.self.inside.parts.items = omega (arith, c.len-from.ensures, c.self.inside.parts.ok.0) in
    let all = ap length c.in_ok-extend_from_slice.ensures.items in
    let to : c.len-to.result ≡ length (c.self.inside.parts.items ++ c.args.parts.now) = omega (arith, c.len-to.ensures, c.extend_from_slice.new.self.ok.0, all) in
    list-view c.self.inside.bytes.items c.self.inside.parts.items c.args.parts.now c.extend_from_slice.new.self.items
    c.self.inside.nodes.items c.push.new.self.items c.args.self.now c.len-from.result c.len-to.result
    c.list_len-text_len.result c.list_words-words.result c.deepest-depth.result c.self.invariant c.self.view_is
    from to c.in_ok-extend_from_slice.ensures.items c.in_ok-push.ensures.items
