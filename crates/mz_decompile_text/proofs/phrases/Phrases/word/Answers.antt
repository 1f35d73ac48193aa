use Rattle.std.proofs.Common.{[], ◌++◌, ◌≡◌, ◌<◌, ◌^◌, length, sym, ap, arith}
use Rattle.std.proofs.lemmas.List.{append-nil, length-append}
use Rattle.mz_decompile_text.proofs.Adding.{same-kept, same-view, word-kept, word-view}
use Rattle.mz_decompile_text.proofs.Fields.{count, on_err}
use Rattle.mz_decompile_text.proofs.phrases.Phrases.word.Goals as goal

pub invariant_of-self-in_err-push : goal.invariant_of-self-in_err-push
invariant_of-self-in_err-push c =
    same-kept c.self.inside.bytes.items c.args.bytes.now c.self.inside.parts.items [] c.extend_from_slice.new.self.items c.self.inside.parts.items
    c.self.inside.nodes.items c.push.new.self.items c.self.invariant
    c.in_ok-extend_from_slice.ensures.items (sym (append-nil c.self.inside.parts.items)) c.in_err-push.ensures.items

pub returns-in_err-push-clause-err : goal.returns-in_err-push-clause-err
returns-in_err-push-clause-err c =
    on_err c.from_residual-in_err-push.result _
    (
    same-view c.self.inside.bytes.items c.args.bytes.now c.self.inside.parts.items [] c.extend_from_slice.new.self.items c.self.inside.parts.items
    c.self.inside.nodes.items c.push.new.self.items c.args.self.now c.self.invariant c.self.view_is
    c.in_ok-extend_from_slice.ensures.items (sym (append-nil c.self.inside.parts.items)) c.in_err-push.ensures.items
    )

pub invariant_of-self-2 : goal.invariant_of-self-2
invariant_of-self-2 c =
    let from : c.len-from.result ≡ length c.self.inside.bytes.items = omega (arith, c.len-from.ensures, c.self.inside.bytes.ok.0) in
    let all = ap length c.in_ok-extend_from_slice.ensures.items in
    let to : c.len-to.result ≡ length (c.self.inside.bytes.items ++ c.args.bytes.now) = omega (arith, c.len-to.ensures, c.extend_from_slice.new.self.ok.0, all) in
    let long = length-append c.self.inside.bytes.items c.args.bytes.now in
    let small : length c.args.bytes.now < 2 ^ 64 = omega (arith, all, long, c.extend_from_slice.new.self.ok, c.extend_from_slice.new.self.small) in
    word-kept c.self.inside.bytes.items c.args.bytes.now c.self.inside.parts.items c.extend_from_slice.new.self.items
    c.self.inside.nodes.items c.push.new.self.items c.args.self.now c.len-from.result c.len-to.result c.self.invariant c.self.view_is
    from to small c.in_ok-extend_from_slice.ensures.items c.in_ok-push.ensures.items

pub returns-clause-number : goal.returns-clause-number
returns-clause-number c =
    let many = count c.self.inside c.args.self.now c.self.view_is in
    omega (arith, many, c.len-number.ensures, c.self.inside.nodes.ok.0)

pub returns-clause-ok : goal.returns-clause-ok
returns-clause-ok c =
    let from : c.len-from.result ≡ length c.self.inside.bytes.items = omega (arith, c.len-from.ensures, c.self.inside.bytes.ok.0) in
    let all = ap length c.in_ok-extend_from_slice.ensures.items in
    let to : c.len-to.result ≡ length (c.self.inside.bytes.items ++ c.args.bytes.now) = omega (arith, c.len-to.ensures, c.extend_from_slice.new.self.ok.0, all) in
    word-view c.self.inside.bytes.items c.args.bytes.now c.self.inside.parts.items c.extend_from_slice.new.self.items
    c.self.inside.nodes.items c.push.new.self.items c.args.self.now c.len-from.result c.len-to.result c.self.invariant c.self.view_is
    from to c.in_ok-extend_from_slice.ensures.items c.in_ok-push.ensures.items
