use Rattle.std.proofs.Common.{ℕ, List, arith, subst}
use Rattle.std.proofs.lemmas.Result.{IfOk-weaker, on_err_weaker}
use Rattle.mz_math_coercions.proofs.Naming.{IsTopOf, named-same, tops-joined, tops-joined_back, tops-kept, tops-same}
use Rattle.mz_math_coercions.proofs.groups.Groups.join.Goals as goal

pub returns-then-top-other_top-clause-ok : goal.returns-then-top-other_top-clause-ok
returns-then-top-other_top-clause-ok c = IfOk-weaker c.link.result _ _ (λ u put. tops-joined c.args.self.now c.top_of-top.new.ups.items c.top_of-other_top.new.ups.items c.args.one c.args.other c.top_of-top.result c.top_of-other_top.result
    (subst (λ (us : List ℕ). IsTopOf us c.top_of-top.new.ups.items c.args.one c.top_of-top.result) c.self.view_is c.top_of-top.ensures.named) c.top_of-other_top.ensures.named c.link.new.ups.items c.if-top-other_top.true put.0 put.1) c.link.ensures.ok

pub returns-then-top-other_top-clause-err : goal.returns-then-top-other_top-clause-err
returns-then-top-other_top-clause-err c = on_err_weaker c.link.result
    (λ same name named. named-same c.top_of-other_top.new.ups.items c.link.new.ups.items same name (tops-kept c.args.self.now c.top_of-top.new.ups.items c.top_of-other_top.new.ups.items c.args.one c.args.other c.top_of-top.result c.top_of-other_top.result
    (subst (λ (us : List ℕ). IsTopOf us c.top_of-top.new.ups.items c.args.one c.top_of-top.result) c.self.view_is c.top_of-top.ensures.named) c.top_of-other_top.ensures.named name named)) c.link.ensures.err

pub returns-then-other_top-top-clause-ok : goal.returns-then-other_top-top-clause-ok
returns-then-other_top-top-clause-ok c = IfOk-weaker c.link-then-other_top-top.result _ _
    (λ u put. tops-joined_back c.args.self.now c.top_of-top.new.ups.items c.top_of-other_top.new.ups.items c.args.one c.args.other c.top_of-top.result c.top_of-other_top.result
    (subst (λ (us : List ℕ). IsTopOf us c.top_of-top.new.ups.items c.args.one c.top_of-top.result) c.self.view_is c.top_of-top.ensures.named) c.top_of-other_top.ensures.named c.link-then-other_top-top.new.ups.items c.if-other_top-top.true put.0 put.1) c.link-then-other_top-top.ensures.ok

pub returns-then-other_top-top-clause-err : goal.returns-then-other_top-top-clause-err
returns-then-other_top-top-clause-err c = on_err_weaker c.link-then-other_top-top.result
    (λ same name named. named-same c.top_of-other_top.new.ups.items c.link-then-other_top-top.new.ups.items same name (tops-kept c.args.self.now c.top_of-top.new.ups.items c.top_of-other_top.new.ups.items c.args.one c.args.other c.top_of-top.result c.top_of-other_top.result
    (subst (λ (us : List ℕ). IsTopOf us c.top_of-top.new.ups.items c.args.one c.top_of-top.result) c.self.view_is c.top_of-top.ensures.named) c.top_of-other_top.ensures.named name named)) c.link-then-other_top-top.ensures.err

pub returns : goal.returns
returns c =
    let below = c.if-top-other_top.false in
    let above = c.if-other_top-top.false in
    record {
      ok = tops-same c.args.self.now c.top_of-top.new.ups.items c.top_of-other_top.new.ups.items c.args.one c.args.other c.top_of-top.result c.top_of-other_top.result
          (subst (λ (us : List ℕ). IsTopOf us c.top_of-top.new.ups.items c.args.one c.top_of-top.result) c.self.view_is c.top_of-top.ensures.named) c.top_of-other_top.ensures.named (omega (arith, below, above));
      err = tt;
    }
