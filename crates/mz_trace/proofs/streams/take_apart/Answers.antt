use Rattle.std.proofs.Common.{◌∙◌, sym}
use Rattle.std.proofs.lemmas.Result.{on_ok_weaker}
use Rattle.mz_trace.proofs.StreamsApart.{has-top, is-application, is-variable, opens, refers, meets}
use Rattle.mz_trace.proofs.streams.take_apart.Goals as goal

pub unreachable-requires : goal.unreachable-requires
unreachable-requires c = has-top c.args.nodes.now c.args.code c.args.targets.now.items c.args.met.now.items c.requires (sym c.args.targets.now.ok.0 ∙ c.in_default.ensures.cases.0)

pub application-requires : goal.application-requires
application-requires c = is-application c.args.nodes.now c.args.code c.args.targets.now.items c.args.met.now.items c.pop.new.self.items c.in-Some.top c.in-Some.ensures.items c.in-Term.is c.requires

pub variable-requires : goal.variable-requires
variable-requires c = is-variable c.args.nodes.now c.args.code c.args.targets.now.items c.args.met.now.items c.pop.new.self.items c.in-Some.top c.in-Some.ensures.items c.in-Dummy.is c.requires

pub returns-in-Term : goal.returns-in-Term
returns-in-Term c =
    on_ok_weaker c.push_reversed.result (opens c.args.nodes.now c.args.code c.args.targets.now.items c.args.met.now.items c.pop.new.self.items c.in-Some.top c.in-Some.ensures.items c.in-Term.is
    c.application.result.0 c.application.result.1.now c.push_reversed.new.targets.items c.application.ensures) c.push_reversed.ensures

pub returns-in_ok-push-in-Dummy : goal.returns-in_ok-push-in-Dummy
returns-in_ok-push-in-Dummy c =
    meets c.args.nodes.now c.args.code c.args.targets.now.items c.args.met.now.items c.pop.new.self.items c.in-Some.top c.in-Some.ensures.items c.in-Dummy.is
    c.variable.result c.push.new.self.items c.variable.ensures c.in_ok-push-in-Dummy.ensures.items

pub returns-in-Ref : goal.returns-in-Ref
returns-in-Ref c = refers c.args.nodes.now c.args.code c.args.targets.now.items c.args.met.now.items c.pop.new.self.items c.in-Some.top c.in-Some.ensures.items c.in-Ref.is
