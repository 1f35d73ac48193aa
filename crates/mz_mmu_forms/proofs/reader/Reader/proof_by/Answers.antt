use Rattle.std.proofs.Common.{◌∙◌, ap, sym}
use Rattle.mz_sexpr.specs.Node.{place, word}
use Rattle.mz_sexpr.specs.Number.{node_at}
use Rattle.mz_mmu_theory.specs.Proofs.{proof_keyword_of}
use Rattle.mz_mmu_theory.specs.declared.keyword.Keyword.TheVariants.{Conv as conv_word, Let as let_word, Sorry as sorry_word, Other as no_word}
use Rattle.mz_mmu_forms.specs.ScopeView.{scope}
use Rattle.mz_mmu_forms.proofs.ProofNesting.{proof_says_by, proof_stops_by_word}
use Rattle.mz_mmu_forms.proofs.Dispatch.{proof_other}
use Rattle.mz_mmu_forms.proofs.reader.Reader.proof_by.Goals as goal

pub returns-in-Conv-clause-says : goal.returns-in-Conv-clause-says
returns-in-Conv-clause-says c =
    let all = c.args.self.now.nodes.now in
    let sc = scope c.args.sc.now in
    let hyps = c.args.hyps.now in
    let lets = c.args.lets.now in
    let h = node_at all c.args.head in
    let key = sym (c.of_proof.ensures ∙ ap proof_keyword_of c.word.ensures) ∙ c.in-Conv.is in
    proof_says_by sc hyps all lets conv_word (place (node_at all c.args.n)) h c.args.rest key c.conv_proof.result (c.conv_proof.ensures.says hyps lets h c.requires.few)

pub returns-in-Conv-clause-stops : goal.returns-in-Conv-clause-stops
returns-in-Conv-clause-stops c =
    let all = c.args.self.now.nodes.now in
    let sc = scope c.args.sc.now in
    let hyps = c.args.hyps.now in
    let lets = c.args.lets.now in
    let h = node_at all c.args.head in
    let key = sym (c.of_proof.ensures ∙ ap proof_keyword_of c.word.ensures) ∙ c.in-Conv.is in
    proof_stops_by_word sc hyps all lets conv_word (place (node_at all c.args.n)) h c.args.rest key c.conv_proof.result (c.conv_proof.ensures.stops hyps lets h)

pub returns-in-Let-clause-says : goal.returns-in-Let-clause-says
returns-in-Let-clause-says c =
    let all = c.args.self.now.nodes.now in
    let sc = scope c.args.sc.now in
    let hyps = c.args.hyps.now in
    let lets = c.args.lets.now in
    let h = node_at all c.args.head in
    let key = sym (c.of_proof.ensures ∙ ap proof_keyword_of c.word.ensures) ∙ c.in-Let.is in
    proof_says_by sc hyps all lets let_word (place (node_at all c.args.n)) h c.args.rest key c.let_proof.result (c.let_proof.ensures.says sc h)

pub returns-in-Let-clause-stops : goal.returns-in-Let-clause-stops
returns-in-Let-clause-stops c =
    let all = c.args.self.now.nodes.now in
    let sc = scope c.args.sc.now in
    let hyps = c.args.hyps.now in
    let lets = c.args.lets.now in
    let h = node_at all c.args.head in
    let key = sym (c.of_proof.ensures ∙ ap proof_keyword_of c.word.ensures) ∙ c.in-Let.is in
    proof_stops_by_word sc hyps all lets let_word (place (node_at all c.args.n)) h c.args.rest key c.let_proof.result (c.let_proof.ensures.stops sc h)

pub returns-in-Sorry-clause-says : goal.returns-in-Sorry-clause-says
returns-in-Sorry-clause-says c =
    let all = c.args.self.now.nodes.now in
    let sc = scope c.args.sc.now in
    let hyps = c.args.hyps.now in
    let lets = c.args.lets.now in
    let h = node_at all c.args.head in
    let key = sym (c.of_proof.ensures ∙ ap proof_keyword_of c.word.ensures) ∙ c.in-Sorry.is in
    proof_says_by sc hyps all lets sorry_word (place (node_at all c.args.n)) h c.args.rest key c.gap.result (c.gap.ensures.says hyps lets h)

pub returns-in-Sorry-clause-stops : goal.returns-in-Sorry-clause-stops
returns-in-Sorry-clause-stops c =
    let all = c.args.self.now.nodes.now in
    let sc = scope c.args.sc.now in
    let hyps = c.args.hyps.now in
    let lets = c.args.lets.now in
    let h = node_at all c.args.head in
    let key = sym (c.of_proof.ensures ∙ ap proof_keyword_of c.word.ensures) ∙ c.in-Sorry.is in
    proof_stops_by_word sc hyps all lets sorry_word (place (node_at all c.args.n)) h c.args.rest key c.gap.result (c.gap.ensures.stops hyps lets h)

pub returns-in_default-clause-says : goal.returns-in_default-clause-says
returns-in_default-clause-says c =
    let all = c.args.self.now.nodes.now in
    let sc = scope c.args.sc.now in
    let hyps = c.args.hyps.now in
    let lets = c.args.lets.now in
    let h = node_at all c.args.head in
    let is = c.of_proof.ensures ∙ ap proof_keyword_of c.word.ensures in
    let key = proof_other (word h) (λ e. c.in_default.not-Conv (is ∙ e)) (λ e. c.in_default.not-Let (is ∙ e)) (λ e. c.in_default.not-Sorry (is ∙ e)) in
    proof_says_by sc hyps all lets no_word (place (node_at all c.args.n)) h c.args.rest key c.citation.result (c.citation.ensures.says hyps lets c.requires.few)

pub returns-in_default-clause-stops : goal.returns-in_default-clause-stops
returns-in_default-clause-stops c =
    let all = c.args.self.now.nodes.now in
    let sc = scope c.args.sc.now in
    let hyps = c.args.hyps.now in
    let lets = c.args.lets.now in
    let h = node_at all c.args.head in
    let is = c.of_proof.ensures ∙ ap proof_keyword_of c.word.ensures in
    let key = proof_other (word h) (λ e. c.in_default.not-Conv (is ∙ e)) (λ e. c.in_default.not-Let (is ∙ e)) (λ e. c.in_default.not-Sorry (is ∙ e)) in
    proof_stops_by_word sc hyps all lets no_word (place (node_at all c.args.n)) h c.args.rest key c.citation.result (c.citation.ensures.stops hyps lets)
