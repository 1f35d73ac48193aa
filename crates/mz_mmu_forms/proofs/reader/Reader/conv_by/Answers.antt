use Rattle.std.proofs.Common.{◌∙◌, ap, sym, ℕ}
use Rattle.mz_sexpr.specs.Node.{place, word}
use Rattle.mz_sexpr.specs.Number.{node_at}
use Rattle.mz_mmu_theory.specs.Cursor.{nodes_from}
use Rattle.mz_mmu_theory.specs.Proofs.{conv_keyword_of}
use Rattle.mz_mmu_theory.specs.declared.keyword.Keyword.TheVariants.{Refl as refl_word, Sym as sym_word, Unfold as unfold_word, Sorry as sorry_word, Other as no_word}
use Rattle.mz_mmu_theory.specs.FormOrder.{conv_asked_by}
use Rattle.mz_mmu_forms.specs.ConvSteps.{ConvSaysBy}
use Rattle.mz_mmu_forms.specs.ScopeView.{scope}
use Rattle.mz_mmu_theory.specs.Stops.{Stops}
use Rattle.mz_mmu_forms.proofs.ConvNesting.{says_by, stops_by, says_by_any, stops_by_any}
use Rattle.mz_mmu_forms.proofs.Dispatch.{if_ok, if_err, conv_other}
use Rattle.mz_mmu_forms.proofs.reader.Reader.conv_by.Goals as goal

pub returns-in-Refl-clause-says : goal.returns-in-Refl-clause-says
returns-in-Refl-clause-says c =
    let all = c.args.self.now.nodes.now in
    let key = sym (c.of_conv.ensures ∙ ap conv_keyword_of c.word.ensures) ∙ c.in-Refl.is in
    says_by_any (scope c.args.sc.now) all refl_word (place (node_at all c.args.n)) (node_at all c.args.head) c.args.rest key c.refl.result c.refl.ensures.says

pub returns-in-Refl-clause-stops : goal.returns-in-Refl-clause-stops
returns-in-Refl-clause-stops c =
    let all = c.args.self.now.nodes.now in
    let key = sym (c.of_conv.ensures ∙ ap conv_keyword_of c.word.ensures) ∙ c.in-Refl.is in
    stops_by_any (scope c.args.sc.now) all refl_word (place (node_at all c.args.n)) (node_at all c.args.head) c.args.rest key c.refl.result c.refl.ensures.stops

pub returns-in-Sym-clause-says : goal.returns-in-Sym-clause-says
returns-in-Sym-clause-says c =
    let all = c.args.self.now.nodes.now in
    let key = sym (c.of_conv.ensures ∙ ap conv_keyword_of c.word.ensures) ∙ c.in-Sym.is in
    says_by_any (scope c.args.sc.now) all sym_word (place (node_at all c.args.n)) (node_at all c.args.head) c.args.rest key c.sym.result (c.sym.ensures.says (scope c.args.sc.now))

pub returns-in-Sym-clause-stops : goal.returns-in-Sym-clause-stops
returns-in-Sym-clause-stops c =
    let all = c.args.self.now.nodes.now in
    let key = sym (c.of_conv.ensures ∙ ap conv_keyword_of c.word.ensures) ∙ c.in-Sym.is in
    stops_by_any (scope c.args.sc.now) all sym_word (place (node_at all c.args.n)) (node_at all c.args.head) c.args.rest key c.sym.result (c.sym.ensures.stops (scope c.args.sc.now))

pub returns-in-Unfold-clause-says : goal.returns-in-Unfold-clause-says
returns-in-Unfold-clause-says c =
    let all = c.args.self.now.nodes.now in
    let key = sym (c.of_conv.ensures ∙ ap conv_keyword_of c.word.ensures) ∙ c.in-Unfold.is in
    says_by_any (scope c.args.sc.now) all unfold_word (place (node_at all c.args.n)) (node_at all c.args.head) c.args.rest key c.unfold.result c.unfold.ensures.says

pub returns-in-Unfold-clause-stops : goal.returns-in-Unfold-clause-stops
returns-in-Unfold-clause-stops c =
    let all = c.args.self.now.nodes.now in
    let key = sym (c.of_conv.ensures ∙ ap conv_keyword_of c.word.ensures) ∙ c.in-Unfold.is in
    stops_by_any (scope c.args.sc.now) all unfold_word (place (node_at all c.args.n)) (node_at all c.args.head) c.args.rest key c.unfold.result c.unfold.ensures.stops

pub returns-in-Sorry-clause-says : goal.returns-in-Sorry-clause-says
returns-in-Sorry-clause-says c =
    let all = c.args.self.now.nodes.now in
    let key = sym (c.of_conv.ensures ∙ ap conv_keyword_of c.word.ensures) ∙ c.in-Sorry.is in
    says_by_any (scope c.args.sc.now) all sorry_word (place (node_at all c.args.n)) (node_at all c.args.head) c.args.rest key c.gap_conv.result c.gap_conv.ensures.says

pub returns-in-Sorry-clause-stops : goal.returns-in-Sorry-clause-stops
returns-in-Sorry-clause-stops c =
    let all = c.args.self.now.nodes.now in
    let key = sym (c.of_conv.ensures ∙ ap conv_keyword_of c.word.ensures) ∙ c.in-Sorry.is in
    stops_by_any (scope c.args.sc.now) all sorry_word (place (node_at all c.args.n)) (node_at all c.args.head) c.args.rest key c.gap_conv.result c.gap_conv.ensures.stops

pub returns-in_default-clause-says : goal.returns-in_default-clause-says
returns-in_default-clause-says c =
    let all = c.args.self.now.nodes.now in
    let sc = scope c.args.sc.now in
    let a = place (node_at all c.args.n) in
    let h = node_at all c.args.head in
    let ns = nodes_from all c.args.rest in
    let is = c.of_conv.ensures ∙ ap conv_keyword_of c.word.ensures in
    let key = conv_other (word h) (λ e. c.in_default.not-Refl (is ∙ e)) (λ e. c.in_default.not-Sym (is ∙ e)) (λ e. c.in_default.not-Unfold (is ∙ e)) (λ e. c.in_default.not-Sorry (is ∙ e)) in
    says_by sc all no_word a h c.args.rest key c.cong.result (if_ok c.cong.result (λ step. (at : ℕ) → ConvSaysBy sc all no_word at h c.args.rest step) (ConvSaysBy sc all no_word a h c.args.rest) (λ step says. says a) c.cong.ensures.says)

pub returns-in_default-clause-stops : goal.returns-in_default-clause-stops
returns-in_default-clause-stops c =
    let all = c.args.self.now.nodes.now in
    let sc = scope c.args.sc.now in
    let a = place (node_at all c.args.n) in
    let h = node_at all c.args.head in
    let ns = nodes_from all c.args.rest in
    let is = c.of_conv.ensures ∙ ap conv_keyword_of c.word.ensures in
    let key = conv_other (word h) (λ e. c.in_default.not-Refl (is ∙ e)) (λ e. c.in_default.not-Sym (is ∙ e)) (λ e. c.in_default.not-Unfold (is ∙ e)) (λ e. c.in_default.not-Sorry (is ∙ e)) in
    stops_by sc all no_word a h c.args.rest key c.cong.result (if_err c.cong.result (λ s. (at : ℕ) → Stops s (conv_asked_by sc no_word at h ns)) (λ s. Stops s (conv_asked_by sc no_word a h ns)) (λ s stops. stops a) c.cong.ensures.stops)
