use Rattle.std.proofs.Common.{◌≡◌, ◌∙◌, ℕ, List, None, length, ap}
use Rattle.mz_tool.specs.Samples.{sample_specification, sample_text, sample_line}
use Rattle.mz_tool_engine.specs.Outcomes.{IfYes, OnYes, OnNo}
use Rattle.mz_tool.specs.Laws.{FitTogether}
use Rattle.mz_tool.specs.Sample.{IsUpheld, IsProvedByText, sizes_line}
use Rattle.mz_tool.proofs.Sampled.{after-yes, fit-never, still-yes, still-no, at-sample}
use Rattle.mz_tool.proofs.sample.sample.Goals as goal

pub returns : goal.returns
returns c =
    let spec : c.deref.result.now ≡ sample_specification c.args.size.number = c.deref.ensures.value ∙ c.in-Ok.ensures.written in
    let text : c.deref-2.result.now ≡ sample_text c.args.size.number = c.deref-2.ensures.value ∙ c.in-Ok-sample_text.ensures.written in
    let sizes : c.in-Ok-sample_line.line.items ≡ sizes_line c.args.size.number =
    c.in-Ok-sample_line.ensures ∙ ap (λ (m : ℕ). sample_line m c.len-2.result) (c.len.ensures ∙ c.in-Ok.specification.ok.0 ∙ ap length c.in-Ok.ensures.written)
    ∙ ap (sample_line (length (sample_specification c.args.size.number))) (c.len-2.ensures ∙ c.in-Ok-sample_text.text.ok.0 ∙ ap length c.in-Ok-sample_text.ensures.written) in
    record {
      yes = after-yes c.args.size.number c.in-Ok-sample_line.line.items sizes c.upheld.result c.after.result c.after.ensures
          (at-sample _ _ _ _ (λ (a b : List ℕ). IfYes c.upheld.result (λ put line. (put ≡ None) × IsUpheld a b line)) spec text c.upheld.ensures.yes);
      never_no = still-no ⊥ c.in-Ok-sample_line.line.items c.upheld.result c.after.result c.after.ensures
          (fit-never _ _ c.upheld.result (c.samples_are_accepted.ensures c.args.size.number c.args.size.few)
          (at-sample _ _ _ _ (λ (a b : List ℕ). OnNo c.upheld.result (FitTogether a b → ⊥)) spec text c.upheld.ensures.no));
      proved = still-yes _ c.in-Ok-sample_line.line.items c.upheld.result c.after.result c.after.ensures
          (at-sample _ _ _ _ (λ (a b : List ℕ). OnYes c.upheld.result (IsProvedByText a b)) spec text c.upheld.ensures.proved);
    }
