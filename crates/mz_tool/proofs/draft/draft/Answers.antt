use Rattle.std.proofs.Common.{◌∙◌, ◌++◌, length, subst, sym, ap, refl}
use Rattle.mz_binary_theory.specs.Standards.{draft_standard}
use Rattle.mz_match.specs.Drafts.{DraftAccepts, ListsGapsOf}
use Rattle.mz_axioms.specs.Gaps.{count_line, gap_lines}
use Rattle.mz_match.proofs.Offered.{refused-first}
use Rattle.mz_match_theory.proofs.Offered.{excludes}
use Rattle.mz_tool.proofs.draft.draft.Goals as goal

pub returns-in-Ok-gaps_text : goal.returns-in-Ok-gaps_text
returns-in-Ok-gaps_text c =
    let spec = c.args.spec.now in
    let bin = c.args.bin.now in
    let counts = c.in-Ok.pair.counts in
    let is = c.in-Ok.ensures in
    let draft : DraftAccepts spec bin counts c.places.result.now = (is.accepts, is.counts, subst (ListsGapsOf bin is.accepts.statements) (sym c.places.ensures) (is.gaps refl)) in
    let sound = c.accepted_drafts_are_sound.ensures spec bin counts c.places.result.now draft in
    record {
      yes = (refl, (counts, c.places.result.now, draft, sound, (c.in-Ok.pair.spec.declared, is.named.makes, c.in-Ok-gaps_text.ensures ∙ ap (λ text. count_line (length c.places.result.now) counts.theorems ++ gap_lines text c.in-Ok.pair.spec.declared c.places.result.now) is.named.is_text)));
      no = tt;
      sound = sound.0;
      only_yes = λ text told. tt;
      only_no = λ text refuted. excludes draft_standard spec bin counts refuted.0 (is.accepts, is.counts) refuted.1;
    }

pub returns-in-Ok-verdict_line : goal.returns-in-Ok-verdict_line
returns-in-Ok-verdict_line c =
    let spec = c.args.spec.now in
    let bin = c.args.bin.now in
    let first = refused-first draft_standard spec bin c.in-Err.verdict c.in-Err.ensures c.in_default.not-Mem in
    record {
      yes = tt;
      no = (c.in-Err.verdict, first, c.in-Ok-verdict_line.ensures);
      sound = tt;
      only_yes = λ text told. excludes draft_standard spec bin told.0 c.in-Err.verdict (told.2.0, told.2.1) first;
      only_no = λ text refuted. tt;
    }
