use Rattle.std.proofs.Common.{◌∙◌, refl, ap, subst}
use Rattle.mz_prefix.specs.Wording.{longest}
use Rattle.mz_prefix.specs.SpecTexts.{IsWording, DeclaresItsText}
use Rattle.mz_tool.specs.Specified.{spec_line}
use Rattle.mz_tool.proofs.Compiles.{put-short}
use Rattle.mz_tool.proofs.Specifications.{is-not-specified, specified-alone, not-specified-alone, short-specification, its-specifications}
use Rattle.mz_tool.proofs.spec.specify.Goals as goal

pub returns-in-Text : goal.returns-in-Text
returns-in-Text c =
    let text = c.args.text.now in
    let worded = subst (IsWording longest text) c.in-Text.is c.spec_of-made.ensures.answer in
    let declared = subst (DeclaresItsText text) c.in-Text.is c.spec_of-made.ensures.declares in
    let decided = c.specification_is_decided.ensures longest text in
    record {
      yes = (c.in-Text.bytes.items, refl, worded, c.in-Ok.ensures ∙ ap spec_line c.in-Text.is);
      short = put-short c.in-Text.bytes.items (short-specification text c.in-Text.bytes.items worded);
      no = tt;
      sound = its-specifications text c.in-Text.bytes.items decided worded declared;
      only_yes = λ put line is. tt;
      only_no = not-specified-alone text decided c.in-Text.bytes.items worded;
    }

pub returns-in_default-made : goal.returns-in_default-made
returns-in_default-made c =
    let text = c.args.text.now in
    record {
      yes = tt;
      short = tt;
      no = is-not-specified text (c.specification_is_decided.ensures longest text) c.spec_of-made.result c.in-Ok.line.items c.spec_of-made.ensures.answer c.in_default-made.not-Text c.in_default.not-Mem c.in-Ok.ensures;
      only_yes = specified-alone text (c.specification_is_decided.ensures longest text) c.spec_of-made.result c.spec_of-made.ensures.answer c.in_default-made.not-Text c.in_default.not-Mem;
      sound = tt;
      only_no = λ line is. tt;
    }
