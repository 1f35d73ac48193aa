use Rattle.std.proofs.Common.{◌∙◌, refl, ap, subst}
use Rattle.mz_decompile.specs.Decompiling.{IsDecompilation, IsTextForPair}
use Rattle.mz_tool.specs.Decompiled.{text_line}
use Rattle.mz_tool.proofs.Compiles.{put-short}
use Rattle.mz_tool.proofs.Decompiles.{short-text, its-texts, its-sound, is-not-decompiled, decompiled-alone, not-decompiled-alone}
use Rattle.mz_tool.proofs.decompile.decompile.Goals as goal

pub returns-in-Text : goal.returns-in-Text
returns-in-Text c =
    let spec = c.args.spec.now in
    let bin = c.args.bin.now in
    let text = c.in-Text.bytes.items in
    let plain = subst (IsDecompilation spec bin) c.in-Text.is c.text_of-made.ensures.answer in
    let stated = subst (IsTextForPair spec bin) c.in-Text.is c.text_of-made.ensures.text in
    let decided = c.decompilation_is_decided.ensures spec bin in
    record {
      yes = (text, refl, plain, c.in-Ok.ensures ∙ ap text_line c.in-Text.is);
      short = put-short text (short-text spec bin text plain);
      no = tt;
      sound = (its-sound spec bin text c.accepted_pairs_are_sound.ensures decided plain, its-texts spec bin text decided plain stated);
      only_yes = λ put line is. tt;
      only_no = not-decompiled-alone spec bin decided text plain;
    }

pub returns-in_default-made : goal.returns-in_default-made
returns-in_default-made c =
    let spec = c.args.spec.now in
    let bin = c.args.bin.now in
    let decided = c.decompilation_is_decided.ensures spec bin in
    record {
      yes = tt;
      short = tt;
      no = is-not-decompiled spec bin decided c.text_of-made.result c.in-Ok.line.items c.text_of-made.ensures.answer c.in_default-made.not-Text c.in_default.not-Mem c.in-Ok.ensures;
      sound = tt;
      only_yes = decompiled-alone spec bin decided c.text_of-made.result c.text_of-made.ensures.answer c.in_default-made.not-Text c.in_default.not-Mem;
      only_no = λ line is. tt;
    }
