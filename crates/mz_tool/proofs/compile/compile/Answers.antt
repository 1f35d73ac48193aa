use Rattle.std.proofs.Common.{◌∙◌, refl, ap, subst}
use Rattle.mz_base.specs.Gaps.{gaps_of}
use Rattle.mz_emit_theory.specs.Compiling.{IsCompilation}
use Rattle.mz_emit_theory.specs.Lines.{line_of}
use Rattle.mz_tool.proofs.Compiles.{is-not-compiled, compiled-alone, not-compiled-alone, as-finished, short-binary, put-short}
use Rattle.mz_tool.proofs.compile.compile.Goals as goal

pub returns-in-Bytes : goal.returns-in-Bytes
returns-in-Bytes c =
    let gaps = gaps_of c.args.mode in
    let compiles = subst (IsCompilation gaps c.args.text.now) c.in-Bytes.is c.compile_bytes-compiled.ensures.answer in
    let finished = as-finished c.args.text.now c.compile_bytes-compiled.result c.in-Bytes.bytes c.in-Bytes.is c.compile_bytes-compiled.ensures.finished in
    record {
      yes = (c.in-Bytes.bytes.items, refl, compiles, finished, c.in-Ok.ensures ∙ ap line_of c.in-Bytes.is);
      short = put-short c.in-Bytes.bytes.items (short-binary gaps c.args.text.now c.in-Bytes.bytes.items compiles);
      no = tt;
      only_yes = λ put line is. tt;
      only_no = not-compiled-alone gaps c.args.text.now c.in-Bytes.bytes.items compiles;
    }

pub returns-in_default-compiled : goal.returns-in_default-compiled
returns-in_default-compiled c = record {
  yes = tt;
  short = tt;
  no = is-not-compiled (gaps_of c.args.mode) c.args.text.now (c.compilation_is_decided.ensures (gaps_of c.args.mode) c.args.text.now) c.compile_bytes-compiled.result c.in-Ok.line.items c.compile_bytes-compiled.ensures.answer c.in_default-compiled.not-Bytes c.in_default.not-Mem c.in-Ok.ensures;
  only_yes = compiled-alone (gaps_of c.args.mode) c.args.text.now (c.compilation_is_decided.ensures (gaps_of c.args.mode) c.args.text.now) c.compile_bytes-compiled.result c.compile_bytes-compiled.ensures.answer c.in_default-compiled.not-Bytes c.in_default.not-Mem;
  only_no = λ line is. tt;
}
