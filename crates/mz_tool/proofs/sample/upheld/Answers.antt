use Rattle.std.proofs.Common.{false, ap, sym, subst}
use Rattle.mz_emit_theory.specs.Compiling.{CompilesTo}
use Rattle.mz_tool_engine.specs.Inputs.{bytes_of}
use Rattle.mz_tool.proofs.Sampled.{compiled-put, verified-yes, verified-no, verified-proved, not-yes, not-fit}
use Rattle.mz_tool.proofs.sample.upheld.Goals as goal

pub returns-in-File : goal.returns-in-File
returns-in-File c =
    let compiles = subst (CompilesTo false c.args.text.now) (sym c.deref.ensures.value) (compiled-put c.args.text.now (bytes_of c.in-Yes.put) c.in-Yes.text.items c.in-File.bin.items c.in-Yes.ensures.yes (ap bytes_of c.in-File.is)) in
    record {
      yes = verified-yes c.args.specification.now c.args.text.now c.deref.result.now compiles c.verify.result c.verify.ensures.yes;
      no = verified-no c.args.specification.now c.args.text.now c.deref.result.now compiles c.verify.result c.verify.ensures.no;
      proved = verified-proved c.args.specification.now c.args.text.now c.deref.result.now compiles c.verify.result c.verify.ensures.sound;
    }

pub returns-in_default : goal.returns-in_default
returns-in_default c = record {
  yes = not-yes c.args.specification.now c.args.text.now c.compile.result _ c.in_default.not-Yes;
  no = not-fit c.args.specification.now c.args.text.now c.compile.result c.compile.ensures.no;
  proved = not-yes c.args.specification.now c.args.text.now c.compile.result _ c.in_default.not-Yes;
}
