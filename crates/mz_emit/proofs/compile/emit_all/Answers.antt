use Rattle.std.proofs.Common.{List, length, reverse, take, sym, ap, subst, arith}
use Rattle.mz_logic_theory.specs.DeclView.{declaration}
use Rattle.mz_type.specs.StatedView.{statements_of}
use Rattle.mz_type.specs.declared.typed.Beside.{Beside}
use Rattle.mz_type.proofs.Offered.{taken, fewer, turned}
use Rattle.mz_emit.specs.Emitting.{MayFollow}
use Rattle.mz_emit.proofs.Looping.{own_mode, all_follow, emitted_all, AreLeft, within, is_there, others_left, written_more, is_declared, all_taken}
use Rattle.mz_emit.proofs.compile.emit_all.Goals as goal

pub loop-beside-init : goal.loop-beside-init
loop-beside-init c =
    let now = c.reverse.new.self.items in
    let back = turned c.args.besides.items now c.reverse.ensures.items in
    let many = ap length back in
    record {
      left = record {
        many = omega (arith, c.requires.many, many);
        are = ap (statements_of c.args.env.now) back;
      };
      written = c.new-emitter.ensures;
      front = c.new-emitter.ensures.env;
    }

pub loop-beside-smaller : goal.loop-beside-smaller
loop-beside-smaller c =
    let one = fewer c.loop-beside.besides.items c.take_last.new.items.items c.in-Some.beside c.in-Some.ensures in
    omega (arith, one)

pub unreachable-requires : goal.unreachable-requires
unreachable-requires c =
    let at = c.loop-beside in
    let new = c.take_last.new.items.items in
    let left = subst (λ (bs : List Beside). AreLeft (statements_of c.args.env.now c.args.besides.items) c.args.env.now bs at.place) (taken at.besides.items new c.in-Some.beside c.in-Some.ensures) at.invariant.left in
    is_declared c.args.env.now at.place (length (reverse new)) left.many (sym c.in_default-get.ensures)

pub statement-requires-clause-there : goal.statement-requires-clause-there
statement-requires-clause-there c = sym c.in-Some-get.ensures

pub statement-requires-clause-before : goal.statement-requires-clause-before
statement-requires-clause-before c = c.loop-beside.invariant.front

pub statement-requires-clause-room : goal.statement-requires-clause-room
statement-requires-clause-room c =
    let at = c.loop-beside in
    let new = c.take_last.new.items.items in
    let left = subst (λ (bs : List Beside). AreLeft (statements_of c.args.env.now c.args.besides.items) c.args.env.now bs at.place) (taken at.besides.items new c.in-Some.beside c.in-Some.ensures) at.invariant.left in
    omega (arith, left.many, c.requires.few)

pub statement-requires-clause-next : goal.statement-requires-clause-next
statement-requires-clause-next c =
    let env = c.args.env.now in
    let ss = statements_of env c.args.besides.items in
    let mode = c.requires.legal.0 in
    let at = c.loop-beside in
    let new = c.take_last.new.items.items in
    let b = c.in-Some.beside in
    let d = declaration c.in-Some-get.decl.now in
    let left = subst (λ (bs : List Beside). AreLeft ss env bs at.place) (taken at.besides.items new b c.in-Some.ensures) at.invariant.left in
    let there = sym c.in-Some-get.ensures in
    let below = within ss env b (reverse new) at.place left d there in
    let follows = all_follow c.statements_can_be_words.ensures mode ss c.requires.legal.1 c.requires.within mode (own_mode mode ss c.requires.legal.1 c.requires.legal.2) at.place below in
    (mode, take at.place ss, record { before = at.invariant.written; follows = subst (MayFollow mode (take at.place ss)) (is_there ss env b (reverse new) at.place left d there) follows })

pub overflow_add-place : goal.overflow_add-place
overflow_add-place c =
    let at = c.loop-beside in
    let new = c.take_last.new.items.items in
    let left = subst (λ (bs : List Beside). AreLeft (statements_of c.args.env.now c.args.besides.items) c.args.env.now bs at.place) (taken at.besides.items new c.in-Some.beside c.in-Some.ensures) at.invariant.left in
    omega (arith, left.many, c.requires.few)

pub loop-beside-preserved : goal.loop-beside-preserved
loop-beside-preserved c =
    let env = c.args.env.now in
    let ss = statements_of env c.args.besides.items in
    let at = c.loop-beside in
    let rest = reverse c.take_last.new.items.items in
    let b = c.in-Some.beside in
    let d = declaration c.in-Some-get.decl.now in
    let left = subst (λ (bs : List Beside). AreLeft ss env bs at.place) (taken at.besides.items c.take_last.new.items.items b c.in-Some.ensures) at.invariant.left in
    let there = sym c.in-Some-get.ensures in
    record {
      left = others_left ss env b rest at.place left d there;
      written = written_more ss env b rest at.place left d there at.emitter c.statement.new.self c.in_ok-statement.ensures.emits at.invariant.written;
      front = c.in_ok-statement.ensures.before;
    }

pub loop-beside-preserved-in_ok-statement : goal.loop-beside-preserved-in_ok-statement
loop-beside-preserved-in_ok-statement c =
    let env = c.args.env.now in
    let ss = statements_of env c.args.besides.items in
    let at = c.loop-beside in
    let rest = reverse c.take_last.new.items.items in
    let b = c.in-Some.beside in
    let d = declaration c.in-Some-get.decl.now in
    let left = subst (λ (bs : List Beside). AreLeft ss env bs at.place) (taken at.besides.items c.take_last.new.items.items b c.in-Some.ensures) at.invariant.left in
    let there = sym c.in-Some-get.ensures in
    record {
      left = others_left ss env b rest at.place left d there;
      written = written_more ss env b rest at.place left d there at.emitter c.statement.new.self c.in_ok-statement.ensures.emits at.invariant.written;
      front = c.in_ok-statement.ensures.before;
    }

pub returns : goal.returns
returns c =
    let env = c.args.env.now in
    let ss = statements_of env c.args.besides.items in
    let at = c.loop-beside in
    let left = subst (λ (bs : List Beside). AreLeft ss env bs at.place) (ap reverse c.in_default.ensures) at.invariant.left in
    emitted_all ss at.place at.emitter (all_taken ss env at.place left) at.invariant.written
