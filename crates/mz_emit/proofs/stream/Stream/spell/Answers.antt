use Rattle.std.proofs.Common.{◌∙◌, [], refl, ap, subst, arith}
use Rattle.std.proofs.lemmas.List.{append-nil}
use Rattle.mz_logic_theory.specs.Tree.{trees_size}
use Rattle.mz_store.specs.Sharing.{AreIn, tree_of}
use Rattle.mz_emit.specs.Going.{Going, IsGoing, to_do}
use Rattle.mz_emit.proofs.Going.{job_of, start_going, end_going, popped, empty, next_going}
use Rattle.mz_emit.proofs.stream.Stream.spell.Goals as goal

pub spell_next-requires : goal.spell_next-requires
spell_next-requires c =
    let r = c.requires.can in
    record { can = (job_of r.0 r.1 r.2 c.args.self.now.out.items (tree_of c.args.store.now c.args.root.0), start_going r.0 r.1 c.args.store.now c.args.self.now r.2 c.args.root r.3 c.requires.inside r.4) }

pub loop-id-init : goal.loop-id-init
loop-id-init c = λ o g. g

pub spell_next-requires-in-Some : goal.spell_next-requires-in-Some
spell_next-requires-in-Some c =
    let r = c.requires.can in
    let o = job_of r.0 r.1 r.2 c.args.self.now.out.items (tree_of c.args.store.now c.args.root.0) in
    let g = start_going r.0 r.1 c.args.store.now c.args.self.now r.2 c.args.root r.3 c.requires.inside r.4 in
    record {
      can = (
        o,
        next_going o c.args.store.now c.loop-id.self c.pop.new.self.items c.in-Some.id (record c.loop-id.self { todo = c.pop.new.self }) c.in-Some.ensures.items refl refl refl refl (c.loop-id.invariant o (c.in_ok-spell_next.ensures.does o g)),
      );
    }

pub loop-id-smaller : goal.loop-id-smaller
loop-id-smaller c =
    let a = ap trees_size (popped c.args.store.now c.loop-id.self.todo.items c.pop.new.self.items c.in-Some.id c.in-Some.ensures.items) in
    let less = c.in_ok-spell_next-2.ensures.less in
    omega (arith, a, less)

pub loop-id-preserved : goal.loop-id-preserved
loop-id-preserved c = λ o g. c.in_ok-spell_next-2.ensures.does o
    (next_going o c.args.store.now c.loop-id.self c.pop.new.self.items c.in-Some.id (record c.loop-id.self { todo = c.pop.new.self }) c.in-Some.ensures.items refl refl refl refl (c.loop-id.invariant o g))

pub returns : goal.returns
returns c = record {
  does = λ ps ds w ready reach.
      let s = c.args.store.now in
      let o = job_of ps ds w c.args.self.now.out.items (tree_of s c.args.root.0) in
      let h = c.loop-id.invariant o (c.in_ok-spell_next.ensures.does o (start_going ps ds s c.args.self.now w c.args.root ready c.requires.inside reach)) in
      let same = c.in_default.ensures.items ∙ append-nil c.pop.new.self.items in
      let g : Going o s (record c.loop-id.self { todo = c.pop.new.self }) [] = (
        tt,
        subst (AreIn s) same h.1,
        subst (λ ids. IsGoing o s c.loop-id.self.heap.places.items c.loop-id.self.heap.len c.loop-id.self.met c.loop-id.self.out.items (to_do s ids)) same h.2,
      ) in
      end_going ps ds s c.args.self.now w c.args.root (record c.loop-id.self { todo = c.pop.new.self }) g (empty c.pop.new.self.items (let none = c.in_default.ensures.cases.1 in omega (arith, none, c.pop.new.self.ok.0)));
}
