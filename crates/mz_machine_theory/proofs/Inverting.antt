-- Steps that did not fail, each handing its value on: so goals stay small over a chain of steps.
use Rattle.std.proofs.Common.{◌≡◌, ℕ, Bool, true, false, Option, Some, None, Result, Ok, Err, refl}
use Rattle.mz_cmd.specs.declared.rule.K.{K}
use Rattle.mz_machine_theory.specs.Steps.{◌>>=◌, ◌>>◌, need, want, rule_of, at_place}

pub from_bind : {A B F G : Type 0} (r : Result A F) (f : A → Result B F) (y : B) → (r >>= f) ≡ Ok y → ((x : A) → r ≡ Ok x → f x ≡ Ok y → G) → G
from_bind (Ok x) f y e go = go x refl e
from_bind (Err d) f y e go = absurd cc

pub from_then : {A B F G : Type 0} (r : Result A F) (s : Result B F) (y : B) → (r >> s) ≡ Ok y → ((x : A) → r ≡ Ok x → s ≡ Ok y → G) → G
from_then (Ok x) s y e go = go x refl e
from_then (Err d) s y e go = absurd cc

pub from_need : {B G : Type 0} (b : Bool) (rule : K) (s : Result B K) (y : B) → (need b rule >> s) ≡ Ok y → (b ≡ true → s ≡ Ok y → G) → G
from_need true rule s y e go = go refl e
from_need false rule s y e go = absurd cc

pub from_want : {A B G : Type 0} (o : Option A) (rule : K) (f : A → Result B K) (y : B) → (want o rule >>= f) ≡ Ok y → ((x : A) → o ≡ Some x → f x ≡ Ok y → G) → G
from_want (Some x) rule f y e go = go x refl e
from_want None rule f y e go = absurd cc

pub need_ok : (b : Bool) (rule : K) (x : Unit {0}) → need b rule ≡ Ok x → b ≡ true
need_ok true rule x e = refl
need_ok false rule x e = absurd cc

pub need-not : {A : Type 0} (b : Bool) (rule : K) (r : Result A K) (x : A) → b ≡ false → (need b rule >> r) ≡ Ok x → ⊥
need-not true rule r x f e = cc
need-not false rule r x f e = cc

pub rule_of-ok : {A : Type 0} (r : Result A (ℕ × K)) (x : A) → rule_of r ≡ Ok x → r ≡ Ok x
rule_of-ok (Ok y) x e = cc
rule_of-ok (Err f) x e = absurd cc

pub place-ok : {A : Type 0} (at : ℕ) (r : Result A K) (x : A) → at_place at r ≡ Ok x → r ≡ Ok x
place-ok at (Ok y) x e = cc
place-ok at (Err f) x e = absurd cc

pub some_is : {A : Type 0} {o : Option A} {x y : A} → o ≡ Some x → o ≡ Some y → x ≡ y
some_is p q = cc

abbrev pub taken : {A : Type 0} → A → Result A K
taken x = Ok x

pub taken-is : {A : Type 0} (x y : A) → taken x ≡ taken y → x ≡ y
taken-is x y e = cc
