-- Checks whose refusals are reported otherwise hold, fail and are decided as they themselves do.
use Rattle.std.proofs.Common.{inl, inr, ap}
use Rattle.mz_base.specs.Checks.{Checks, nothing, ask, retold, AllHold, FailsFirst, AreDecided}

pub retold-holds : {Q R : Type 0} (f : Q → R) (cs : Checks Q) → AllHold cs → AllHold (retold f cs)
retold-holds f nothing all = tt
retold-holds f (ask q P cs) all = (all.0, retold-holds f cs all.1)

pub retold-held : {Q R : Type 0} (f : Q → R) (cs : Checks Q) → AllHold (retold f cs) → AllHold cs
retold-held f nothing all = tt
retold-held f (ask q P cs) all = (all.0, retold-held f cs all.1)

pub retold-fails : {Q R : Type 0} (f : Q → R) (cs : Checks Q) (q : Q) → FailsFirst cs q → FailsFirst (retold f cs) (f q)
retold-fails f nothing q fails = absurd fails
retold-fails f (ask p P cs) q (inl (out, same)) = inl (out, ap f same)
retold-fails f (ask p P cs) q (inr (holds, rest)) = inr (holds, retold-fails f cs q rest)

pub retold-decided : {Q R : Type 0} (f : Q → R) (cs : Checks Q) → AreDecided cs → AreDecided (retold f cs)
retold-decided f nothing d = tt
retold-decided f (ask q P cs) d = (d.0, λ p. retold-decided f cs (d.1 p))
