-- A system as the code holds it.
use Rattle.scaled.specs.System as Definition
use Rattle.scaled.specs.declared.system.System.{System}

abbrev pub system_of : System → Definition.System
system_of s = Definition.system s.n s.m s.k.now s.c.now s.e.now s.b.now
