use Rattle.std.proofs.Common.{take}
use Rattle.om_certificate.specs.Certificates.{AreLawful}
use Rattle.om_certificate.proofs.balance.first_unlawful.Given as goal

abbrev pub invariant-loop-i : goal.invariant-loop-i
invariant-loop-i l = AreLawful l.chi (take l.i l.entries)
