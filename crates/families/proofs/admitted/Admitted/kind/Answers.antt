-- `families::admitted::Admitted::kind`: question 1 has been answered by yes, so the number names a kind.
use Rattle.std.proofs.Common.{arith}
use Rattle.families.proofs.FamilyFacts.{of_kind}
use Rattle.families.proofs.admitted.Admitted.kind.Goals as goal

pub overflow_sub-result : goal.overflow_sub-result
overflow_sub-result c = (of_kind _ _ c.args.self.passed).0

pub bounds-self : goal.bounds-self
bounds-self c = let p = of_kind _ _ c.args.self.passed in omega (arith, p.0, p.1)

pub returns : goal.returns
returns c = let p = of_kind _ _ c.args.self.passed in grind arith
