-- The two-way book keeps the laws.
use Rattle.std.proofs.Common.{arith}
use Rattle.agreement.proofs.TwoWay.{two_way_laws}
use Rattle.agreement.proofs.two_way_courses.Goals as goal

pub returns-clause-lawful : goal.returns-clause-lawful
returns-clause-lawful c = λ n f third. two_way_laws n f (omega arith)
